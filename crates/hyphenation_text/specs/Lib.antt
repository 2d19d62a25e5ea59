pub mod Dictionaries
pub mod Words
pub mod Places
pub mod Texts
pub mod Markdown
pub mod Laws
pub mod Private
