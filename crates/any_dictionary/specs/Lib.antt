pub mod Kinds
pub mod Dictionaries
pub mod Laws
pub mod Private
