pub mod Words
pub mod Paragraphs
pub mod Settings
pub mod Aims
pub mod Parts
pub mod Styles
pub mod Pages
pub mod Private
