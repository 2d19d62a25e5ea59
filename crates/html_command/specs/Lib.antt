pub mod Private
pub mod Arguments
pub mod Dictionaries
pub mod Varieties
pub mod Notes
pub mod Written
