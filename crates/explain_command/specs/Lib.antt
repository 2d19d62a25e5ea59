pub mod Private
pub mod Arguments
pub mod Explained
pub mod Endings
