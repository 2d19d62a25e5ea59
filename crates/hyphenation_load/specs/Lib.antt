pub mod Load
pub mod Private
