pub mod Private
pub mod Arguments
pub mod Written
