pub mod Composed
pub mod Laws
pub mod Private
