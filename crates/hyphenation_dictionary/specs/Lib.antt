pub mod Parts
pub mod Maker
pub mod Laws
pub mod Private
