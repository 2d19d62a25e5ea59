pub mod Removed
pub mod Laws
