pub mod Canonical
pub mod Laws
pub mod Private
