pub mod Canonical
pub mod Private
