pub mod Refusals
pub mod Edits
pub mod Laws
pub mod Private
