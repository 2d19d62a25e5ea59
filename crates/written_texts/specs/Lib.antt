pub mod Prefixes
pub mod Kept
pub mod Blocks
pub mod Written
pub mod Laws
pub mod Private
