pub mod Codes
pub mod Cuts
pub mod Settings
pub mod Vectors
pub mod Growing
pub mod Sizes
