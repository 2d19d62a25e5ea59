pub mod Changes
pub mod Head
pub mod Levels
