pub mod Texts
pub mod Parts
pub mod Errors
pub mod Messages
pub mod Notes
