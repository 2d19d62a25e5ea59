pub mod Private
pub mod Arguments
pub mod Tags
pub mod Rejections
pub mod Messages
pub mod Failures
pub mod Written
pub mod Endings
