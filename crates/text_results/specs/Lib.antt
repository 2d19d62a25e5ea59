pub mod Private
pub mod Targets
pub mod Texts
pub mod Written
pub mod Reading
pub mod Files
pub mod Removals
