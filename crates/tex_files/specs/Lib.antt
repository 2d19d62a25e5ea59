pub mod Spelling
pub mod Groups
pub mod Converting
pub mod Notes
pub mod Heads
pub mod TexFiles
pub mod ExceptionLists
pub mod Private
