pub mod Names
pub mod Reading
pub mod ReplacedFiles
pub mod Removing
