pub mod Charsets
pub mod LibreOfficeLines
pub mod LibreOfficePatterns
pub mod LibreOffice
pub mod Longest
pub mod Changes
pub mod Notes
pub mod Private
