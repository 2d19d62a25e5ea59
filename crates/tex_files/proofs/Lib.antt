pub mod Gathering
pub mod Letters
pub mod Lexing
pub mod Grouping
pub mod Between
pub mod Skipping
pub mod Noting
pub mod Listings
