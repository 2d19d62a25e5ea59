pub mod Joined
pub mod Drawings
pub mod Runs
