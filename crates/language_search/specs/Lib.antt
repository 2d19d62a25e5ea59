pub mod Tags
pub mod Names
pub mod Paths
pub mod Folders
pub mod Laws
pub mod Private
