pub mod Pieces
pub mod Private
