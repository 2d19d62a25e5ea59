pub mod Bytes
pub mod States
pub mod Pieces
pub mod Laws
