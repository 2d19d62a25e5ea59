-- Definitions for private functions and proofs. No contract of a public call cites them, so they need no signature.
pub mod Best
pub mod Ladder
pub mod Plain
pub mod Problem
pub mod Reaches
pub mod Table
