-- Definitions for private functions and proofs. No contract of a public call cites them.
pub mod Cuts
pub mod Views
pub mod Added
