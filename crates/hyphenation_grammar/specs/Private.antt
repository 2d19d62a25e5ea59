-- Definitions for private functions and proofs. No contract of a public call cites them, so nobody need sign them.
pub mod Examples
pub mod Lines
pub mod Tokens
