-- Definitions of private functions and proofs. No contract of a public call cites them, so they need no signature.
pub mod Chains
pub mod Growing
pub mod Known
pub mod Links
pub mod States
pub mod TableRows
pub mod Trail
pub mod Trie
pub mod Vectors
