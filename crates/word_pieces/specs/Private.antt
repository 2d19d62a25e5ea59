-- Definitions that private functions and proofs state. No contract of a public call cites them.
pub mod Kinds
pub mod Walks
