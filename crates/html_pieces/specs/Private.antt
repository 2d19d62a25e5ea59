-- Definitions that private functions and proofs state. No contract of a public call cites them.
pub mod Parts
pub mod Languages
pub mod Loose
pub mod Quiet
pub mod Read
