-- Definitions for private functions and proofs. No contract of a public call cites them, so they are not for signing.
pub mod Found
pub mod Requests
pub mod Runs
