-- Definitions for private functions and proofs. No contract of a public call cites them, so they are not for signing.
pub mod Readers
pub mod Failures
pub mod Lists
