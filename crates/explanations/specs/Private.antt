-- Definitions of private functions and proofs. No contract of a public call cites them, so they need no signature.
pub mod Walking
pub mod Drawing
pub mod Knowing
