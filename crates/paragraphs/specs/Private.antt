-- Definitions for private functions and proofs. No contract of a public call cites them, so they need no signature.
pub mod Cuts
pub mod Gathered
pub mod Changes
pub mod Added
pub mod Ends
pub mod Open
pub mod PartStyles
pub mod PartSettings
pub mod Printable
pub mod Plain
pub mod FullLines
