-- Definitions for private functions and proofs. No contract of a public call cites them, so they need no signature.
pub mod Marked
pub mod MarkedMarkdown
