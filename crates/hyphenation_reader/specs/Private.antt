-- Definitions for private functions and proofs. No contract of a public call cites them, so nobody need sign them.
pub mod Builder
pub mod Edits
pub mod Judging
pub mod Matched
pub mod Refusals
pub mod LineAnswers
pub mod Parsed
