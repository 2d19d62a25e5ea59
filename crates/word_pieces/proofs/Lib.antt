mod EveryValue
mod Tables
mod Verdicts
mod LetterRuns
mod PlainWalks
mod Bounds
mod Slices
mod Letters
mod LetterBlocks
pub mod Joining
