pub mod RowsSoFar
pub mod Prefixes
pub mod Fielding
pub mod EscapedTexts
pub mod Walks
pub mod Scores
