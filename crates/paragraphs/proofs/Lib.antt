pub mod PlainParts
pub mod SetLines
pub mod ShiftedBreaks
pub mod WordsKept
pub mod PageRows
pub mod ShortParts
pub mod ShownTexts
pub mod Printable
pub mod PlainWords
mod OnePiece
mod WordBreaks
mod BareParts
pub mod WordLists
pub mod LinePieces
pub mod GatheredWords
pub mod LineTails
pub mod FullLines
pub mod WholeWords
pub mod OpenLines
