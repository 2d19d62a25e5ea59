pub mod Codes
pub mod Fronts
pub mod Pushed
pub mod StaysInside
pub mod LetterCase
