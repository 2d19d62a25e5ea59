pub mod Slices
pub mod PieceSteps
pub mod WholeTexts
pub mod PlainBytes
pub mod OtherTexts
