pub mod EqualsSign
pub mod OptionTexts
pub mod OptionsRead
pub mod Files
pub mod Telling
pub mod Adjusting
