pub mod LanguageCodes
pub mod PlacesInOrder
pub mod Changes
pub mod Boundaries
pub mod LiesIn
