pub mod Fits
pub mod Segments
pub mod Laws
pub mod Remaining
pub mod ChangedSegments
pub mod Private
