pub mod SegmentSteps
pub mod SegmentsJoin
pub mod Pushing
pub mod Listing
