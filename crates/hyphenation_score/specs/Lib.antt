pub mod Scoring
pub mod OnePass
pub mod Counting
pub mod Winners
pub mod Laws
pub mod Private
