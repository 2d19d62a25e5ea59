pub mod Heads
pub mod PlainPlaces
