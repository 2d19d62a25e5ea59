pub mod Private
pub mod Messages
pub mod Statuses
pub mod Arguments
