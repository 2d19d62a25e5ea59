pub mod Touching
pub mod Unread
pub mod Languages
pub mod LeftAlone
pub mod Places
pub mod Laws
pub mod Private
