pub mod PlainBreaks
pub mod Numbers
pub mod Requests
pub mod Runs
pub mod Unread
