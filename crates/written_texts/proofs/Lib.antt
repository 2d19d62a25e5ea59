pub mod Prefixes
pub mod Leads
pub mod Steps
pub mod PageRows
pub mod Seen
pub mod Prose
pub mod KeptPrefixes
