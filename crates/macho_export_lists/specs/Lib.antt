pub mod Entries
pub mod steps
