pub mod Scalars
pub mod Lines
pub mod Lists
pub mod Gathering
pub mod Writing
pub mod Entries
pub mod Documents
pub mod Alike
pub mod Rows
mod Words
