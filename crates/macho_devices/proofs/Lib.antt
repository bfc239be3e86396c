pub mod Lookups
pub mod Streams
pub mod Beside
pub mod Counts
