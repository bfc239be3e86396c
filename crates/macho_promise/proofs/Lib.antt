pub mod Stubs
pub mod Counted
pub mod FixupCounts
pub mod Plain
