-- The steps of the walk.
pub mod Windows
pub mod Supported
pub mod Overlaps
pub mod Found
pub mod Sections
