-- The steps of looking up.
pub mod Looked
pub mod Segments
pub mod Puts
