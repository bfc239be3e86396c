pub mod Digits
pub mod Dots
pub mod Prefixes
pub mod Reading
pub mod Moves
pub mod Roots
mod Rows
