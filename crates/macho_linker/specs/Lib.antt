pub mod Held
pub mod Linkers
pub mod Owned
pub mod Readings
pub mod Refusals
pub mod Shown
pub mod steps
