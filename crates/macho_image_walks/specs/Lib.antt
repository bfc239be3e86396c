pub mod Readings
pub mod Loaded
pub mod steps
pub mod Tests
