pub mod Splits
pub mod Heads
pub mod Signing
pub mod steps
