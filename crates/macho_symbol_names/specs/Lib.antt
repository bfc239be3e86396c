pub mod Events
pub mod Found
pub mod Hashing
pub mod Kept
pub mod Notes
pub mod Tables
pub mod Texts
pub mod steps
