pub mod Looked
pub mod Places
pub mod steps
pub mod Lookups
