pub mod Fixups
pub mod Lists
pub mod steps
