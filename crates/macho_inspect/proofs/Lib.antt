pub mod Tries
pub mod Texts
pub mod Rows
