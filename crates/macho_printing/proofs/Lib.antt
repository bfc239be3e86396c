pub mod Prints
pub mod Pushes
