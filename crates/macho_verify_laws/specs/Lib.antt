pub mod Loads
pub mod InFile
pub mod Laws
