pub mod Asked
pub mod Sized
pub mod steps
pub mod Sections
