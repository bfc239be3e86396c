pub mod Joining
pub mod Complete
