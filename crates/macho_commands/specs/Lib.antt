pub mod Texts
pub mod Commands
pub mod Reading
pub mod Heads
pub mod Laws
pub mod steps
