pub mod Inputs
pub mod Needs
pub mod Laws
pub mod Views
pub mod steps
