pub mod Orders
pub mod Entries
pub mod Bounds
pub mod Plans
pub mod Calls
pub mod Laws
pub mod steps
