pub mod Placed
pub mod Exports
pub mod Rows
pub mod Laws
pub mod steps
