pub mod Kinds
pub mod Rows
pub mod Symbols
pub mod Views
pub mod Told
pub mod Laws
pub mod Sizes
pub mod steps
