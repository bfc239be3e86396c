pub mod Prints
pub mod Bits
pub mod Rows
pub mod ConstantRows
