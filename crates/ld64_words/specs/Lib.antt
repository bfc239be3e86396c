pub mod Rows
pub mod Words
pub mod Files
pub mod steps
