pub mod Fields
pub mod Entries
pub mod Archives
pub mod Views
pub mod steps
