pub mod Lists
pub mod Parts
pub mod Rules
pub mod steps
