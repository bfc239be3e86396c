pub mod Headers
pub mod Said
