pub mod Gathers
pub mod Making
pub mod Objects
pub mod Determined
pub mod Sure
pub mod Refusing
