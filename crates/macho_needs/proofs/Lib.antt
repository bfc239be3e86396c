pub mod Mapped
pub mod Deciding
pub mod Growing
pub mod Staying
pub mod Using
pub mod Pointers
pub mod Whole
pub mod Undefined
