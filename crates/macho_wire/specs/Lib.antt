pub mod Layouts
pub mod Relocations
pub mod Spellings
