-- The steps of filling: how a field is read, what is written to it or asked for it, and a section while it is filled.
pub mod Fields
pub mod Writes
pub mod Filled
pub mod Sections
pub mod Kinds
pub mod Stubs
pub mod Pointers
pub mod Reads
