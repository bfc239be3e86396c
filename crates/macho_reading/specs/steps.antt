-- The steps of reading: rows with what they use, uses by relocations alone, and a link of which the carried relocations are noted.
pub mod Rows
pub mod Uses
pub mod Steps
