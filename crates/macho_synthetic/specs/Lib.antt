pub mod Entries
pub mod Made
pub mod Laws
pub mod steps
-- the rows of the crate below, and what it says of them
pub use Rattle.macho_consumed.specs.Symbols
pub use Rattle.macho_consumed.specs.declared.rows.PersonalityUse
pub use Rattle.macho_consumed.specs.declared.rows.UnwindEntry
