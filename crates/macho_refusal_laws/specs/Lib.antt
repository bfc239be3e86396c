pub mod Inputs
pub mod Refusals
pub mod Kept
-- what crates above take of those below
pub use Rattle.macho_reading.specs.Read
pub use Rattle.macho_reading.specs.declared.link.ReadLink
pub use Rattle.macho_reading.specs.Surveys
pub use Rattle.macho_writing_laws.specs.Valid
