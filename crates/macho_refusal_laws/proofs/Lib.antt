pub mod Inputs
pub mod Clear
pub mod Told
pub mod Kept
-- what crates above take of those below
pub use Rattle.macho_reading.proofs.Refusals
