pub mod Inputs
pub mod TrieSays
pub mod Sizes
pub mod UnwindSays
pub mod FixupsSay
pub mod Promise
-- the records of the crate below that its fixups and its segments are
pub use Rattle.macho_fixups.specs.declared.run.Fixup
pub use Rattle.macho_fixups.specs.declared.run.FixupSegment
pub mod steps
pub mod Views
pub mod Noted
pub mod Sound
pub mod Filled
pub mod Asked

-- what a fixup is of, in the crate below
