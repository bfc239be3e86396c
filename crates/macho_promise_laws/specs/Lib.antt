pub mod Whole
pub mod Written
pub mod Meaning
-- what crates above take of those below
pub use Rattle.macho_contents.specs.Filled
pub use Rattle.macho_contents.specs.Places
pub use Rattle.macho_contents.specs.Fitting
pub use Rattle.macho_contents.specs.Chaining
pub use Rattle.macho_contents.specs.Writing
pub use Rattle.macho_synthetic.specs.declared.fault.MadeFault
pub use Rattle.macho_synthetic.specs.Made
pub use Rattle.macho_synthetic.specs.Symbols
pub use Rattle.macho_synthetic.specs.PersonalityUse
pub use Rattle.macho_synthetic.specs.Entries
pub use Rattle.macho_synthetic.specs.Laws
pub use Rattle.macho_synthetic.specs.UnwindEntry
pub use Rattle.macho_writing_laws.specs.Names
pub use Rattle.macho_writing_laws.specs.Entries as FoundEntries
pub use Rattle.macho_writing_laws.specs.Premises
pub use Rattle.macho_writing_laws.specs.Sizes as FoundSizes
pub use Rattle.macho_placed_laws.specs.Parts
