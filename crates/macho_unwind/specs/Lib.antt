pub mod Layouts
pub mod Spellings
pub mod Sections
pub mod Lookup
pub mod Texts
pub mod Entries
pub mod Laws
-- definitions of the crate below, which clauses of this one cite
pub use Rattle.macho_unwind_pages.specs.Orders
pub use Rattle.macho_unwind_pages.specs.Bounds
pub use Rattle.macho_unwind_pages.specs.Plans
pub use Rattle.macho_unwind_pages.specs.Calls
pub mod steps
pub use Rattle.macho_unwind_pages.specs.declared.entries.UnwindInput
pub use Rattle.macho_unwind_pages.specs.declared.entries.Personality
pub use Rattle.macho_unwind_pages.specs.declared.entries.ResolvedUnwindInfo
