pub mod Heads
pub mod Search
pub mod Generator
pub mod Job
pub mod Names
pub mod Refused
pub mod Causes
pub mod steps
-- definitions of the crate below, which clauses of this one and above cite
pub use Rattle.macho_linker.specs.Linkers
pub use Rattle.macho_linker.specs.Refusals
