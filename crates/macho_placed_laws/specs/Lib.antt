pub mod Agreement
pub mod Targets
-- definitions of the crate below, which clauses of this one cite
pub use Rattle.macho_commands.specs.Laws as Heads
pub use Rattle.macho_promise.specs.Promise
pub use Rattle.macho_promise.specs.Sizes
pub mod Ranges
pub mod Parts
