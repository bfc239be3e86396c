pub mod Chaining
pub mod Writing
pub mod ChainingLaws
pub mod FillingLaws
pub mod Fitting
pub mod Filled
pub mod steps
-- definitions of the crate below, which clauses of this one cite
pub use Rattle.macho_places.specs.Places
