pub mod Kinds
pub mod Fields
pub mod Relaxations
pub mod Stubs
pub mod Laws
-- definitions of the crate below, which clauses of this one cite
pub use Rattle.macho_model.specs.Words
pub use Rattle.macho_model.specs.Meaning
pub use Rattle.macho_model.specs.Values
pub use Rattle.macho_model.specs.Rows
