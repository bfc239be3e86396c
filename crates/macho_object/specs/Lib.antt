pub mod Views
-- definitions of crates below, which clauses of this one cite
pub use Rattle.macho_records.specs.Relocations
pub use Rattle.macho_model.specs.Objects
pub use Rattle.macho_model.specs.ObjectRules
pub use Rattle.macho_model.specs.Grammar
pub mod steps
pub use Rattle.macho_model.specs.Links
