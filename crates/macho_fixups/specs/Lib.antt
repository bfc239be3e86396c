pub mod Words
pub mod Runs
pub mod Tables
pub mod Chains
pub mod Rows
pub mod Readings
pub mod Laws
pub mod Calls
-- definitions of crates below, which clauses of this one cite
pub use Rattle.macho_bytes.specs.Numbers
pub use Rattle.macho_bytes.specs.Texts
pub use Rattle.macho_model.specs.Images
pub use Rattle.macho_model.specs.Chain
pub use Rattle.macho_model.specs.Loader
pub use Rattle.macho_model.specs.LoadRules
pub use Rattle.macho_model.specs.Memory
pub mod steps
