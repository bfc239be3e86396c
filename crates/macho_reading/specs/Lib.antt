pub mod Read
pub mod Laws
pub mod steps
-- definitions of the crate below, which clauses of this one cite
pub use Rattle.macho_relocation_scan.specs.Surveys
