pub mod Options
pub mod Breaks
pub mod Ends
pub mod Libraries
pub mod Passes
pub mod Powers
pub mod Refusals
pub mod Wholes
pub mod Places
-- lemmas of a crate below, which crates above cite
pub use Rattle.macho_model.proofs.ObjectLaws
