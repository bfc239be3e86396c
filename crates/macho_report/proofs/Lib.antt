pub mod Words
pub mod Listed
pub use Rattle.macho_job.proofs.Sure
