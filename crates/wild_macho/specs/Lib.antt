pub mod Runs
pub mod Prepared
pub mod steps
-- the job of a run, of the crates below, which clauses of `run` cite
pub use Rattle.macho_report.specs.Job
pub use Rattle.macho_report.specs.Heads
pub use Rattle.macho_report.specs.Search
pub use Rattle.macho_report.specs.Linkers
pub use Rattle.macho_report.specs.Head
-- and those that its passes cite
pub use Rattle.macho_report.specs.Causes
pub use Rattle.macho_report.specs.Names
pub use Rattle.macho_report.specs.Refusals
