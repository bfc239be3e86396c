pub mod Lines
pub mod steps
-- what a sink says of a text that is printed, of the crate below
pub use Rattle.macho_printing.specs.Printing
-- the job of a run, of the crate below
pub use Rattle.macho_job.specs.Job
pub use Rattle.macho_job.specs.Causes
pub use Rattle.macho_job.specs.Names
pub use Rattle.macho_job.specs.Refused
pub use Rattle.macho_job.specs.Linkers
pub use Rattle.macho_job.specs.Refusals
pub use Rattle.macho_job.specs.declared.fault.Fault
pub use Rattle.macho_job.specs.Heads
pub use Rattle.macho_job.specs.Search
pub use Rattle.macho_job.specs.declared.heads.Head
