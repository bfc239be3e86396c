-- What words ask to be linked, before it is linked.
use Rattle.std.specs.Prelude.{◌≡◌, ◌⊎◌, ℕ, false, List}
use Rattle.std.specs.String.{string_bytes}
use Rattle.macho_args.specs.Settings.{Settings}
use Rattle.macho_args.specs.Store.{FileSystem}
use Rattle.macho_args.specs.SearchPaths.{IsParsed}
use Rattle.macho_model.specs.Faults.{bad_name}
use Rattle.macho_report.specs.Fault.{Fault}
use Rattle.macho_report.specs.Job.{Links, uuid_of}
use Rattle.macho_report.specs.Causes.{JobFails, WordsFail}
use Rattle.wild_macho.specs.declared.preparing.Job.{Job}

-- The words say settings; the linker holds the link of a job by them, whose paths can be written; beside it stand the identifier and the
-- output path of the settings.
pub record IsPrepared (words : List (List ℕ)) (files : FileSystem) (job : Job) : Type 0 where
  pub settings : Settings
  pub parsed : IsParsed files words settings
  pub paths : List (List ℕ)
  pub links : Links files.files settings paths job.linker
  pub named : bad_name job.linker ≡ false
  pub uuid : job.uuid ≡ uuid_of settings job.linker.inputs
  pub output : string_bytes job.output ≡ settings.output

-- a fault is one of the words, or of a job by the settings that they say
abbrev pub PrepareFails : List (List ℕ) → FileSystem → FileSystem → Fault → Type 0
PrepareFails words old new fault = WordsFail words fault
    ⊎ ((s : Settings) × (paths : List (List ℕ)) × IsParsed old words s × JobFails old.files s paths old.failed_reads new.failed_reads fault)
