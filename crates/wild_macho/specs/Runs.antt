-- THE promise of a run: what it answers, what it prints, and what it leaves.
use Rattle.std.specs.Prelude.{◌≡◌, ℕ, ◌<◌, ◌⊎◌, true, false, List, [], Option, None, Some, MatchOption, IfSome}
use Rattle.macho_args.specs.Settings.{Settings}
use Rattle.macho_args.specs.Store.{FileSystem, Store}
use Rattle.macho_args.specs.SearchPaths.{IsParsed}
use Rattle.macho_model.specs.Faults.{bad_name}
use Rattle.macho_model.specs.Links.{Link}
use Rattle.macho_model.specs.Valid.{IsValid}
use Rattle.macho_model.specs.declared.placed.Counts.{Counts}
use Rattle.macho_promise.specs.Sizes.{AreCounts}
use Rattle.macho_answer.specs.declared.fault.LinkError.TheVariants.{BadName}
use Rattle.macho_report.specs.Linkers.{link_of}
use Rattle.macho_answer.specs.declared.image.LinkedImage.{LinkedImage}
use Rattle.macho_answer.specs.Linked.{IsImageOf}
use Rattle.macho_devices.specs.Devices.{Printed, WritesFile, TornWrite, TakesBytes, TakesPrefix}
use Rattle.macho_devices.specs.Faults.{CountRose, CountsOn, last_count}
use Rattle.macho_report.specs.Fault.{Fault}
use Rattle.macho_report.specs.Fault.TheVariants.{Link as LinkFault, Write, Print, OutOfMemory}
use Rattle.macho_report.specs.Job.{Job, IsJob, linked, paths_of, uuid_of}
use Rattle.macho_report.specs.Causes.{status_of, JobFails, WordsFail}
use Rattle.macho_report.specs.Lines.{fault_text, line_of, run_lines}
use Rattle.macho_report.specs.Printing.{IsLineTold}
use Rattle.wild_macho.specs.declared.passes.Ran.{Ran}

-- What the devices of a run tell: the files outside, and what was printed. (A fault's line is printed to a third, which is told apart.)
pub record Devices : Type 0 where
  pub outside : FileSystem
  pub out : Printed

-- these files and this output
abbrev pub devices : FileSystem → Printed → Devices
devices outside out = record { outside = outside; out = out }

-- Directories and canonical paths stay, and no count falls.
pub record GoesOn (old new : Devices) : Type 0 where
  pub same_directories : new.outside.directories ≡ old.outside.directories
  pub same_canonical_paths : new.outside.canonical_paths ≡ old.outside.canonical_paths
  pub reads : CountsOn old.outside.failed_reads new.outside.failed_reads
  pub writes : CountsOn old.outside.failed_writes new.outside.failed_writes
  pub prints : CountsOn old.out.failed new.out.failed

-- What a run by settings leaves beside an image, a row for each fault. Without one the output path holds the image, and the lines are
-- printed. After a failed write the path holds a first part of the image, or what it held, and nothing is printed; after a failed print
-- it holds the image, and a first part of the lines is printed. Every other path holds what it held. No other fault comes beside an image.
abbrev pub LeavesImage : Option Fault → (old new : Devices) → (at bytes text : List ℕ) → Type 0
LeavesImage None old new at bytes text = WritesFile old.outside.files new.outside.files at bytes × TakesBytes old.out new.out text
LeavesImage (Some Write) old new at bytes text = TornWrite old.outside.files new.outside.files at bytes × (new.out.taken ≡ old.out.taken)
LeavesImage (Some Print) old new at bytes text = WritesFile old.outside.files new.outside.files at bytes × TakesPrefix old.out new.out text
LeavesImage (Some fault) old new at bytes text = ⊥

-- Without an image there is a fault, that of no write and no print, and nothing is left behind: the files are as they were, and
-- nothing is printed.
abbrev pub LeavesNothing : Option Fault → Devices → Devices → Type 0
LeavesNothing None old new = ⊥
LeavesNothing (Some Write) old new = ⊥
LeavesNothing (Some Print) old new = ⊥
LeavesNothing (Some fault) old new = (new.outside.files ≡ old.outside.files) × (new.out.taken ≡ old.out.taken)

-- THE image of a run by settings: that of their job, by the files as they were before the run, with the identifier of the job; and what
-- is left beside it, with the lines that the settings ask for.
pub record HasImage (s : Settings) (old new : Devices) (fault : Option Fault) (image : LinkedImage) : Type 0 where
  pub job : Job
  pub is : IsJob old.outside.files s job
  pub is_image : IsImageOf (linked s job) (uuid_of s (linked s job).inputs) image
  pub left : LeavesImage fault old new s.output image.bytes.items (run_lines s (linked s job) (paths_of job) image)

-- THE causes of the faults of a run by settings: those of its job, and a write or a print that failed.
abbrev pub RunFails : Settings → List (List ℕ) → (old new : Devices) → Fault → Type 0
RunFails s paths old new Write = CountRose old.outside.failed_writes new.outside.failed_writes
RunFails s paths old new Print = CountRose old.out.failed new.out.failed
RunFails s paths old new fault = JobFails old.outside.files s paths old.outside.failed_reads new.outside.failed_reads fault

-- A fault of settings has its cause, by the files that were read, and its line is told.
pub record HasCauseIn (s : Settings) (old new : Devices) (before after : Printed) (fault : Fault) : Type 0 where
  pub paths : List (List ℕ)
  pub why : RunFails s paths old new fault
  pub line : IsLineTold before after (line_of (fault_text s.inputs s.export_list_paths paths fault))

-- A run by settings: an image is that of the job, and without one nothing is left behind; a fault has its cause, and is told.
pub record RunsBy (s : Settings) (old new : Devices) (before after : Printed) (ran : Ran) : Type 0 where
  pub image : MatchOption ran.image (LeavesNothing ran.fault old new) (HasImage s old new ran.fault)
  pub fault : IfSome ran.fault (HasCauseIn s old new before after)
  -- paths that can't be written are told before an input is read, where there is memory
  pub named : bad_name (link_of s) ≡ true → (ran.fault ≡ Some (LinkFault BadName)) ⊎ (ran.fault ≡ Some OutOfMemory)

-- A run whose words are refused: the fault is that of the first argument that is not accepted, or want of memory. It is told, without
-- an input or an export list that it could name. There is no image, and nothing changes.
pub record RefusesWords (words : List (List ℕ)) (old new : Devices) (before after : Printed) (ran : Ran) : Type 0 where
  pub fault : Fault
  pub is : ran.fault ≡ Some fault
  pub why : WordsFail words fault
  pub line : IsLineTold before after (line_of (fault_text [] [] [] fault))
  pub image : ran.image ≡ None
  pub same : new ≡ old

-- THE promise of a run: the status is that of the fault, 0 exactly where there is none; and its words are refused, or they say settings
-- by which it runs.
pub record IsRun (words : List (List ℕ)) (old new : Devices) (before after : Printed) (ran : Ran) : Type 0 where
  pub status : ran.status ≡ status_of ran.fault
  pub run : RefusesWords words old new before after ran
      ⊎ ((s : Settings) × IsParsed old.outside words s × RunsBy s old new before after ran)

-- the words ask for no lines
abbrev pub AskForNoLines : List (List ℕ) → FileSystem → Type 0
AskForNoLines words files = (s : Settings) → IsParsed files words s → (s.map_lines ≡ false) × (s.generate ≡ None)

-- Words that say a job whose link has the property `IsSuch`, by files that are told. Where all is told outside, words say one thing; where
-- directories or canonical paths aren't told, it is whatever they may say.
pub record SayJob (words : List (List ℕ)) (files : FileSystem) (IsSuch : Link → Type 0) : Type 0 where
  pub told : (store : Store) × (files.files ≡ Some store)
  pub said : Settings
  pub says : IsParsed files words said
  pub each : (s : Settings) → IsParsed files words s → (job : Job) × IsJob files.files s job × IsSuch (linked s job)

-- the count stood, below its last value
abbrev pub Stood : (old new : ℕ) → Type 0
Stood old new = (new ≡ old) × (old < last_count)

-- No device of a run failed, and none stands at the last value of its count.
pub record NoneFailed (old new : Devices) : Type 0 where
  pub reads : Stood old.outside.failed_reads new.outside.failed_reads
  pub writes : Stood old.outside.failed_writes new.outside.failed_writes
  pub prints : Stood old.out.failed new.out.failed

-- Where the words say a job whose link has the property, and no device failed, the status is 0; or memory ran out.
abbrev pub DoesJobs : (IsSuch : Link → Type 0) → List (List ℕ) → (old new : Devices) → Ran → Type 0
DoesJobs IsSuch words old new ran = SayJob words old.outside IsSuch → NoneFailed old new → (ran.status ≡ 0) ⊎ (ran.status ≡ 5)

-- A link that is owed an image wherever there is memory: its paths can be written, and it is valid, by its sizes.
pub record IsOwed (l : Link) : Type 0 where
  pub named : bad_name l ≡ false
  pub counts : Counts
  pub counted : AreCounts l counts
  pub valid : IsValid l counts
