-- What is known of a run between its passes.
use Rattle.std.specs.Prelude.{◌≡◌, ◌⊎◌, ℕ, true, false, List, Option, None, Some, MatchOption, IfSome}
use Rattle.macho_args.specs.Settings.{Settings}
use Rattle.macho_args.specs.Store.{Store}
use Rattle.macho_model.specs.Faults.{bad_name}
use Rattle.macho_model.specs.Links.{Link}
use Rattle.macho_answer.specs.Linked.{IsImageOf}
use Rattle.macho_answer.specs.declared.image.LinkedImage.{LinkedImage}
use Rattle.macho_devices.specs.Devices.{Printed, WritesFile, TornWrite, TakesBytes, TakesPrefix}
use Rattle.macho_devices.specs.Faults.{CountRose, CountsOn}
use Rattle.macho_answer.specs.declared.fault.LinkError.TheVariants.{BadName}
use Rattle.macho_report.specs.Fault.{Fault}
use Rattle.macho_report.specs.Fault.TheVariants.{Link as LinkFault, Write, Print, OutOfMemory}
use Rattle.macho_report.specs.Causes.{status_of, JobFails}
use Rattle.macho_report.specs.Job.{Links, uuid_of}
use Rattle.macho_report.specs.Lines.{run_lines}
use Rattle.macho_report.specs.Linkers.{link_of}
use Rattle.wild_macho.specs.declared.passes.Made.{Made}
use Rattle.wild_macho.specs.declared.passes.Ran.{Ran}
use Rattle.wild_macho.specs.Runs.{Devices, LeavesNothing, HasImage, RunFails}

-- the files are as they were, and nothing is printed
abbrev pub LeavesAll : Devices → Devices → Type 0
LeavesAll old new = (new.outside.files ≡ old.outside.files) × (new.out.taken ≡ old.out.taken)

-- the refusal of paths that can't be written, or want of memory
abbrev pub IsBadName : Option Fault → Type 0
IsBadName fault = (fault ≡ Some (LinkFault BadName)) ⊎ (fault ≡ Some OutOfMemory)

-- the link of settings, and its image
pub record IsMade (told : Option Store) (s : Settings) (paths : List (List ℕ)) (made : Made) : Type 0 where
  pub links : Links told s paths made.linker
  pub is_image : IsImageOf made.linker (uuid_of s made.linker.inputs) made.image

-- the refusal of a link: it is that of whatever settings link this
pub record IsLinkFault (l : Link) (fault : Fault) : Type 0 where
  pub fails : (told : Option Store) (s : Settings) (paths : List (List ℕ)) (old new : ℕ) → Links told s paths l
      → JobFails told s paths old new fault

-- what the output path holds beside an image, by the fault that came, and what is printed
abbrev pub LeavesOutput : Option Fault → Option Store → Option Store → List ℕ → List ℕ → Type 0
LeavesOutput None old new output bytes = WritesFile old new output bytes
LeavesOutput (Some Write) old new output bytes = TornWrite old new output bytes
LeavesOutput (Some Print) old new output bytes = WritesFile old new output bytes
LeavesOutput (Some fault) old new output bytes = ⊥

abbrev pub LeavesLines : Option Fault → Printed → Printed → List ℕ → Type 0
LeavesLines None old new text = TakesBytes old new text
LeavesLines (Some Write) old new text = new.taken ≡ old.taken
LeavesLines (Some Print) old new text = TakesPrefix old new text
LeavesLines (Some fault) old new text = ⊥

-- an image that is there is this one, written and printed as the fault tells
pub record EndsWith (s : Settings) (paths : List (List ℕ)) (made : Made) (old new : Devices) (fault : Option Fault)
    (image : LinkedImage) : Type 0 where
  pub same : image ≡ made.image
  pub left : LeavesOutput fault old.outside.files new.outside.files s.output image.bytes.items
  pub lines : LeavesLines fault old.out new.out (run_lines s made.linker paths image)

-- without an image memory ran out, and all is as it was
pub record EndsBare (old new : Devices) (fault : Option Fault) : Type 0 where
  pub memory : fault ≡ Some OutOfMemory
  pub same : LeavesAll old new

-- why the image isn't written, or its lines aren't printed
abbrev pub EndFails : (old new : Devices) → Fault → Type 0
EndFails old new Write = CountRose old.outside.failed_writes new.outside.failed_writes
EndFails old new Print = CountRose old.out.failed new.out.failed
EndFails old new OutOfMemory = Unit {0}
EndFails old new fault = ⊥

-- the same of lines alone
abbrev pub PrintFails : (old new : Printed) → Option Fault → Type 0
PrintFails old new None = Unit {0}
PrintFails old new (Some Print) = CountRose old.failed new.failed
PrintFails old new (Some fault) = ⊥

-- An image was printed: its lines, or the first of them where a print failed.
pub record Prints (s : Settings) (paths : List (List ℕ)) (made : Made) (old new : Printed) (ran : Ran) : Type 0 where
  pub status : ran.status ≡ status_of ran.fault
  pub image : ran.image ≡ Some made.image
  pub lines : LeavesLines ran.fault old new (run_lines s made.linker paths made.image)
  pub why : PrintFails old new ran.fault
  pub prints : CountsOn old.failed new.failed

-- An image was written and printed; or memory ran out. What a write and a print leave alone stays.
pub record Finishes (s : Settings) (paths : List (List ℕ)) (made : Made) (old new : Devices) (ran : Ran) : Type 0 where
  pub status : ran.status ≡ status_of ran.fault
  pub image : MatchOption ran.image (EndsBare old new ran.fault) (EndsWith s paths made old new ran.fault)
  pub why : IfSome ran.fault (EndFails old new)

-- A run by settings, but for the line of its fault; the files have these paths.
pub record Answers (s : Settings) (paths : List (List ℕ)) (old new : Devices) (ran : Ran) : Type 0 where
  pub status : ran.status ≡ status_of ran.fault
  pub image : MatchOption ran.image (LeavesNothing ran.fault old new) (HasImage s old new ran.fault)
  pub why : IfSome ran.fault (RunFails s paths old new)
  pub named : bad_name (link_of s) ≡ true → IsBadName ran.fault

-- settings that ask for no lines print nothing
abbrev pub IsSilent : {O : Type 0} → Settings → O → O → Type 0
IsSilent s old new = s.map_lines ≡ false → s.generate ≡ None → new ≡ old
