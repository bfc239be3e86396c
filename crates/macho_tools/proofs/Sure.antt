-- A run with nothing against it is done, or memory runs out.
--
-- Its words ask for a job, so they are not refused. The file of the job is held and not refused, and no count has risen, so each fault but
-- want of memory has no cause.
use Rattle.std.proofs.Common.{◌≡◌, ℕ, ◌<◌, ◌⊎◌, inl, inr, refl, ap, subst, ◌∙◌, arith, List, Option, Some, None}
use Rattle.std.specs.FinMap.{get}
use Rattle.macho_args.specs.Store.{Store}
use Rattle.macho_devices.specs.Devices.{Printed, ReadsFile}
use Rattle.macho_devices.specs.Faults.{CountRose, last_count}
use Rattle.macho_tools.specs.declared.fault.ToolFault.{ToolFault}
use Rattle.macho_tools.specs.declared.fault.ToolFault.TheVariants as fault
use Rattle.macho_tools.specs.declared.fault.ToolRan.{ToolRan}
use Rattle.macho_tools.specs.Runs.{Tool, Devices, Ends, RefusesWords, IsToolRun, IsClear, NoneFailed, status_of}

-- a count that stayed below its last value didn't rise
stayed : (old new : ℕ) → new ≡ old → old < last_count → CountRose old new → ⊥
stayed old new same low (inl rose) = omega (arith, same, rose)
stayed old new same low (inr last) = omega (arith, last, low)

-- what a store tells of a path is one thing
one-answer : (told : Option Store) (files : Store) (path : List ℕ) (a b : Option (List ℕ)) → told ≡ Some files → ReadsFile told path a
    → get files path ≡ b → a ≡ b
one-answer told files path a b tells read is = subst (λ (s : Option Store). ReadsFile s path a) tells read ∙ is

abbrev OnlyMemory : {T : Type 0} → Option (ToolFault T) → Type 0
OnlyMemory f = (f ≡ None) ⊎ (f ≡ Some fault.OutOfMemory)

ends-well : {T : Type 0} (tool : Tool T) (job : tool.Job) (files : Store) (bytes : List ℕ) (old new : Devices) (f : Option (ToolFault T))
    → old.files.files ≡ Some files → get files (tool.task job).path ≡ Some bytes
    → ((told : T) → tool.Refuses job bytes told → ⊥) → NoneFailed old new → Ends tool job old new f → OnlyMemory f
ends-well tool job files bytes old new None tells held clear calm ends = inl refl
ends-well tool job files bytes old new (Some fault.OutOfMemory) tells held clear calm ends = inr refl
ends-well tool job files bytes old new (Some (fault.MissingFile word)) tells held clear calm ends =
    let never : None ≡ Some bytes = one-answer old.files.files files (tool.task job).path None (Some bytes) tells ends.1 held in cc
ends-well tool job files bytes old new (Some (fault.Refused told)) tells held clear calm (read, has, refuses, left) =
    let same = one-answer old.files.files files (tool.task job).path (Some read) (Some bytes) tells has held in
    let is : read ≡ bytes = cc in
    absurd (clear told (subst (λ (t : List ℕ). tool.Refuses job t told) is refuses))
ends-well tool job files bytes old new (Some fault.Words) tells held clear calm ends = absurd ends
ends-well tool job files bytes old new (Some (fault.Read word)) tells held clear calm (at, rose, left) =
    absurd (stayed old.files.failed_reads new.files.failed_reads calm.no_read calm.reads rose)
ends-well tool job files bytes old new (Some fault.Write) tells held clear calm (text, answer, breaks) =
    absurd (stayed old.files.failed_writes new.files.failed_writes calm.no_write calm.writes breaks.rose)
ends-well tool job files bytes old new (Some fault.Print) tells held clear calm (text, answer, breaks) =
    absurd (stayed old.out.failed new.out.failed calm.no_print calm.prints breaks.rose)

status-is : {T : Type 0} (status : ℕ) (f : Option (ToolFault T)) → status ≡ status_of f → OnlyMemory f → (status ≡ 0) ⊎ (status ≡ 5)
status-is status f is (inl none) = inl (is ∙ ap status_of none)
status-is status f is (inr memory) = inr (is ∙ ap status_of memory)

-- THE status of a run with nothing against it
pub clear-status : {T : Type 0} (tool : Tool T) (words : List (List ℕ)) (files : Store) (old new : Devices) (before after : Printed)
    (ran : ToolRan T) → IsToolRun tool words old new before after ran → old.files.files ≡ Some files → IsClear tool words files
    → NoneFailed old new → (ran.status ≡ 0) ⊎ (ran.status ≡ 5)
clear-status tool words files old new before after ran is tells clear calm =
    status-is ran.status ran.fault is.status (memory is.ended.run)
  where
    memory : RefusesWords tool words old new ran.fault ⊎ ((job : tool.Job) × tool.Asks words job × Ends tool job old new ran.fault)
        → OnlyMemory ran.fault
    memory (inl refused) = absurd (refused.none clear.said clear.asks)
    memory (inr (job, asks, ends)) =
        let held = clear.each job asks in
        ends-well tool job files held.0 old new ran.fault tells held.1 held.2 calm ends
