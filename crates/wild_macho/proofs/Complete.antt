-- A job with nothing against it does not fail.
--
-- The words say settings, so they break no row. Whatever settings they say have a job against which nothing stands, and then each
-- cause of a fault but want of memory fails (`Sure` of the job). So the run ends with one of two statuses.
use Rattle.std.proofs.Common.{◌≡◌, ℕ, ◌⊎◌, inl, inr, refl, sym, ap, subst, ◌∙◌, List, Option, Some, None, Ok, Err}
use Rattle.std.specs.Prelude.{IfSome}
use Rattle.macho_args.specs.Settings.{Settings}
use Rattle.macho_args.specs.Store.{FileSystem, Store}
use Rattle.macho_args.specs.SearchPaths.{IsParsed, IsRefused}
use Rattle.macho_args.specs.declared.fault.ArgsFault.{ArgsFault}
use Rattle.macho_model.specs.Links.{Link}
use Rattle.macho_answer.specs.declared.fault.LinkError.{LinkError}
use Rattle.macho_answer.specs.declared.fault.LinkError.TheVariants as error
use Rattle.macho_answer.specs.Linked.{RefusalStands}
use Rattle.macho_devices.specs.Devices.{Printed}
use Rattle.macho_devices.specs.Faults.{last_count}
use Rattle.macho_report.specs.Fault.{Fault}
use Rattle.macho_report.specs.Fault.TheVariants as fault
use Rattle.macho_report.specs.Causes.{status_of, IsClear, JobFails, WordsFail}
use Rattle.macho_report.specs.Job.{Job, IsJob, linked}
use Rattle.macho_report.proofs.Sure.{never-rose, sure-fault}
use Rattle.wild_macho.specs.declared.passes.Ran.{Ran}
use Rattle.wild_macho.specs.Runs.{Devices, DoesJobs, HasCauseIn, IsOwed, IsRun, NoneFailed, RefusesWords, RunFails, RunsBy, SayJob}

-- words that say settings aren't refused
said-not-refused : (words : List (List ℕ)) (files : FileSystem) (s : Settings) (f : ArgsFault) → IsParsed files words s
    → IsRefused words f → ⊥
said-not-refused words files s f says breaks =
    let h : Ok says.said ≡ Err f = sym says.read ∙ breaks.told says.canonical in cc

words-fault : (words : List (List ℕ)) (files : FileSystem) (s : Settings) (f : Fault) → IsParsed files words s → WordsFail words f
    → f ≡ fault.OutOfMemory
words-fault words files s (fault.Words refusal) says fails = absurd (said-not-refused words files s refusal says fails)
words-fault words files s fault.OutOfMemory says fails = refl
words-fault words files s (fault.MissingFile word) says fails = absurd fails
words-fault words files s (fault.UnknownKind word kind) says fails = absurd fails
words-fault words files s (fault.Input word refusal) says fails = absurd fails
words-fault words files s (fault.Link refusal) says fails = absurd fails
words-fault words files s (fault.Read word) says fails = absurd fails
words-fault words files s fault.Write says fails = absurd fails
words-fault words files s fault.Print says fails = absurd fails

-- the status of a run whose fault can only be want of memory
status-is : (status : ℕ) (f : Option Fault) → status ≡ status_of f → IfSome f (λ g. g ≡ fault.OutOfMemory) → (status ≡ 0) ⊎ (status ≡ 5)
status-is status None is memory = inl is
status-is status (Some f) is memory = inr (is ∙ ap (λ (g : Fault). status_of (Some g)) memory)

-- a fault of settings whose job has nothing against it
settings-fault : (s : Settings) (paths : List (List ℕ)) (job : Job) (files : Store) (old new : Devices) (f : Fault)
    → old.outside.files ≡ Some files → IsJob old.outside.files s job → IsClear (linked s job) → NoneFailed old new
    → RunFails s paths old new f → f ≡ fault.OutOfMemory
settings-fault s paths job files old new f told is clear calm = by f
  where
    asked : (g : Fault) → JobFails old.outside.files s paths old.outside.failed_reads new.outside.failed_reads g → g ≡ fault.OutOfMemory
    asked g fails =
        sure-fault files s paths job old.outside.failed_reads new.outside.failed_reads g
        (subst (λ (o : Option Store). IsJob o s job) told is) clear calm.reads.0 calm.reads.1
        (subst (λ (o : Option Store). JobFails o s paths old.outside.failed_reads new.outside.failed_reads g) told fails)

    by : (g : Fault) → RunFails s paths old new g → g ≡ fault.OutOfMemory
    by fault.Write rose =
        absurd (never-rose old.outside.failed_writes new.outside.failed_writes last_count calm.writes.0 calm.writes.1 rose)
    by fault.Print rose = absurd (never-rose old.out.failed new.out.failed last_count calm.prints.0 calm.prints.1 rose)
    by (fault.Words refusal) fails = asked (fault.Words refusal) fails
    by (fault.MissingFile word) fails = asked (fault.MissingFile word) fails
    by (fault.UnknownKind word kind) fails = asked (fault.UnknownKind word kind) fails
    by (fault.Input word refusal) fails = asked (fault.Input word refusal) fails
    by (fault.Link refusal) fails = asked (fault.Link refusal) fails
    by (fault.Read word) fails = asked (fault.Read word) fails
    by fault.OutOfMemory fails = refl

by-settings : (words : List (List ℕ)) (old new : Devices) (before after : Printed) (s : Settings) (f : Option Fault)
    → SayJob words old.outside IsClear → NoneFailed old new → IsParsed old.outside words s
    → IfSome f (HasCauseIn s old new before after) → IfSome f (λ g. g ≡ fault.OutOfMemory)
by-settings words old new before after s None sure calm says why = tt
by-settings words old new before after s (Some f) sure calm says why =
    let job = sure.each s says in
    settings-fault s why.paths job.0 sure.told.0 old new f sure.told.1 job.1 job.2 calm why.why

-- THE answer of a run whose job has nothing against it
pub sure-status : (words : List (List ℕ)) (old new : Devices) (before after : Printed) (ran : Ran) → IsRun words old new before after ran
    → DoesJobs IsClear words old new ran
sure-status words old new before after ran is sure calm = status-is ran.status ran.fault is.status (memory is.run)
  where
    Memory : Option Fault → Type 0
    Memory f = IfSome f (λ g. g ≡ fault.OutOfMemory)

    memory : RefusesWords words old new before after ran ⊎ ((s : Settings) × IsParsed old.outside words s
        × RunsBy s old new before after ran)
        → Memory ran.fault
    memory (inl r) = subst Memory (sym r.is) (words-fault words old.outside sure.said r.fault sure.says r.why)
    memory (inr (s, says, by)) = by-settings words old new before after s ran.fault sure calm says by.fault

-- a valid link is refused for want of memory alone
only_memory : (l : Link) (e : LinkError) → IsOwed l → RefusalStands l e → e ≡ error.OutOfMemory
only_memory l (error.DuplicateSymbol name m n) owed stands = stands.spared owed.counts owed.counted owed.valid
only_memory l (error.UndefinedSymbol name n) owed stands = stands.spared owed.counts owed.counted owed.valid
only_memory l (error.EntryNotDefined name) owed stands = stands.spared owed.counts owed.counted owed.valid
only_memory l (error.ExportListMissing name) owed stands = stands.spared owed.counts owed.counted owed.valid
only_memory l (error.BadInitializer n k o) owed stands = stands.spared owed.counts owed.counted owed.valid
only_memory l (error.BadUnwind n k i u) owed stands = stands.spared owed.counts owed.counted owed.valid
only_memory l (error.UnsupportedRelocation n k r) owed stands = stands.spared owed.counts owed.counted owed.valid
only_memory l (error.OverlappingFields n k q r) owed stands = stands.spared owed.counts owed.counted owed.valid
only_memory l (error.BindAddend n k r a) owed stands = stands.spared owed.counts owed.counted owed.valid
only_memory l (error.FixupPlace n k r p) owed stands = stands.spared owed.counts owed.counted owed.valid
only_memory l (error.TooMany what n p) owed stands = stands.spared owed.counts owed.counted owed.valid
only_memory l (error.ImageTooLarge p) owed stands = stands.spared owed.counts owed.counted owed.valid
only_memory l (error.RebaseTarget at p) owed stands = stands.spared owed.counts owed.counted owed.valid
only_memory l (error.RelocationRange at p) owed stands = stands.spared owed.counts owed.counted owed.valid
only_memory l error.BadName owed stands = absurd stands
only_memory l (error.BadInput f) owed stands = absurd stands
only_memory l error.OutOfMemory owed stands = refl

-- nothing stands against a job that is answered
pub sure_of : (words : List (List ℕ)) (files : FileSystem) → SayJob words files IsOwed → SayJob words files IsClear
sure_of words files answered = record {
  told = answered.told;
  said = answered.said;
  says = answered.says;
  each = λ s says.
      let job = answered.each s says in
      (job.0, job.1, record { named = job.2.named; nothing_stands = λ refusal stands. only_memory (linked s job.0) refusal job.2 stands });
}

-- THE answer of a run whose link is owed an image
pub owed-status : (words : List (List ℕ)) (old new : Devices) (before after : Printed) (ran : Ran) → IsRun words old new before after ran
    → DoesJobs IsOwed words old new ran
owed-status words old new before after ran is owed calm =
    sure-status words old new before after ran is (sure_of words old.outside owed) calm
