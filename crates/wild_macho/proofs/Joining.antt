-- The passes of a run, joined.
--
-- What the link refuses is refused of the job. A fault that comes before the image is written is no failed write and no failed print,
-- since neither count has risen there. An image that is written and printed is that of the job, under the paths that its files were
-- read from. The words are read first, and change nothing; so the run of their settings is that of the words.
use Rattle.std.proofs.Common.{◌≡◌, ℕ, ◌⊎◌, inl, inr, refl, sym, ◌∙◌, subst, true, List, map, Option, Some, None, String}
use Rattle.std.specs.Prelude.{MatchOption, IfSome, false}
use Rattle.std.specs.String.{string_bytes}
use Rattle.macho_args.specs.Settings.{Settings, input_of}
use Rattle.macho_args.specs.declared.fields.InputSpec.{InputSpec}
use Rattle.macho_args.specs.declared.fault.ArgsFault.{ArgsFault}
use Rattle.macho_args.specs.declared.fault.ArgsFault.TheVariants as arg
use Rattle.macho_args.specs.SearchPaths.{IsRefused}
use Rattle.macho_args.specs.Store.{FileSystem, Store}
use Rattle.macho_model.specs.Links.{Link}
use Rattle.macho_model.specs.Faults.{bad_name}
use Rattle.macho_answer.specs.declared.fault.LinkError.{LinkError}
use Rattle.macho_answer.specs.declared.fault.LinkError.TheVariants as error
use Rattle.macho_answer.specs.declared.image.LinkedImage.{LinkedImage}
use Rattle.macho_report.specs.Linkers.{link_of}
use Rattle.macho_answer.specs.Linked.{RefusalStands}
use Rattle.macho_answer.specs.Linked.{IsImageOf}
use Rattle.macho_devices.specs.Devices.{OnlyReads, Printed}
use Rattle.macho_devices.specs.Faults.{CountRose}
use Rattle.macho_report.specs.Fault.{Fault}
use Rattle.macho_report.specs.Fault.TheVariants as fault
use Rattle.macho_report.specs.Causes.{status_of, JobFails, WordsFail}
use Rattle.macho_report.specs.Job.{Job, IsJob, Links, linked, paths_of, uuid_of}
use Rattle.macho_report.specs.Refused.{Tells}
use Rattle.macho_report.specs.Lines.{run_lines, fault_text, line_of}
use Rattle.macho_report.specs.Printing.{IsLineTold}
use Rattle.wild_macho.specs.declared.passes.Ran.{Ran}
use Rattle.wild_macho.specs.declared.passes.Made.{Made}
use Rattle.wild_macho.specs.steps.Made.{LeavesAll, LeavesOutput, LeavesLines, IsBadName, IsMade, IsLinkFault, EndsWith, EndsBare, EndFails, Finishes, Answers}
use Rattle.wild_macho.specs.Runs.{Devices, devices, LeavesImage, LeavesNothing, HasImage, HasCauseIn, RunFails, RunsBy}

-- a refusal of the link is one of the job that has this link
job-refused : (l : Link) (e : LinkError) → RefusalStands l e → (told : Option Store) (s : Settings) (paths : List (List ℕ))
    (old new : ℕ) → Links told s paths l
    → (job : Job) × IsJob told s job × (paths ≡ paths_of job) × RefusalStands (linked s job) e
job-refused l e stands told s paths old new links =
    (links.job, links.is, links.named, subst (λ (k : Link). RefusalStands k e) links.links stands)

-- a refusal of the link that is kept is one of the job
link-kept : (l : Link) (e : LinkError) → RefusalStands l e → (e ≡ error.OutOfMemory → ⊥) → IsLinkFault l (fault.Link e)
link-kept l (error.DuplicateSymbol name m n) stands other = record { fails = job-refused l (error.DuplicateSymbol name m n) stands }
link-kept l (error.UndefinedSymbol name n) stands other = record { fails = job-refused l (error.UndefinedSymbol name n) stands }
link-kept l (error.EntryNotDefined name) stands other = record { fails = job-refused l (error.EntryNotDefined name) stands }
link-kept l (error.ExportListMissing name) stands other = record { fails = job-refused l (error.ExportListMissing name) stands }
link-kept l (error.BadInitializer n k o) stands other = record { fails = job-refused l (error.BadInitializer n k o) stands }
link-kept l (error.BadUnwind n k i u) stands other = record { fails = job-refused l (error.BadUnwind n k i u) stands }
link-kept l (error.UnsupportedRelocation n k r) stands other = record { fails = job-refused l (error.UnsupportedRelocation n k r) stands }
link-kept l (error.OverlappingFields n k q r) stands other = record { fails = job-refused l (error.OverlappingFields n k q r) stands }
link-kept l (error.BindAddend n k r a) stands other = record { fails = job-refused l (error.BindAddend n k r a) stands }
link-kept l (error.FixupPlace n k r p) stands other = record { fails = job-refused l (error.FixupPlace n k r p) stands }
link-kept l (error.TooMany what n p) stands other = record { fails = job-refused l (error.TooMany what n p) stands }
link-kept l (error.ImageTooLarge p) stands other = record { fails = job-refused l (error.ImageTooLarge p) stands }
link-kept l (error.RebaseTarget at p) stands other = record { fails = job-refused l (error.RebaseTarget at p) stands }
link-kept l (error.RelocationRange at p) stands other = record { fails = job-refused l (error.RelocationRange at p) stands }
link-kept l error.BadName stands other = absurd stands
link-kept l (error.BadInput f) stands other = absurd stands
link-kept l error.OutOfMemory stands other = absurd (other refl)

-- so is any, as it is told
pub link-fails : (l : Link) (e : LinkError) (f : Fault) → RefusalStands l e → Tells e error.OutOfMemory (fault.Link e) f → IsLinkFault l f
link-fails l e f stands (inl told) = subst (IsLinkFault l) (sym told.1) (record { fails = λ told s paths old new links. tt })
link-fails l e f stands (inr told) = subst (IsLinkFault l) (sym told.1) (link-kept l e stands told.0)

-- a refusal of the words is that of the first argument that is not accepted
pub words-fail : (words : List (List ℕ)) (e : ArgsFault) (f : Fault) → (e ≡ arg.OutOfMemory) ⊎ IsRefused words e
    → Tells e arg.OutOfMemory (fault.Words e) f → WordsFail words f
words-fail words e f why (inl told) = subst (WordsFail words) (sym told.1) tt
words-fail words e f (inl memory) (inr told) = absurd (told.0 memory)
words-fail words e f (inr refused) (inr told) = subst (WordsFail words) (sym told.1) refused

-- what memory that ran out leaves
bare-leaves : (old new : Devices) (f : Option Fault) → f ≡ Some fault.OutOfMemory → LeavesAll old new → LeavesNothing f old new
bare-leaves old new f is same = subst (λ (g : Option Fault). LeavesNothing g old new) (sym is) same

-- what is left beside an image
both-left : (f : Option Fault) (old new : Devices) (path bytes text : List ℕ)
    → LeavesOutput f old.outside.files new.outside.files path bytes → LeavesLines f old.out new.out text
    → LeavesImage f old new path bytes text
both-left None old new path bytes text output lines = (output, lines)
both-left (Some fault.Write) old new path bytes text output lines = (output, lines)
both-left (Some fault.Print) old new path bytes text output lines = (output, lines)
both-left (Some fault.OutOfMemory) old new path bytes text output lines = output
both-left (Some (fault.MissingFile word)) old new path bytes text output lines = output
both-left (Some (fault.UnknownKind word kind)) old new path bytes text output lines = output
both-left (Some (fault.Input word refusal)) old new path bytes text output lines = output
both-left (Some (fault.Link refusal)) old new path bytes text output lines = output
both-left (Some (fault.Words refusal)) old new path bytes text output lines = output
both-left (Some (fault.Read word)) old new path bytes text output lines = output

-- the end of an image, by settings
end-image : (s : Settings) (paths : List (List ℕ)) (old new : Devices) (made : Made) (f : Option Fault) (image : Option LinkedImage)
    → IsMade old.outside.files s paths made → MatchOption image (EndsBare old new f) (EndsWith s paths made old new f)
    → MatchOption image (LeavesNothing f old new) (HasImage s old new f)
end-image s paths old new made f None is end = bare-leaves old new f end.memory end.same
end-image s paths old new made f (Some i) is end =
    let links = is.links in
    let image = subst (IsImageOf made.linker (uuid_of s made.linker.inputs)) (sym end.same) is.is_image in
    let left = both-left f old new s.output i.bytes.items (run_lines s made.linker paths i) end.left end.lines in
    let Lines : List (List ℕ) → Link → Type 0 = λ ps l. LeavesImage f old new s.output i.bytes.items (run_lines s l ps i) in
    record {
      job = links.job;
      is = links.is;
      is_image = subst (λ (l : Link). IsImageOf l (uuid_of s l.inputs) i) links.links image;
      left = subst (Lines (paths_of links.job)) links.links (subst (λ (ps : List (List ℕ)). Lines ps made.linker) links.named left);
    }

-- the cause of a fault at the end
end-cause : (s : Settings) (paths : List (List ℕ)) (old new : Devices) (f : Option Fault) → IfSome f (EndFails old new)
    → IfSome f (RunFails s paths old new)
end-cause s paths old new None why = tt
end-cause s paths old new (Some fault.Write) why = why
end-cause s paths old new (Some fault.Print) why = why
end-cause s paths old new (Some fault.OutOfMemory) why = tt
end-cause s paths old new (Some (fault.MissingFile word)) why = absurd why
end-cause s paths old new (Some (fault.UnknownKind word kind)) why = absurd why
end-cause s paths old new (Some (fault.Input word refusal)) why = absurd why
end-cause s paths old new (Some (fault.Link refusal)) why = absurd why
end-cause s paths old new (Some (fault.Words refusal)) why = absurd why
end-cause s paths old new (Some (fault.Read word)) why = absurd why

-- the write and the print of an image, as they are after reads
finishes-since : (s : Settings) (paths : List (List ℕ)) (made : Made) (told now later : FileSystem) (before after : Printed) (ran : Ran)
    → OnlyReads told now → Finishes s paths made (devices now before) (devices later after) ran
    → Finishes s paths made (devices told before) (devices later after) ran
finishes-since s paths made told now later before after ran kept ends = record {
  status = ends.status;
  image = image ran.image ends.image;
  why = why ran.fault ends.why;
}
  where
    old : Devices
    old = devices told before

    mid : Devices
    mid = devices now before

    new : Devices
    new = devices later after

    image : (i : Option LinkedImage) → MatchOption i (EndsBare mid new ran.fault) (EndsWith s paths made mid new ran.fault)
        → MatchOption i (EndsBare old new ran.fault) (EndsWith s paths made old new ran.fault)
    image None end = record { memory = end.memory; same = (end.same.0 ∙ kept.same_files, end.same.1) }
    image (Some i) end = record {
      same = end.same;
      left = subst (λ (o : Option Store). LeavesOutput ran.fault o later.files s.output i.bytes.items) kept.same_files end.left;
      lines = end.lines;
    }

    why : (f : Option Fault) → IfSome f (EndFails mid new) → IfSome f (EndFails old new)
    why None fails = tt
    why (Some fault.Write) fails = subst (λ (n : ℕ). CountRose n later.failed_writes) kept.same_failed_writes fails
    why (Some fault.Print) fails = fails
    why (Some fault.OutOfMemory) fails = tt
    why (Some (fault.MissingFile word)) fails = absurd fails
    why (Some (fault.UnknownKind word kind)) fails = absurd fails
    why (Some (fault.Input word refusal)) fails = absurd fails
    why (Some (fault.Link refusal)) fails = absurd fails
    why (Some (fault.Words refusal)) fails = absurd fails
    why (Some (fault.Read word)) fails = absurd fails

-- a run that comes to the write
pub answers-written : (s : Settings) (paths : List (List ℕ)) (made : Made) (told now later : FileSystem) (before after : Printed)
    (ran : Ran)
    → OnlyReads told now → IsMade told.files s paths made → bad_name (link_of s) ≡ false
    → Finishes s paths made (devices now before) (devices later after) ran
    → Answers s paths (devices told before) (devices later after) ran
answers-written s paths made told now later before after ran kept is named finished =
    let old : Devices = devices told before in
    let new : Devices = devices later after in
    let ends = finishes-since s paths made told now later before after ran kept finished in
    record {
      status = ends.status;
      image = end-image s paths old new made ran.fault ran.image is ends.image;
      why = end-cause s paths old new ran.fault ends.why;
      named = λ bad. let no : true ≡ false = sym bad ∙ named in absurd (let wrong : ⊥ = cc in wrong);
    }

-- a fault of the job is neither that of a write nor that of a print
job-cause : (s : Settings) (paths : List (List ℕ)) (told now : FileSystem) (out : Printed) (f : Fault)
    → JobFails told.files s paths told.failed_reads now.failed_reads f → RunFails s paths (devices told out) (devices now out) f
job-cause s paths told now out fault.Write why = absurd why
job-cause s paths told now out fault.Print why = absurd why
job-cause s paths told now out fault.OutOfMemory why = tt
job-cause s paths told now out (fault.MissingFile word) why = why
job-cause s paths told now out (fault.UnknownKind word kind) why = why
job-cause s paths told now out (fault.Input word refusal) why = why
job-cause s paths told now out (fault.Link refusal) why = why
job-cause s paths told now out (fault.Words refusal) why = why
job-cause s paths told now out (fault.Read word) why = why

-- a job that fails leaves nothing behind
job-leaves : (told : Option Store) (s : Settings) (paths : List (List ℕ)) (reads later : ℕ) (old new : Devices) (f : Fault)
    → JobFails told s paths reads later f → LeavesAll old new → LeavesNothing (Some f) old new
job-leaves told s paths reads later old new fault.Write why same = absurd why
job-leaves told s paths reads later old new fault.Print why same = absurd why
job-leaves told s paths reads later old new fault.OutOfMemory why same = same
job-leaves told s paths reads later old new (fault.MissingFile word) why same = same
job-leaves told s paths reads later old new (fault.UnknownKind word kind) why same = same
job-leaves told s paths reads later old new (fault.Input word refusal) why same = same
job-leaves told s paths reads later old new (fault.Link refusal) why same = same
job-leaves told s paths reads later old new (fault.Words refusal) why same = same
job-leaves told s paths reads later old new (fault.Read word) why same = same

-- a run that is refused before it comes to the write
pub answers-refused : (s : Settings) (paths : List (List ℕ)) (told now : FileSystem) (out : Printed) (ran : Ran) (f : Fault)
    → OnlyReads told now → JobFails told.files s paths told.failed_reads now.failed_reads f
    → (bad_name (link_of s) ≡ true → IsBadName (Some f))
    → ran.status ≡ status_of ran.fault → ran.image ≡ None → ran.fault ≡ Some f
    → Answers s paths (devices told out) (devices now out) ran
answers-refused s paths told now out ran f kept why named status image is =
    let old : Devices = devices told out in
    let new : Devices = devices now out in
    let Left : Option Fault → Option LinkedImage → Type 0 = λ g i. MatchOption i (LeavesNothing g old new) (HasImage s old new g) in
    record {
      status = status;
      image = subst (λ (g : Option Fault). Left g ran.image) (sym is) (subst (Left (Some f)) (sym image)
          (job-leaves told.files s paths told.failed_reads now.failed_reads old new f why (kept.same_files, refl)));
      why = subst (λ (g : Option Fault). IfSome g (RunFails s paths old new)) (sym is) (job-cause s paths told now out f why);
      named = subst (λ (g : Option Fault). bad_name (link_of s) ≡ true → IsBadName g) (sym is) named;
    }

-- a run that was answered, and whose fault was told
pub told-run : (s : Settings) (paths : List (List ℕ)) (old new : Devices) (before after : Printed) (ran : Ran) (f : Fault)
    → ran.fault ≡ Some f → Answers s paths old new ran
    → IsLineTold before after (line_of (fault_text s.inputs s.export_list_paths paths f)) → RunsBy s old new before after ran
told-run s paths old new before after ran f is answers line = record {
  image = answers.image;
  fault =
      let Q : Option Fault → Type 0 = λ g. IfSome g (HasCauseIn s old new before after) in
      let W : Option Fault → Type 0 = λ g. IfSome g (RunFails s paths old new) in
      subst Q (sym is) (record { paths = paths; why = subst W is answers.why; line = line });
  named = answers.named;
}

-- a run without a fault
pub quiet-run : (s : Settings) (paths : List (List ℕ)) (old new : Devices) (before after : Printed) (ran : Ran) → ran.fault ≡ None
    → Answers s paths old new ran → RunsBy s old new before after ran
quiet-run s paths old new before after ran is answers = record {
  image = answers.image;
  fault = let Q : Option Fault → Type 0 = λ g. IfSome g (HasCauseIn s old new before after) in subst Q (sym is) tt;
  named = answers.named;
}

-- the same line, told with the same inputs, lists and paths
pub same-line : {A : Type 0} (a b : Printed) (xs ys : List InputSpec) (us vs : List (ℕ × String A)) (ps qs : List (List ℕ)) (f : Fault)
    → xs ≡ ys → us ≡ vs → ps ≡ qs
    → IsLineTold a b (line_of (fault_text (map input_of xs) (map (λ list. (list.0, string_bytes list.1)) us) ps f))
    → IsLineTold a b (line_of (fault_text (map input_of ys) (map (λ list. (list.0, string_bytes list.1)) vs) qs f))
same-line {A} a b xs ys us vs ps qs f is1 is2 is3 line =
    subst (λ (zs : List (List ℕ)). IsLineTold a b
    (line_of (fault_text (map input_of ys) (map (λ list. (list.0, string_bytes list.1)) vs) zs f))) is3
    (subst (λ (ws : List (ℕ × String A)). IsLineTold a b
    (line_of (fault_text (map input_of ys) (map (λ list. (list.0, string_bytes list.1)) ws) ps f))) is2
    (subst (λ (zs : List InputSpec). IsLineTold a b
    (line_of (fault_text (map input_of zs) (map (λ list. (list.0, string_bytes list.1)) us) ps f))) is1 line))
