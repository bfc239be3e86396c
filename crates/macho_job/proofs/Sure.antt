-- A job with nothing against it does not fail.
--
-- The store holds one text under a path, so what is linked is determined. Each cause of a fault then meets what is known of the
-- job: an input that was asked for is found, its bytes begin as an input and are one; a made object keeps the rules; a list is
-- held; no refusal of the link stands; and no count rose. Only want of memory is left.
use Rattle.std.proofs.Common.{◌≡◌, ℕ, suc, ◌<◌, arith, refl, ap, sym, subst, ◌∙◌, inl, inr, ◌⊎◌, true, false, Bool, List, [], ◌∷◌, ◌++◌, Option, Some, None, Ok, Contains, All}
use Rattle.std.proofs.lemmas.List.Elements.{All-contains}
use Rattle.std.specs.List.{AllZip}
use Rattle.macho_args.specs.Settings as args
use Rattle.macho_args.specs.Settings.{Settings}
use Rattle.macho_args.specs.Store.{Store}
use Rattle.macho_model.specs.Links.{StubReading, Input}
use Rattle.macho_model.specs.Faults.{bad_name}
use Rattle.macho_model.specs.Grammar.{IsObject, IsDylib}
use Rattle.macho_promise.specs.Inputs.{IsStubInput}
use Rattle.macho_promise.proofs.Stubs.{library_of}
use Rattle.macho_stub.specs.Library.{LibraryFields}
use Rattle.macho_stub.proofs.Answered.{answer_only, told}
use Rattle.macho_stub_lines.proofs.Bind.{no_ok}
use Rattle.macho_answer.specs.declared.fault.LinkError.{LinkError}
use Rattle.macho_answer.specs.declared.fault.LinkError.TheVariants as error
use Rattle.macho_answer.specs.declared.fault.InputFault.TheVariants as broken
use Rattle.macho_linker.specs.Linkers.{link_of}
use Rattle.macho_answer.specs.Linked.{RefusalStands}
use Rattle.macho_devices.specs.Faults.{last_count}
use Rattle.macho_job.specs.declared.fault.Fault.{Fault}
use Rattle.macho_job.specs.declared.fault.Fault.TheVariants as fault
use Rattle.macho_job.specs.declared.fault.InputKind.{InputKind}
use Rattle.macho_job.specs.declared.heads.Head.{Head}
use Rattle.macho_job.specs.declared.heads.Head.TheVariants as head
use Rattle.macho_job.specs.Heads.{head_of}
use Rattle.macho_job.specs.Search.{candidates_of, FileIs, IsFirstHeld}
use Rattle.macho_job.specs.Generator.{generated_object}
use Rattle.macho_job.specs.Job.{Job, IsJob, SourceFile, IsReadAs, IsTaken, IsListed, AreFiles, linked, paths_of}
use Rattle.macho_job.specs.Causes.{IsAsked, BytesRefused, MadeRefused, IsClear, LinkRefused, JobFails}
use Rattle.macho_job.proofs.Determined.{one-held, not-missing, job-once}

-- an element of a list has its partner
partner : {X Y : Type 0} (R : X → Y → Type 0) (before behind : List X) (x : X) (ys : List Y) → AllZip R (before ++ x ∷ behind) ys
    → (y : Y) × R x y
partner R [] behind x [] all = absurd all
partner R [] behind x (y ∷ ys) all = (y, all.0)
partner R (first ∷ before) behind x [] all = absurd all
partner R (first ∷ before) behind x (y ∷ ys) all = partner R before behind x ys all.1

-- a count that stands below its last value didn't rise
pub never-rose : (old new last : ℕ) → new ≡ old → old < last → (old < new) ⊎ (old ≡ last) → ⊥
never-rose old new last same below (inl rose) = omega arith
never-rose old new last same below (inr stood) = omega arith

-- an input that was asked for is taken
asked-file : (files : Store) (s : Settings) (word : ℕ) (asked : args.Input) (count : Option ℕ) (fs : List SourceFile) → s.generate ≡ count
    → AreFiles (Some files) s count fs → IsAsked (Some files) s word asked → (f : SourceFile) × IsTaken (Some files) s asked f
asked-file files s word asked None fs is are asks =
    partner (IsTaken (Some files) s) asks.before asks.behind asked fs
    (subst (λ (xs : List args.Input). AllZip (IsTaken (Some files) s) xs fs) asks.split are)
asked-file files s word asked (Some n) fs is are asks = absurd (let h : Some n ≡ None = sym is ∙ asks.alone in let no : ⊥ = cc in no)

-- a path that is held stands among the candidates
held-among : (files : Store) (paths : List (List ℕ)) (path bytes : List ℕ) → IsFirstHeld (Some files) paths path bytes
    → All (FileIs (Some files) None) paths → ⊥
held-among files paths path bytes first missing =
    not-missing files path bytes (All-contains (FileIs (Some files) None) paths path missing
    (subst (λ (ps : List (List ℕ)). Contains ps path) (sym first.split) (stands first.before path first.behind))) first.held
  where
    stands : (before : List (List ℕ)) (path : List ℕ) (behind : List (List ℕ)) → Contains (before ++ path ∷ behind) path
    stands [] path behind = (0, omega arith, refl)
    stands (x ∷ before) path behind = let c = stands before path behind in (suc c.0, omega (arith, c.1), c.2)

-- an object that keeps the rules isn't refused
object-refused : (bytes : List ℕ) (refusal : LinkError) → IsObject bytes → BytesRefused head.Object bytes refusal → ⊥
object-refused bytes (error.BadInput (broken.Object f)) object why = object.unbroken f.rule f.place why
object-refused bytes refusal object why = why

dylib-refused : (bytes : List ℕ) (refusal : LinkError) → IsDylib bytes → BytesRefused head.Dylib bytes refusal → ⊥
dylib-refused bytes (error.BadInput (broken.Object f)) dylib why = dylib.unbroken f.rule f.place why
dylib-refused bytes refusal dylib why = why

stub-refused : (bytes : List ℕ) (says : StubReading) (refusal : LinkError) → IsStubInput bytes says → BytesRefused head.Stub bytes refusal
    → ⊥
stub-refused bytes says (error.BadInput (broken.Stub line rule)) stub (inl why) =
    let it = library_of bytes says stub in
    no_ok line rule it.library
    (told (λ (l : LibraryFields). l) bytes (Ok it.library) line rule (answer_only bytes it.library it.in_grammar) why.1)
stub-refused bytes says (error.BadInput (broken.Stub line rule)) stub (inr why) = why.0 stub.utf8
stub-refused bytes says refusal stub why = why

-- bytes that are read as an input aren't refused
read-refused : (h : Head) (bytes : List ℕ) (input : Input) (refusal : LinkError) → IsReadAs h bytes input → BytesRefused h bytes refusal → ⊥
read-refused head.Object bytes input refusal read why = object-refused bytes refusal read.1 why
read-refused head.Dylib bytes input refusal read why = dylib-refused bytes refusal read.1 why
read-refused head.Stub bytes input refusal read why = stub-refused bytes read.0 refusal read.2 why
read-refused (head.Unknown kind) bytes input refusal read why = absurd read

-- an input that is taken begins as one
begins-unknown : (files : Store) (s : Settings) (asked : args.Input) (f : SourceFile) (kind : InputKind) (path bytes : List ℕ)
    → IsTaken (Some files) s asked f → IsFirstHeld (Some files) (candidates_of s asked.kind asked.name) path bytes
    → head_of bytes ≡ head.Unknown kind → ⊥
begins-unknown files s asked f kind path bytes taken found is =
    let same = one-held files (candidates_of s asked.kind asked.name) f.path path taken.bytes bytes taken.found found in
    subst (λ (h : Head). IsReadAs h taken.bytes f.input) (ap head_of same.bytes ∙ is) taken.is

-- an input that is taken isn't refused
taken-refused : (files : Store) (s : Settings) (asked : args.Input) (f : SourceFile) (refusal : LinkError) (path bytes : List ℕ)
    → IsTaken (Some files) s asked f → IsFirstHeld (Some files) (candidates_of s asked.kind asked.name) path bytes
    → BytesRefused (head_of bytes) bytes refusal → ⊥
taken-refused files s asked f refusal path bytes taken found refused =
    let same = one-held files (candidates_of s asked.kind asked.name) f.path path taken.bytes bytes taken.found found in
    let read = subst (λ (b : List ℕ). IsReadAs (head_of b) b f.input) same.bytes taken.is in
    read-refused (head_of bytes) bytes f.input refusal read refused

-- a made object isn't refused
made-refused : (files : Store) (s : Settings) (paths : List (List ℕ)) (i : ℕ) (refusal : LinkError) (fs : List SourceFile)
    → AreFiles (Some files) s s.generate fs → MadeRefused s paths i refusal → ⊥
made-refused files s paths i refusal fs are refused =
    let objects = subst (λ (o : Option ℕ). AreFiles (Some files) s o fs) refused.asked are in
    object-refused (generated_object i refused.count) refusal (objects.1 i refused.below) refused.refused

is-memory : LinkError → Bool
is-memory error.OutOfMemory = true
is-memory refusal = false

-- a refusal other than want of memory
other-refusal : (refusal : LinkError) → is-memory refusal ≡ false → refusal ≡ error.OutOfMemory → ⊥
unfolding is-memory
other-refusal refusal other same = let h : true ≡ false = sym (ap is-memory same) ∙ other in cc

-- What is known of a job that has nothing against it, by its settings.
record Known (files : Store) (s : Settings) (paths : List (List ℕ)) : Type 0 where
  named : bad_name (link_of s) ≡ false
  never : (e : LinkError) → is-memory e ≡ false
      → (other : Job) × IsJob (Some files) s other × (paths ≡ paths_of other) × RefusalStands (linked s other) e → ⊥

known : (files : Store) (s : Settings) (paths : List (List ℕ)) (job : Job) → IsJob (Some files) s job → IsClear (linked s job)
    → Known files s paths
known files s paths job is clear = record {
  named = clear.named;
  never = λ e other has.
      other-refusal e other (clear.nothing_stands e
      (subst (λ (j : Job). RefusalStands (linked s j) e) (job-once files s has.0 job has.1 is) has.3));
}

link-refused : (files : Store) (s : Settings) (paths : List (List ℕ)) (refusal : LinkError) → Known files s paths
    → LinkRefused (Some files) s paths refusal → ⊥
unfolding is-memory
link-refused files s paths error.BadName safe why = let no : true ≡ false = sym why ∙ safe.named in cc
link-refused files s paths (error.BadInput f) safe why = why.3
link-refused files s paths error.OutOfMemory safe why = why
link-refused files s paths (error.DuplicateSymbol name m n) safe why = safe.never (error.DuplicateSymbol name m n) refl why
link-refused files s paths (error.UndefinedSymbol name n) safe why = safe.never (error.UndefinedSymbol name n) refl why
link-refused files s paths (error.EntryNotDefined name) safe why = safe.never (error.EntryNotDefined name) refl why
link-refused files s paths (error.ExportListMissing name) safe why = safe.never (error.ExportListMissing name) refl why
link-refused files s paths (error.BadInitializer n k o) safe why = safe.never (error.BadInitializer n k o) refl why
link-refused files s paths (error.BadUnwind n k i u) safe why = safe.never (error.BadUnwind n k i u) refl why
link-refused files s paths (error.UnsupportedRelocation n k r) safe why = safe.never (error.UnsupportedRelocation n k r) refl why
link-refused files s paths (error.OverlappingFields n k q r) safe why = safe.never (error.OverlappingFields n k q r) refl why
link-refused files s paths (error.BindAddend n k r a) safe why = safe.never (error.BindAddend n k r a) refl why
link-refused files s paths (error.FixupPlace n k r p) safe why = safe.never (error.FixupPlace n k r p) refl why
link-refused files s paths (error.TooMany what n p) safe why = safe.never (error.TooMany what n p) refl why
link-refused files s paths (error.ImageTooLarge p) safe why = safe.never (error.ImageTooLarge p) refl why
link-refused files s paths (error.RebaseTarget at p) safe why = safe.never (error.RebaseTarget at p) refl why
link-refused files s paths (error.RelocationRange at p) safe why = safe.never (error.RelocationRange at p) refl why

-- THE fault of a job that has nothing against it, where no read failed: want of memory
pub sure-fault : (files : Store) (s : Settings) (paths : List (List ℕ)) (job : Job) (old new : ℕ) (f : Fault)
    → IsJob (Some files) s job → IsClear (linked s job)
    → new ≡ old → old < last_count → JobFails (Some files) s paths old new f → f ≡ fault.OutOfMemory
sure-fault files s paths job old new (fault.MissingFile word) is clear calm below (inl (asked, asks, missing)) =
    let f = asked-file files s word asked s.generate job.files refl is.files asks in
    absurd (held-among files (candidates_of s asked.kind asked.name) f.0.path f.1.bytes f.1.found missing)
sure-fault files s paths job old new (fault.MissingFile word) is clear calm below (inr (list, asks, missing)) =
    let text = partner (IsListed (Some files)) asks.before asks.behind (word, list) job.lists
    (subst (λ (xs : List (ℕ × List ℕ)). AllZip (IsListed (Some files)) xs job.lists) asks.split is.lists) in
    absurd (not-missing files list text.0 missing text.1)
sure-fault files s paths job old new (fault.UnknownKind word kind) is clear calm below (path, bytes, has, begins) =
    let f = asked-file files s word has.input s.generate job.files refl is.files has.asked in
    absurd (begins-unknown files s has.input f.0 kind path bytes f.1 has.found begins)
sure-fault files s paths job old new (fault.Input word refusal) is clear calm below (inl (path, bytes, has, last, refused)) =
    let f = asked-file files s word has.input s.generate job.files refl is.files has.asked in
    absurd (taken-refused files s has.input f.0 refusal path bytes f.1 has.found refused)
sure-fault files s paths job old new (fault.Input word refusal) is clear calm below (inr made) =
    absurd (made-refused files s paths word refusal job.files is.files made)
sure-fault files s paths job old new (fault.Link refusal) is clear calm below why =
    absurd (link-refused files s paths refusal (known files s paths job is clear) why)
sure-fault files s paths job old new (fault.Words refusal) is clear calm below why = absurd why
sure-fault files s paths job old new (fault.Read word) is clear calm below (asks, rose) =
    absurd (never-rose old new last_count calm below rose)
sure-fault files s paths job old new fault.Write is clear calm below why = absurd why
sure-fault files s paths job old new fault.Print is clear calm below why = absurd why
sure-fault files s paths job old new fault.OutOfMemory is clear calm below why = refl
