-- The job of settings is determined by the files that are held.
--
-- The first path that holds a file is one, by induction along the paths: a path in front of it holds none. A path holds one text.
-- Bytes are read as one input: their head tells its kind, and a stub's text says what its one reading says. So each file of the
-- link is determined, and so are the texts of the lists; made objects are what they are.
use Rattle.std.proofs.Common.{◌≡◌, ℕ, refl, ap, sym, subst, ◌∙◌, List, [], ◌∷◌, ◌++◌, Option, Some, None, Ok, All}
use Rattle.std.proofs.lemmas.List.Elements.{All-head, All-tail}
use Rattle.std.specs.List.{AllZip}
use Rattle.std.specs.FinMap.{get}
use Rattle.macho_args.specs.Settings as args
use Rattle.macho_args.specs.Settings.{Settings}
use Rattle.macho_args.specs.Store.{Store}
use Rattle.macho_model.specs.Links.{StubReading, Input, Stub}
use Rattle.macho_promise.specs.Inputs.{IsStubInput}
use Rattle.macho_linker.proofs.OneReading.{one_reading}
use Rattle.macho_job.specs.declared.heads.Head.{Head}
use Rattle.macho_job.specs.declared.heads.Head.TheVariants as head
use Rattle.macho_job.specs.Heads.{head_of}
use Rattle.macho_job.specs.Search.{candidates_of, FileIs, IsFirstHeld}
use Rattle.macho_job.specs.Job.{Job, IsJob, SourceFile, IsReadAs, IsTaken, AreFiles, IsListed}

-- a path holds one text
pub one-text : (files : Store) (path a b : List ℕ) → get files path ≡ Some a → get files path ≡ Some b → a ≡ b
one-text files path a b one other = cc

-- a path that is missing holds none
pub not-missing : (files : Store) (path a : List ℕ) → get files path ≡ None → get files path ≡ Some a → ⊥
not-missing files path a none some = let no : None ≡ Some a = sym none ∙ some in cc

-- bytes are read as one input
pub one-input : (h : Head) (bytes : List ℕ) (i j : Input) → IsReadAs h bytes i → IsReadAs h bytes j → i ≡ j
one-input head.Object bytes i j one other = one.0 ∙ sym other.0
one-input head.Dylib bytes i j one other = one.0 ∙ sym other.0
one-input head.Stub bytes i j one other =
    one.1 ∙ (ap (Stub bytes) (one_reading bytes one.0 other.0 one.2 other.2) ∙ sym other.1)
one-input (head.Unknown kind) bytes i j one other = absurd one

-- Two paths of a list, each the first that holds a file.
pub record SameFound (p q b c : List ℕ) : Type 0 where
  pub path : p ≡ q
  pub bytes : b ≡ c

one-found : (files : Store) (xs ys before behind : List (List ℕ)) (p q b c : List ℕ) → before ++ p ∷ behind ≡ xs ++ q ∷ ys
    → All (FileIs (Some files) None) before → All (FileIs (Some files) None) xs → get files p ≡ Some b → get files q ≡ Some c
    → SameFound p q b c
one-found files [] ys [] behind p q b c is none also at too =
    let same : p ≡ q = cc in
    record { path = same; bytes = one-text files q b c (subst (λ (t : List ℕ). get files t ≡ Some b) same at) too }
one-found files (x ∷ xs) ys [] behind p q b c is none also at too =
    let same : p ≡ x = cc in
    absurd (not-missing files x b (All-head (FileIs (Some files) None) x xs also) (subst (λ (t : List ℕ). get files t ≡ Some b) same at))
one-found files [] ys (x ∷ before) behind p q b c is none also at too =
    let same : x ≡ q = cc in
    absurd (not-missing files q c (subst (λ (t : List ℕ). get files t ≡ None) same (All-head (FileIs (Some files) None) x before none)) too)
one-found files (x ∷ xs) ys (y ∷ before) behind p q b c is none also at too =
    let rest : before ++ p ∷ behind ≡ xs ++ q ∷ ys = cc in
    one-found files xs ys before behind p q b c rest (All-tail (FileIs (Some files) None) y before none)
    (All-tail (FileIs (Some files) None) x xs also) at too

-- of some paths one is the first that holds a file
pub one-held : (files : Store) (paths : List (List ℕ)) (p q b c : List ℕ) → IsFirstHeld (Some files) paths p b
    → IsFirstHeld (Some files) paths q c → SameFound p q b c
one-held files paths p q b c one other =
    one-found files other.before other.behind one.before one.behind p q b c (sym one.split ∙ other.split) one.missing other.missing
    one.held other.held

-- an input that was asked for is one file
pub one-file : (files : Store) (s : Settings) (asked : args.Input) (f g : SourceFile) → IsTaken (Some files) s asked f
    → IsTaken (Some files) s asked g → f ≡ g
one-file files s asked f g one other =
    let same = one-held files (candidates_of s asked.kind asked.name) f.path g.path one.bytes other.bytes one.found other.found in
    let read = subst (λ (b : List ℕ). IsReadAs (head_of b) b f.input) same.bytes one.is in
    let input : f.input ≡ g.input = one-input (head_of other.bytes) other.bytes f.input g.input read other.is in
    let make : List ℕ → Input → SourceFile = λ p i. record { path = p; input = i } in
    ap (λ (p : List ℕ). make p f.input) same.path ∙ ap (make g.path) input

one-files : (files : Store) (s : Settings) (inputs : List args.Input) (fs gs : List SourceFile) → AllZip (IsTaken (Some files) s) inputs fs
    → AllZip (IsTaken (Some files) s) inputs gs → fs ≡ gs
one-files files s [] [] [] one other = refl
one-files files s [] [] (g ∷ gs) one other = absurd other
one-files files s [] (f ∷ fs) gs one other = absurd one
one-files files s (input ∷ inputs) [] gs one other = absurd one
one-files files s (input ∷ inputs) (f ∷ fs) [] one other = absurd other
one-files files s (input ∷ inputs) (f ∷ fs) (g ∷ gs) one other =
    ap (λ (x : SourceFile). x ∷ fs) (one-file files s input f g one.0 other.0)
    ∙ ap (λ (xs : List SourceFile). g ∷ xs) (one-files files s inputs fs gs one.1 other.1)

-- the files of a link
pub files-once : (files : Store) (s : Settings) (count : Option ℕ) (fs gs : List SourceFile) → AreFiles (Some files) s count fs
    → AreFiles (Some files) s count gs → fs ≡ gs
files-once files s None fs gs one other = one-files files s s.inputs fs gs one other
files-once files s (Some n) fs gs one other = one.0 ∙ sym other.0

-- the texts of the lists
pub lists-once : (files : Store) (asked : List (ℕ × List ℕ)) (xs ys : List (List ℕ)) → AllZip (IsListed (Some files)) asked xs
    → AllZip (IsListed (Some files)) asked ys → xs ≡ ys
lists-once files [] [] [] one other = refl
lists-once files [] [] (y ∷ ys) one other = absurd other
lists-once files [] (x ∷ xs) ys one other = absurd one
lists-once files (list ∷ asked) [] ys one other = absurd one
lists-once files (list ∷ asked) (x ∷ xs) [] one other = absurd other
lists-once files (list ∷ asked) (x ∷ xs) (y ∷ ys) one other =
    ap (λ (t : List ℕ). t ∷ xs) (one-text files list.1 x y one.0 other.0)
    ∙ ap (λ (ts : List (List ℕ)). y ∷ ts) (lists-once files asked xs ys one.1 other.1)

-- THE job of settings is one.
pub job-once : (files : Store) (s : Settings) (job other : Job) → IsJob (Some files) s job → IsJob (Some files) s other → job ≡ other
job-once files s job other one two =
    let make : List SourceFile → List (List ℕ) → Job = λ fs ts. record { files = fs; lists = ts } in
    ap (λ (fs : List SourceFile). make fs job.lists) (files-once files s s.generate job.files other.files one.files two.files)
    ∙ ap (make other.files) (lists-once files s.export_list_paths job.lists other.lists one.lists two.lists)
