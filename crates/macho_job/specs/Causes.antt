-- When each fault of a run may come, and the status that it ends with.
use Rattle.std.specs.Prelude.{◌≡◌, ℕ, ◌<◌, ◌⊎◌, true, false, List, ◌∷◌, ◌++◌, Option, None, Some, All, IsUtf8}
use Rattle.std.specs.List.{AllZip, last_or}
use Rattle.macho_args.specs.Settings as args
use Rattle.macho_args.specs.Settings.{Settings}
use Rattle.macho_args.specs.Store.{Store}
use Rattle.macho_args.specs.SearchPaths.{IsRefused}
use Rattle.macho_model.specs.Links.{Link}
use Rattle.macho_model.specs.Faults.{bad_name}
use Rattle.macho_model.specs.Grammar.{IsObject, ObjectBreaks, DylibBreaks}
use Rattle.macho_stub.specs.Answer.{IsToldOfText}
use Rattle.macho_stub_lines.specs.declared.fault.StubFault.TheVariants.{Rule}
use Rattle.macho_answer.specs.declared.fault.LinkError.{LinkError}
use Rattle.macho_answer.specs.declared.fault.LinkError.TheVariants as error
use Rattle.macho_answer.specs.declared.fault.InputFault.TheVariants as input
use Rattle.macho_stub_lines.specs.declared.fault.StubRule.TheVariants.{S1}
use Rattle.macho_linker.specs.Linkers.{link_of}
use Rattle.macho_answer.specs.Linked.{RefusalStands}
use Rattle.macho_devices.specs.Faults.{CountRose}
use Rattle.macho_job.specs.declared.fault.Fault.{Fault}
use Rattle.macho_job.specs.declared.fault.Fault.TheVariants.{MissingFile, UnknownKind, Input, Link as LinkFault, Words, Read, Write, Print, OutOfMemory}
use Rattle.macho_job.specs.declared.heads.Head.{Head}
use Rattle.macho_job.specs.declared.heads.Head.TheVariants as head
use Rattle.macho_job.specs.Heads.{head_of}
use Rattle.macho_job.specs.Search.{candidates_of, FileIs, IsFirstHeld}
use Rattle.macho_job.specs.Generator.{generated_object, generated_path}
use Rattle.macho_job.specs.Job.{Job, SourceFile, IsJob, IsTaken, AreFiles, IsListed, linked, paths_of}

-- the status that a run ends with: 1 where an input or the link is refused
abbrev pub status_of : Option Fault → ℕ
status_of None = 0
status_of (Some (Words fault)) = 2
status_of (Some (Read word)) = 3
status_of (Some Write) = 4
status_of (Some Print) = 4
status_of (Some OutOfMemory) = 5
status_of (Some refusal) = 1

-- Bytes are refused, by their head: they break the rule that is told, at the place that is told, and so are no such input. Bytes that
-- begin as a stub and aren't UTF-8 break the first rule of stubs at line 1, and no other.
abbrev pub BytesRefused : Head → List ℕ → LinkError → Type 0
BytesRefused head.Object bytes (error.BadInput (input.Object fault)) = ObjectBreaks bytes fault.rule fault.place
BytesRefused head.Dylib bytes (error.BadInput (input.Object fault)) = DylibBreaks bytes fault.rule fault.place
BytesRefused head.Stub bytes (error.BadInput (input.Stub line rule)) =
    (IsUtf8 bytes × IsToldOfText bytes (Rule line rule)) ⊎ ((IsUtf8 bytes → ⊥) × (line ≡ 1) × (rule ≡ S1))
BytesRefused begins bytes refusal = ⊥

-- a made object is refused, told by its number; those before it are objects
pub record MadeRefused (s : Settings) (paths : List (List ℕ)) (i : ℕ) (refusal : LinkError) : Type 0 where
  pub count : ℕ
  pub asked : s.generate ≡ Some count
  pub below : i < count
  pub before : (k : ℕ) → k < i → IsObject (generated_object k count)
  pub last : last_or None paths ≡ Some (generated_path i)
  pub refused : BytesRefused head.Object (generated_object i count) refusal

-- A link is refused: its paths can't be written, which is found before an input is read; or what is told of it stands.
abbrev pub LinkRefused : Option Store → Settings → List (List ℕ) → LinkError → Type 0
LinkRefused told s paths error.BadName = bad_name (link_of s) ≡ true
LinkRefused told s paths error.OutOfMemory = ⊥
LinkRefused told s paths refusal = (job : Job) × IsJob told s job × (paths ≡ paths_of job) × RefusalStands (linked s job) refusal

-- An input that was asked for, by the index of its word; each one before it was taken. None is where objects are made.
pub record IsAsked (told : Option Store) (s : Settings) (word : ℕ) (asked : args.Input) : Type 0 where
  pub before : List args.Input
  pub behind : List args.Input
  pub split : s.inputs ≡ before ++ asked ∷ behind
  pub files : List SourceFile
  pub taken : AllZip (IsTaken told s) before files
  pub stands_in : word ≡ asked.word
  pub alone : s.generate ≡ None

-- An export list that was asked for, by the index of its word: all inputs were taken, or the objects made, and each list before
-- it is held.
pub record IsListAsked (told : Option Store) (s : Settings) (word : ℕ) (path : List ℕ) : Type 0 where
  pub files : List SourceFile
  pub are : AreFiles told s s.generate files
  pub before : List (ℕ × List ℕ)
  pub behind : List (ℕ × List ℕ)
  pub split : s.export_list_paths ≡ before ++ (word, path) ∷ behind
  pub texts : List (List ℕ)
  pub listed : AllZip (IsListed told) before texts

-- an input that was asked for has these bytes, which stand under the first of its paths that holds a file
pub record HasBytes (told : Option Store) (s : Settings) (word : ℕ) (path bytes : List ℕ) : Type 0 where
  pub input : args.Input
  pub asked : IsAsked told s word input
  pub found : IsFirstHeld told (candidates_of s input.kind input.name) path bytes

-- THE causes of the faults of a job by settings, a row for each: `paths` are of files that were read, the last of them an input that is
-- refused, and `old` and `new` count the reads that have failed. Want of memory is free. No write and no print comes before the image.
abbrev pub JobFails : Option Store → Settings → List (List ℕ) → (old new : ℕ) → Fault → Type 0
JobFails told s paths old new (MissingFile word) =
    ((asked : args.Input) × IsAsked told s word asked × All (FileIs told None) (candidates_of s asked.kind asked.name))
    ⊎ ((list : List ℕ) × IsListAsked told s word list × FileIs told None list)
JobFails told s paths old new (UnknownKind word kind) =
    (path : List ℕ) × (bytes : List ℕ) × HasBytes told s word path bytes × (head_of bytes ≡ head.Unknown kind)
JobFails told s paths old new (Input word refusal) =
    ((path : List ℕ) × (bytes : List ℕ) × HasBytes told s word path bytes × (last_or None paths ≡ Some path)
    × BytesRefused (head_of bytes) bytes refusal)
    ⊎ MadeRefused s paths word refusal
JobFails told s paths old new (LinkFault refusal) = LinkRefused told s paths refusal
JobFails told s paths old new (Read word) =
    (((asked : args.Input) × IsAsked told s word asked) ⊎ ((list : List ℕ) × IsListAsked told s word list)) × CountRose old new
JobFails told s paths old new OutOfMemory = Unit {0}
JobFails told s paths old new fault = ⊥

-- a fault of the words: that of the first argument that is not accepted
abbrev pub WordsFail : List (List ℕ) → Fault → Type 0
WordsFail words (Words fault) = IsRefused words fault
WordsFail words OutOfMemory = Unit {0}
WordsFail words fault = ⊥

-- A link against which nothing stands: its paths can be written, and of its refusals only want of memory may come.
pub record IsClear (l : Link) : Type 0 where
  pub named : bad_name l ≡ false
  pub nothing_stands : (refusal : LinkError) → RefusalStands l refusal → refusal ≡ error.OutOfMemory
