-- What is known while the files of a link are gathered.
use Rattle.std.specs.Prelude.{◌≡◌, ◌⊎◌, ℕ, List, [], ◌∷◌, ◌++◌, map, Option, None, All, IsUtf8}
use Rattle.std.specs.List.{AllZip}
use Rattle.macho_args.specs.Settings as args
use Rattle.macho_args.specs.Settings.{Settings}
use Rattle.macho_args.specs.Store.{Store}
use Rattle.macho_model.specs.Links.{Link, Input}
use Rattle.macho_model.specs.LinkLaws.{with_input}
use Rattle.macho_linker.specs.Linkers.{link_of}
use Rattle.macho_answer.specs.declared.fault.LinkError.{LinkError}
use Rattle.macho_answer.specs.declared.fault.LinkError.TheVariants as error
use Rattle.macho_answer.specs.declared.fault.InputFault.TheVariants as input
use Rattle.macho_stub_lines.specs.declared.fault.StubRule.TheVariants.{S1}
use Rattle.macho_linker.specs.Refusals.{StubRefused}
use Rattle.macho_devices.specs.Faults.{CountRose}
use Rattle.macho_job.specs.declared.fault.Fault.{Fault}
use Rattle.macho_job.specs.declared.fault.Fault.TheVariants.{MissingFile, UnknownKind, Input as InputFault, Read, OutOfMemory}
use Rattle.macho_job.specs.declared.heads.Head.{Head}
use Rattle.macho_job.specs.declared.heads.Head.TheVariants as head
use Rattle.macho_job.specs.Heads.{head_of}
use Rattle.macho_job.specs.Search.{candidates_of, FileIs, IsFirstHeld}
use Rattle.macho_job.specs.Job.{SourceFile, IsReadAs, IsTaken, IsListed, AreFiles}
use Rattle.macho_job.specs.Causes.{BytesRefused}

-- An input that was asked for is found and added.
pub record TakesFile (told : Option Store) (s : Settings) (asked : args.Input) (old_paths paths : List (List ℕ))
    (old new : Link) : Type 0 where
  pub file : SourceFile
  pub taken : IsTaken told s asked file
  pub named : paths ≡ old_paths ++ file.path ∷ []
  pub added : new ≡ with_input old file.input

-- bytes are an input, which is added
pub record TakesBytesOf (bytes : List ℕ) (old new : Link) : Type 0 where
  pub input : Input
  pub is : IsReadAs (head_of bytes) bytes input
  pub added : new ≡ with_input old input

-- bytes that are no text break the first rule of stubs, at line 1
abbrev pub IsNoText : List ℕ → LinkError → Type 0
IsNoText bytes (error.BadInput (input.Stub line rule)) = (IsUtf8 bytes → ⊥) × (line ≡ 1) × (rule ≡ S1)
IsNoText bytes refusal = ⊥

-- bytes that begin as a stub are refused, or memory ran out
abbrev pub TextRefused : List ℕ → LinkError → Type 0
TextRefused bytes refusal = StubRefused bytes refusal ⊎ IsNoText bytes refusal

-- why bytes aren't added
abbrev pub BytesFail : ℕ → List ℕ → Fault → Type 0
BytesFail word bytes (UnknownKind at kind) = (at ≡ word) × (head_of bytes ≡ head.Unknown kind)
BytesFail word bytes (InputFault at refusal) = (at ≡ word) × BytesRefused (head_of bytes) bytes refusal
BytesFail word bytes OutOfMemory = Unit {0}
BytesFail word bytes fault = ⊥

-- the last of the files that were read has this path
pub record EndsWith (paths : List (List ℕ)) (path : List ℕ) : Type 0 where
  pub before : List (List ℕ)
  pub split : paths ≡ before ++ path ∷ []

-- an input's bytes are refused: those of the first of its paths that holds a file, the last that was read
pub record InputRefused (told : Option Store) (s : Settings) (paths : List (List ℕ)) (asked : args.Input)
    (refusal : LinkError) : Type 0 where
  pub path : List ℕ
  pub bytes : List ℕ
  pub found : IsFirstHeld told (candidates_of s asked.kind asked.name) path bytes
  pub last : EndsWith paths path
  pub refused : BytesRefused (head_of bytes) bytes refusal

-- the bytes of a path, where none of the paths before it holds a file, begin as no input
pub record IsUnknown (told : Option Store) (s : Settings) (asked : args.Input) (head : Head) : Type 0 where
  pub path : List ℕ
  pub bytes : List ℕ
  pub found : IsFirstHeld told (candidates_of s asked.kind asked.name) path bytes
  pub is : head_of bytes ≡ head

-- why an input that was asked for isn't added
abbrev pub InputFails : Option Store → Settings → List (List ℕ) → args.Input → ℕ → ℕ → Fault → Type 0
InputFails told s paths asked old new (MissingFile word) = (word ≡ asked.word)
    × All (FileIs told None) (candidates_of s asked.kind asked.name)
InputFails told s paths asked old new (UnknownKind word kind) = (word ≡ asked.word) × IsUnknown told s asked (head.Unknown kind)
InputFails told s paths asked old new (InputFault word refusal) = (word ≡ asked.word) × InputRefused told s paths asked refusal
InputFails told s paths asked old new (Read word) = (word ≡ asked.word) × CountRose old new
InputFails told s paths asked old new OutOfMemory = Unit {0}
InputFails told s paths asked old new fault = ⊥

-- why a list isn't added
abbrev pub ListFails : Option Store → ℕ → List ℕ → ℕ → ℕ → Fault → Type 0
ListFails told word path old new (MissingFile at) = (at ≡ word) × FileIs told None path
ListFails told word path old new (Read at) = (at ≡ word) × CountRose old new
ListFails told word path old new OutOfMemory = Unit {0}
ListFails told word path old new fault = ⊥

-- a link by settings, of these files and lists
abbrev pub linking : Settings → List SourceFile → List (List ℕ) → Link
linking s files lists = record (link_of s) { inputs = map (λ f. f.input) files; export_lists = lists }

-- The files so far: they are such, these lists are added, and the link is of both.
pub record Gathered (told : Option Store) (s : Settings) (AreSuch : List SourceFile → Type 0) (lists : List (ℕ × List ℕ))
    (paths : List (List ℕ)) (l : Link) : Type 0 where
  pub files : List SourceFile
  pub are : AreSuch files
  pub texts : List (List ℕ)
  pub listed : AllZip (IsListed told) lists texts
  pub named : paths ≡ map (λ f. f.path) files
  pub linked : l ≡ linking s files texts

-- these inputs are taken, and no list
abbrev pub HaveInputs : Option Store → Settings → List args.Input → List (List ℕ) → Link → Type 0
HaveInputs told s asked paths l = Gathered told s (AllZip (IsTaken told s) asked) [] paths l

-- all inputs are taken, or the objects made, and these lists
abbrev pub HaveLists : Option Store → Settings → List (ℕ × List ℕ) → List (List ℕ) → Link → Type 0
HaveLists told s lists paths l = Gathered told s (AreFiles told s s.generate) lists paths l
