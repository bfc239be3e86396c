-- The job of settings and of what stands outside: its files and export lists, what it links, and what its identifier is made of.
use Rattle.std.specs.Prelude.{◌≡◌, ℕ, ◌<◌, List, map, take, Option, None, Some, unwrap_or}
use Rattle.std.specs.List.{AllZip, flat_map, range_with_len}
use Rattle.sha2.specs.Sha256.{sha256}
use Rattle.macho_args.specs.Settings as args
use Rattle.macho_args.specs.Settings.{Settings}
use Rattle.macho_args.specs.Store.{Store}
use Rattle.macho_model.specs.Links.{Link, Input, Object, Dylib, Stub, StubReading}
use Rattle.macho_model.specs.Grammar.{IsObject, IsDylib}
use Rattle.macho_promise.specs.Inputs.{IsStubInput}
use Rattle.macho_linker.specs.Linkers.{link_of, bytes_of}
use Rattle.macho_job.specs.declared.heads.Head.{Head}
use Rattle.macho_job.specs.declared.heads.Head.TheVariants as head
use Rattle.macho_job.specs.Heads.{head_of}
use Rattle.macho_job.specs.Search.{candidates_of, FileIs, IsFirstHeld}
use Rattle.macho_job.specs.Generator.{generated_object, generated_path}

-- a file of the link, and the path that it is told by
pub record SourceFile : Type 0 where
  pub path : List ℕ
  pub input : Input

-- Bytes with this head are read as an input of its kind, and are what the kind says.
abbrev pub IsReadAs : Head → List ℕ → Input → Type 0
IsReadAs head.Object bytes input = (input ≡ Object bytes) × IsObject bytes
IsReadAs head.Dylib bytes input = (input ≡ Dylib bytes) × IsDylib bytes
IsReadAs head.Stub bytes input = (says : StubReading) × (input ≡ Stub bytes says) × IsStubInput bytes says
IsReadAs (head.Unknown kind) bytes input = ⊥

-- An input that was asked for is found: at the first path that holds a file, whose bytes are an input.
pub record IsTaken (told : Option Store) (s : Settings) (asked : args.Input) (f : SourceFile) : Type 0 where
  pub bytes : List ℕ
  pub found : IsFirstHeld told (candidates_of s asked.kind asked.name) f.path bytes
  pub is : IsReadAs (head_of bytes) bytes f.input

-- The files of a link: the inputs that were asked for, in the order of the words; beside a number the objects that are made.
abbrev pub AreFiles : Option Store → Settings → Option ℕ → List SourceFile → Type 0
AreFiles told s None files = AllZip (IsTaken told s) s.inputs files
AreFiles told s (Some n) files =
    (files ≡ map (λ i. record { path = generated_path i; input = Object (generated_object i n) }) (range_with_len 0 n))
    × ((i : ℕ) → i < n → IsObject (generated_object i n))

-- the text of an export list stands under its path
abbrev pub IsListed : Option Store → ℕ × List ℕ → List ℕ → Type 0
IsListed told asked text = FileIs told (Some text) asked.1

-- The 16 bytes that an image's identifier is made of: those that were given, else the first 16 of the digest (FIPS 180-4) of the inputs
-- joined. Version and variant are put in where the image is written.
abbrev pub uuid_of : Settings → List Input → List ℕ
uuid_of s inputs = unwrap_or s.uuid (take 16 (sha256 (flat_map bytes_of inputs)))

-- A job: the files that are linked, and the texts of the export lists.
pub record Job : Type 0 where
  pub files : List SourceFile
  pub lists : List (List ℕ)

-- a job by settings
pub record IsJob (told : Option Store) (s : Settings) (job : Job) : Type 0 where
  pub files : AreFiles told s s.generate job.files
  pub lists : AllZip (IsListed told) s.export_list_paths job.lists

-- what a job links by settings
abbrev pub linked : Settings → Job → Link
linked s job = record (link_of s) { inputs = map (λ f. f.input) job.files; export_lists = job.lists }

-- the paths of its files
abbrev pub paths_of : Job → List (List ℕ)
paths_of job = map (λ f. f.path) job.files

-- The link is that of a job by settings, whose files have these paths.
pub record Links (told : Option Store) (s : Settings) (paths : List (List ℕ)) (l : Link) : Type 0 where
  pub job : Job
  pub is : IsJob told s job
  pub named : paths ≡ paths_of job
  pub links : l ≡ linked s job
