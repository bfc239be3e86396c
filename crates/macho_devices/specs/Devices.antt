-- What a read and a write say of the files that are held, and what a printed piece says of a sink. What is
-- held is optional: a device that tells nothing of its content goes on telling nothing.
use Rattle.std.specs.Prelude.{◌≡◌, ℕ, List, ◌++◌, take, Option, None, Some}
use Rattle.std.specs.Option.{option_map}
use Rattle.std.specs.declared.vec.Vec.{Vec}
use Rattle.std.specs.FinMap.{get, insert}
use Rattle.macho_args.specs.Store.{FileSystem, Store}
use Rattle.macho_devices.specs.declared.file_system.FileFault.{FileFault}
use Rattle.macho_devices.specs.declared.file_system.FileFault.TheVariants.{Failed, OutOfMemory}
use Rattle.macho_devices.specs.Faults.{CountsOn}

-- what a read answered, without where it lies in memory
abbrev pub content_of : {Z : Type 0} → Option (Vec ℕ Z) → Option (List ℕ)
content_of answer = option_map (λ bytes. bytes.items) answer

-- A read answers the bytes of the path, and None exactly where no file stands under it.
abbrev pub ReadsFile : Option Store → List ℕ → Option (List ℕ) → Type 0
ReadsFile None path answer = Unit {0}
ReadsFile (Some files) path answer = answer ≡ get files path

-- After a write the path holds the bytes, and every other path what it held.
abbrev pub WritesFile : Option Store → Option Store → List ℕ → List ℕ → Type 0
WritesFile old new path bytes = new ≡ option_map (λ files. insert files path bytes) old

-- A write that broke off: the files are as before, or the path holds the first `left` of the bytes and
-- every other path what it held.
pub data TornWrite (old new : Option Store) (path bytes : List ℕ) : Type 0 where
  nothing : new ≡ old → TornWrite old new path bytes
  prefix : (left : ℕ) → WritesFile old new path (take left bytes) → TornWrite old new path bytes

-- What a refused write leaves. Want of memory leaves all as it was.
abbrev pub LeavesFiles : FileFault → Option Store → Option Store → List ℕ → List ℕ → Type 0
LeavesFiles Failed old new path bytes = TornWrite old new path bytes
LeavesFiles OutOfMemory old new path bytes = new ≡ old

-- A read lets the count of failed reads go on. All else that a file system tells is the same.
pub record OnlyReads (old new : FileSystem) : Type 0 where
  pub counted : CountsOn old.failed_reads new.failed_reads
  pub same_directories : new.directories ≡ old.directories
  pub same_canonical_paths : new.canonical_paths ≡ old.canonical_paths
  pub same_files : new.files ≡ old.files
  pub same_failed_writes : new.failed_writes ≡ old.failed_writes

-- A write lets the count of failed writes go on, and changes files. All else that a file system tells is the same.
pub record OnlyWrites (old new : FileSystem) : Type 0 where
  pub counted : CountsOn old.failed_writes new.failed_writes
  pub same_directories : new.directories ≡ old.directories
  pub same_canonical_paths : new.canonical_paths ≡ old.canonical_paths
  pub same_failed_reads : new.failed_reads ≡ old.failed_reads

-- What a sink tells: all that was printed to it, as far as it is told, and how often its writes have failed.
pub record Printed : Type 0 where
  pub taken : Option (List ℕ)
  pub failed : ℕ

-- a file system that tells no more than its counts
abbrev pub only_counts : (failed_reads failed_writes : ℕ) → FileSystem
only_counts failed_reads failed_writes =
    record {
      directories = None;
      canonical_paths = None;
      files = None;
      failed_reads = failed_reads;
      failed_writes = failed_writes;
    }

-- a sink that tells no more than its count
abbrev pub only_count : ℕ → Printed
only_count failed = record { taken = None; failed = failed }

-- A sink takes the bytes behind all that it took.
abbrev pub TakesBytes : Printed → Printed → List ℕ → Type 0
TakesBytes old new bytes = new.taken ≡ option_map (λ taken. taken ++ bytes) old.taken

-- A sink that failed took the first `left` of the bytes.
pub record TakesPrefix (old new : Printed) (bytes : List ℕ) : Type 0 where
  pub left : ℕ
  pub taken : TakesBytes old new (take left bytes)
