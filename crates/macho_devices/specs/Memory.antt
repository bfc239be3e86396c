-- The devices in memory as plain maps, sets and numbers. Clauses compare these.
use Rattle.std.specs.Prelude.{◌≡◌, ℕ, true, false, List, map, take, None, Some, IsSomeAnd, Result, Ok, Err}
use Rattle.std.specs.String.{string_bytes}
use Rattle.std.specs.Ordering.{nat_cmp}
use Rattle.std.specs.FinMap as maps
use Rattle.std.specs.FinSet as sets
use Rattle.macho_args.specs.Store.{FileSystem, Store, Directories, CanonicalPaths}
use Rattle.macho_devices.specs.declared.held_files.HeldFile.{HeldFile}
use Rattle.macho_devices.specs.declared.held_files.CanonicalPath.{CanonicalPath}
use Rattle.macho_devices.specs.declared.held_files.HeldFiles.{HeldFiles}
use Rattle.macho_devices.specs.declared.memory_files.FailingWrite.{FailingWrite}
use Rattle.macho_devices.specs.declared.memory_files.MemoryFiles.{MemoryFiles}
use Rattle.macho_devices.specs.declared.memory_files.SteadyFiles.{SteadyFiles}
use Rattle.macho_devices.specs.declared.file_system.FileFault.{FileFault}
use Rattle.macho_devices.specs.declared.file_system.FileFault.TheVariants.{Failed, OutOfMemory}
use Rattle.macho_devices.specs.Faults.{one_more}

-- the directories, the canonical paths and the files of a file system
pub record Held : Type 0 where
  pub directories : Directories
  pub canonical_paths : CanonicalPaths
  pub files : Store

-- a file system without any
abbrev pub nothing_held : Held
nothing_held = record { directories = sets.empty; canonical_paths = maps.empty; files = maps.empty }

-- a path with its bytes
abbrev pub file_entry : HeldFile → List ℕ × List ℕ
file_entry file = (string_bytes file.path, file.bytes.items)

-- a path with its canonical path
abbrev pub canonical_entry : CanonicalPath → List ℕ × List ℕ
canonical_entry entry = (string_bytes entry.path, string_bytes entry.canonical)

-- what is held, where the first entry of a path counts
abbrev pub held_of : HeldFiles → Held
held_of tree =
    record {
      directories = sets.from_list (map string_bytes tree.directories.items);
      canonical_paths = maps.from_entries (map canonical_entry tree.canonical_paths.items);
      files = maps.from_entries (map file_entry tree.files.items);
    }

-- the same with one directory more
abbrev pub with_dir : List ℕ → Held → Held
with_dir path held = record held { directories = sets.insert held.directories path }

-- the same with this canonical path for the path
abbrev pub with_canonical : List ℕ → List ℕ → Held → Held
with_canonical path canonical held = record held { canonical_paths = maps.insert held.canonical_paths path canonical }

-- the same with these bytes under the path
abbrev pub with_file : List ℕ → List ℕ → Held → Held
with_file path bytes held = record held { files = maps.insert held.files path bytes }

-- numbers of calls
abbrev pub Numbers : Type 0
Numbers = sets.FinSet nat_cmp

-- A file system in memory whose calls fail where it is told: what it holds, the numbers of the reads that are to
-- fail, those of the writes that are to fail with how many bytes each leaves, how many reads and writes there
-- were, and how many of each have failed.
pub record FilesInMemory : Type 0 where
  pub held : Held
  pub failing_reads : Numbers
  pub failing_writes : maps.FinMap nat_cmp ℕ
  pub reads : ℕ
  pub writes : ℕ
  pub faults : ℕ
  pub write_faults : ℕ

-- holds nothing, and no call is to fail
abbrev pub fresh_files : FilesInMemory
fresh_files =
    record {
      held = nothing_held;
      failing_reads = sets.empty;
      failing_writes = maps.empty;
      reads = 0;
      writes = 0;
      faults = 0;
      write_faults = 0;
    }

-- the number of a write with how many bytes it leaves
abbrev pub failing_entry : FailingWrite → ℕ × ℕ
failing_entry write = (write.number, write.left)

abbrev pub memory_of : MemoryFiles → FilesInMemory
memory_of files =
    record {
      held = held_of files.held;
      failing_reads = sets.from_list files.failing_reads.items;
      failing_writes = maps.from_entries (map failing_entry files.failing_writes.items);
      reads = files.reads;
      writes = files.writes;
      faults = files.faults;
      write_faults = files.write_faults;
    }

-- A file system tells all that it holds, and how often its reads and its writes have failed.
abbrev pub all_told : Held → (failed_reads failed_writes : ℕ) → FileSystem
all_told held failed_reads failed_writes =
    record {
      directories = Some held.directories;
      canonical_paths = Some held.canonical_paths;
      files = Some held.files;
      failed_reads = failed_reads;
      failed_writes = failed_writes;
    }

-- what a file system in memory tells
abbrev pub told_by : MemoryFiles → FileSystem
told_by files = let memory = memory_of files in all_told memory.held memory.faults memory.write_faults

-- What is held is changed so, and nothing else.
abbrev pub ChangesHeld : (Held → Held) → FilesInMemory → FilesInMemory → Type 0
ChangesHeld change old new = new ≡ record old { held = change old.held }

-- One read more is to fail, and nothing else is changed.
abbrev pub FailsRead : ℕ → FilesInMemory → FilesInMemory → Type 0
FailsRead number old new = new ≡ record old { failing_reads = sets.insert old.failing_reads number }

-- One write more is to fail and to leave so many bytes, and nothing else is changed.
abbrev pub FailsWrite : ℕ → ℕ → FilesInMemory → FilesInMemory → Type 0
FailsWrite number left old new = new ≡ record old { failing_writes = maps.insert old.failing_writes number left }

abbrev pub steady_of : SteadyFiles → Held
steady_of files = held_of files.held

-- A read fails exactly where its number is one of those that are to fail. It is counted, unless there was no
-- memory: that changes nothing.
abbrev pub ReadsAsTold : {A : Type 0} → FilesInMemory → FilesInMemory → Result A FileFault → Type 0
ReadsAsTold old new (Ok _) =
    (sets.contains old.failing_reads old.reads ≡ false)
    × (new ≡ record old { reads = one_more old.reads })
ReadsAsTold old new (Err Failed) =
    (sets.contains old.failing_reads old.reads ≡ true)
    × (new ≡ record old { reads = one_more old.reads; faults = one_more old.faults })
ReadsAsTold old new (Err OutOfMemory) = (sets.contains old.failing_reads old.reads ≡ false) × (new ≡ old)

-- A write fails exactly where its number is one of those that are to fail, and leaves as many of the first bytes
-- as that one is to leave; else its path holds all the bytes. It is counted, unless there was no memory: that
-- changes nothing.
abbrev pub WritesAsTold : {A : Type 0} → FilesInMemory → FilesInMemory → List ℕ → List ℕ → Result A FileFault
    → Type 0
WritesAsTold old new path bytes (Ok _) =
    (maps.get old.failing_writes old.writes ≡ None)
    × (new ≡ record old { held = with_file path bytes old.held; writes = one_more old.writes })
WritesAsTold old new path bytes (Err Failed) =
    IsSomeAnd (maps.get old.failing_writes old.writes) (λ left. new ≡ record old {
      held = with_file path (take left bytes) old.held;
      writes = one_more old.writes;
      write_faults = one_more old.write_faults;
    })
WritesAsTold old new path bytes (Err OutOfMemory) = new ≡ old
