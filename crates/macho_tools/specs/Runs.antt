-- The run of a tool: what it answers, what it prints, and what it leaves.
use Rattle.std.specs.Prelude.{◌≡◌, ℕ, ◌<◌, ◌⊎◌, List, ◌++◌, codes, decimal, Option, None, Some}
use Rattle.std.specs.FinMap.{get}
use Rattle.macho_args.specs.Store.{FileSystem, Store}
use Rattle.macho_devices.specs.Devices.{Printed, ReadsFile, WritesFile, TornWrite, TakesBytes, TakesPrefix}
use Rattle.macho_devices.specs.Faults.{CountsOn, CountRose, last_count}
use Rattle.macho_printing.specs.Printing.{IsLineTold}
use Rattle.macho_tools.specs.declared.fault.ToolFault.{ToolFault}
use Rattle.macho_tools.specs.declared.fault.ToolFault.TheVariants.{MissingFile, Refused, Words, Read, Write, Print, OutOfMemory}
use Rattle.macho_tools.specs.declared.fault.ToolRan.{ToolRan}

-- the status that a run ends with: 0 without a fault, 1 where the file is missing or refused
abbrev pub status_of : {T : Type 0} → Option (ToolFault T) → ℕ
status_of None = 0
status_of (Some (MissingFile word)) = 1
status_of (Some (Refused fault)) = 1
status_of (Some Words) = 2
status_of (Some (Read word)) = 3
status_of (Some Write) = 4
status_of (Some Print) = 4
status_of (Some OutOfMemory) = 5

-- the line of a fault: the tool's name, and the status
abbrev pub status_line : List ℕ → ℕ → List ℕ
status_line name status = name ++ codes ": status " ++ decimal status ++ codes "\n"

-- What a job of a tool asks for: the file that is read, by its word and by the path that stands there; and the path that the answer is
-- written to. Without such a path the answer is printed.
pub record Task : Type 0 where
  pub word : ℕ
  pub path : List ℕ
  pub output : Option (List ℕ)

-- A tool: its name; which words ask for which job, the stated form of its words; what the job asks for; which bytes are the answer of the
-- job on the bytes of its file; and which faults it may tell of them.
pub record Tool (T : Type 0) : Type 1 where
  pub Job : Type 0
  pub name : List ℕ
  pub Asks : List (List ℕ) → Job → Type 0
  pub task : Job → Task
  pub Answers : Job → List ℕ → List ℕ → Type 0
  pub Refuses : Job → List ℕ → T → Type 0

-- What the devices of a run tell: its files, and what was printed.
pub record Devices : Type 0 where
  pub files : FileSystem
  pub out : Printed

abbrev pub devices : FileSystem → Printed → Devices
devices files out = record { files = files; out = out }

-- The files are as they were, and nothing is printed.
pub record LeavesAll (old new : Devices) : Type 0 where
  pub same_files : new.files.files ≡ old.files.files
  pub same_out : new.out ≡ old.out

-- The file of a job has these bytes, as far as files are told.
abbrev pub HasBytes : Devices → Task → List ℕ → Type 0
HasBytes old task bytes = ReadsFile old.files.files task.path (Some bytes)

-- A text is the answer of a job on the bytes that its file had before the run.
pub record HasAnswer {T : Type 0} (tool : Tool T) (job : tool.Job) (old : Devices) (text : List ℕ) : Type 0 where
  pub bytes : List ℕ
  pub has : HasBytes old (tool.task job) bytes
  pub answers : tool.Answers job bytes text

-- An answer is given: it is printed, and the files are as they were; or its path holds it and every other path what it held, and nothing
-- is printed.
abbrev pub Gives : Option (List ℕ) → Devices → Devices → List ℕ → Type 0
Gives None old new text = TakesBytes old.out new.out text × (new.files.files ≡ old.files.files)
Gives (Some output) old new text = WritesFile old.files.files new.files.files output text × (new.out ≡ old.out)

-- A print of an answer failed: the first of it was printed.
pub record BreaksPrint (output : Option (List ℕ)) (old new : Devices) (text : List ℕ) : Type 0 where
  pub printed : output ≡ None
  pub left : TakesPrefix old.out new.out text
  pub rose : CountRose old.out.failed new.out.failed
  pub same_files : new.files.files ≡ old.files.files

-- The write of an answer failed: its path holds the first of it, or what it held, and every other path what it held.
pub record BreaksWrite (output : Option (List ℕ)) (old new : Devices) (text : List ℕ) : Type 0 where
  pub path : List ℕ
  pub written : output ≡ Some path
  pub left : TornWrite old.files.files new.files.files path text
  pub rose : CountRose old.files.failed_writes new.files.failed_writes
  pub same_out : new.out ≡ old.out

-- THE ends of a job, a row for each fault. Without one the answer is given. The file is missing only where no file stands under its path,
-- and is refused only for what the tool may tell of its bytes; a device failed only where its count rose; want of memory is free. Only a
-- failed write and a failed print leave something behind.
abbrev pub Ends : {T : Type 0} → (tool : Tool T) → tool.Job → Devices → Devices → Option (ToolFault T) → Type 0
Ends tool job old new None = (text : List ℕ) × HasAnswer tool job old text × Gives (tool.task job).output old new text
Ends tool job old new (Some (MissingFile word)) =
    (word ≡ (tool.task job).word) × ReadsFile old.files.files (tool.task job).path None × LeavesAll old new
Ends tool job old new (Some (Refused fault)) =
    (bytes : List ℕ) × HasBytes old (tool.task job) bytes × tool.Refuses job bytes fault × LeavesAll old new
Ends tool job old new (Some Words) = ⊥
Ends tool job old new (Some (Read word)) =
    (word ≡ (tool.task job).word) × CountRose old.files.failed_reads new.files.failed_reads × LeavesAll old new
Ends tool job old new (Some Write) = (text : List ℕ) × HasAnswer tool job old text × BreaksWrite (tool.task job).output old new text
Ends tool job old new (Some Print) = (text : List ℕ) × HasAnswer tool job old text × BreaksPrint (tool.task job).output old new text
Ends tool job old new (Some OutOfMemory) = LeavesAll old new

-- The words are of no form that the tool takes: that is told, and nothing is left behind.
pub record RefusesWords {T : Type 0} (tool : Tool T) (words : List (List ℕ)) (old new : Devices) (fault : Option (ToolFault T)) : Type 0
  where
    pub is : fault ≡ Some Words
    pub none : (job : tool.Job) → tool.Asks words job → ⊥
    pub left : LeavesAll old new

-- Directories and canonical paths stay, and counts of failures go on.
pub record KeepsRest (old new : Devices) : Type 0 where
  pub same_directories : new.files.directories ≡ old.files.directories
  pub same_canonical_paths : new.files.canonical_paths ≡ old.files.canonical_paths
  pub reads : CountsOn old.files.failed_reads new.files.failed_reads
  pub writes : CountsOn old.files.failed_writes new.files.failed_writes
  pub prints : CountsOn old.out.failed new.out.failed

-- why the file of a word isn't read
abbrev pub ReadFails : {T : Type 0} → FileSystem → FileSystem → ℕ → List ℕ → ToolFault T → Type 0
ReadFails old new word path (MissingFile missing) = (missing ≡ word) × ReadsFile old.files path None
ReadFails old new word path (Read unread) = (unread ≡ word) × CountRose old.failed_reads new.failed_reads
ReadFails old new word path OutOfMemory = Unit {0}
ReadFails old new word path fault = ⊥

-- why an answer isn't written, and what its path holds then
abbrev pub WriteFails : {T : Type 0} → FileSystem → FileSystem → List ℕ → List ℕ → ToolFault T → Type 0
WriteFails old new path bytes Write = TornWrite old.files new.files path bytes × CountRose old.failed_writes new.failed_writes
WriteFails old new path bytes OutOfMemory = new.files ≡ old.files
WriteFails old new path bytes fault = ⊥

-- A run but for the line of its fault: the words are refused, or they ask for a job, which ends.
pub record IsEnded {T : Type 0} (tool : Tool T) (words : List (List ℕ)) (old new : Devices) (fault : Option (ToolFault T)) : Type 0 where
  pub run : RefusesWords tool words old new fault ⊎ ((job : tool.Job) × tool.Asks words job × Ends tool job old new fault)
  pub kept : KeepsRest old new

-- A fault is told in its line, as far as the sink takes it. Without a fault nothing is told.
abbrev pub IsEndTold : {T : Type 0} → List ℕ → Printed → Printed → Option (ToolFault T) → Type 0
IsEndTold name before after None = after ≡ before
IsEndTold name before after (Some fault) = IsLineTold before after (status_line name (status_of (Some fault)))

-- THE promise of a tool's run: its status is that of its fault, 0 exactly where there is none; it ends as its tool tells; its fault is
-- told.
pub record IsToolRun {T : Type 0} (tool : Tool T) (words : List (List ℕ)) (old new : Devices) (before after : Printed) (ran : ToolRan T)
    : Type 0 where
  pub status : ran.status ≡ status_of ran.fault
  pub ended : IsEnded tool words old new ran.fault
  pub told : IsEndTold tool.name before after ran.fault
  pub lines : CountsOn before.failed after.failed

-- Nothing stands against a run: its words ask for a job, and of each job that they ask for the file is held, and has bytes that the tool
-- doesn't refuse.
pub record IsClear {T : Type 0} (tool : Tool T) (words : List (List ℕ)) (files : Store) : Type 0 where
  pub said : tool.Job
  pub asks : tool.Asks words said
  pub each : (job : tool.Job) → tool.Asks words job → (bytes : List ℕ) × (get files (tool.task job).path ≡ Some bytes)
      × ((fault : T) → tool.Refuses job bytes fault → ⊥)

-- No device failed, and none stands at the last value of its count.
pub record NoneFailed (old new : Devices) : Type 0 where
  pub no_read : new.files.failed_reads ≡ old.files.failed_reads
  pub no_write : new.files.failed_writes ≡ old.files.failed_writes
  pub no_print : new.out.failed ≡ old.out.failed
  pub reads : old.files.failed_reads < last_count
  pub writes : old.files.failed_writes < last_count
  pub prints : old.out.failed < last_count
