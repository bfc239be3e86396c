-- The ends of a run, each from what its steps say.
--
-- A read changes nothing but the count of failed reads. So up to an answer all is as it was, and the refusals of words and of the file
-- leave nothing behind. Behind an answer one step comes, its print or its write, and that alone is seen.
use Rattle.std.proofs.Common.{◌≡◌, ℕ, inl, inr, refl, sym, subst, ◌∙◌, arith, List, Option, Some, None}
use Rattle.std.specs.Prelude.{Result, Ok, Err, OnOk, IfErr}
use Rattle.std.specs.Result.{result_err}
use Rattle.macho_args.specs.Store.{FileSystem, Store}
use Rattle.macho_devices.specs.Devices.{Printed, ReadsFile, OnlyReads, OnlyWrites, WritesFile, TornWrite, TakesBytes, TakesPrefix}
use Rattle.macho_devices.specs.Faults.{CountsOn, CountRose}
use Rattle.macho_tools.specs.declared.fault.ToolFault.{ToolFault}
use Rattle.macho_tools.specs.declared.fault.ToolFault.TheVariants as fault
use Rattle.macho_tools.specs.declared.fault.ToolRan.{ToolRan}
use Rattle.macho_tools.specs.Runs.{Tool, Devices, devices, status_of, HasBytes, HasAnswer, Gives, Ends, KeepsRest, IsEnded, IsEndTold, IsToolRun, ReadFails, WriteFails}

-- a count that stays goes on
counts-stay : (old new : ℕ) → new ≡ old → CountsOn old new
counts-stay old new same = record { never_falls = omega (arith, same); never_passes = λ low. omega (arith, same, low) }

same-counts : (n : ℕ) → CountsOn n n
same-counts n = counts-stay n n refl

-- what a read keeps, and a print behind it
kept-by-print : (old new : FileSystem) (out later : Printed) → OnlyReads old new → CountsOn out.failed later.failed
    → KeepsRest (devices old out) (devices new later)
kept-by-print old new out later read counted = record {
  same_directories = read.same_directories;
  same_canonical_paths = read.same_canonical_paths;
  reads = read.counted;
  writes = counts-stay old.failed_writes new.failed_writes read.same_failed_writes;
  prints = counted;
}

kept-by-read : (old new : FileSystem) (out : Printed) → OnlyReads old new → KeepsRest (devices old out) (devices new out)
kept-by-read old new out read = kept-by-print old new out out read (same-counts out.failed)

-- what a read keeps, and a write behind it
kept-by-write : (old mid new : FileSystem) (out : Printed) → OnlyReads old mid → OnlyWrites mid new
    → KeepsRest (devices old out) (devices new out)
kept-by-write old mid new out read written = record {
  same_directories = written.same_directories ∙ read.same_directories;
  same_canonical_paths = written.same_canonical_paths ∙ read.same_canonical_paths;
  reads = subst (λ n. CountsOn old.failed_reads n) (sym written.same_failed_reads) read.counted;
  writes = subst (λ n. CountsOn n new.failed_writes) read.same_failed_writes written.counted;
  prints = same-counts out.failed;
}

-- the words ask for nothing
pub words-refused : {T : Type 0} (tool : Tool T) (words : List (List ℕ)) (files : FileSystem) (out : Printed)
    → ((job : tool.Job) → tool.Asks words job → ⊥) → IsEnded tool words (devices files out) (devices files out) (Some fault.Words)
words-refused tool words files out none = record {
  run = inl (record { is = refl; none = none; left = record { same_files = refl; same_out = refl } });
  kept = record {
    same_directories = refl;
    same_canonical_paths = refl;
    reads = same-counts files.failed_reads;
    writes = same-counts files.failed_writes;
    prints = same-counts out.failed;
  };
}

-- a job that ends behind its read, and leaves all as it was
behind-read : {T : Type 0} (tool : Tool T) (words : List (List ℕ)) (job : tool.Job) (old new : FileSystem) (out : Printed) (f : ToolFault T)
    → tool.Asks words job → OnlyReads old new → Ends tool job (devices old out) (devices new out) (Some f)
    → IsEnded tool words (devices old out) (devices new out) (Some f)
behind-read tool words job old new out f asks read ends =
    record { run = inr (job, asks, ends); kept = kept-by-read old new out read }

-- the file isn't read
read-ends : {T : Type 0} (tool : Tool T) (job : tool.Job) (old new : FileSystem) (out : Printed) (f : ToolFault T) → OnlyReads old new
    → ReadFails old new (tool.task job).word (tool.task job).path f → Ends tool job (devices old out) (devices new out) (Some f)
read-ends tool job old new out (fault.MissingFile word) read (at, none) =
    (at, none, record { same_files = read.same_files; same_out = refl })
read-ends tool job old new out (fault.Read word) read (at, rose) = (at, rose, record { same_files = read.same_files; same_out = refl })
read-ends tool job old new out fault.OutOfMemory read why = record { same_files = read.same_files; same_out = refl }
read-ends tool job old new out (fault.Refused f) read why = absurd why
read-ends tool job old new out fault.Words read why = absurd why
read-ends tool job old new out fault.Write read why = absurd why
read-ends tool job old new out fault.Print read why = absurd why

pub read-failed : {T : Type 0} (tool : Tool T) (words : List (List ℕ)) (job : tool.Job) (old new : FileSystem) (out : Printed)
    (f : ToolFault T) → tool.Asks words job → OnlyReads old new → ReadFails old new (tool.task job).word (tool.task job).path f
    → IsEnded tool words (devices old out) (devices new out) (Some f)
read-failed tool words job old new out f asks read why =
    behind-read tool words job old new out f asks read (read-ends tool job old new out f read why)

-- the file is refused
pub file-refused : {T : Type 0} (tool : Tool T) (words : List (List ℕ)) (job : tool.Job) (old new : FileSystem) (out : Printed)
    (bytes : List ℕ) (f : T) → tool.Asks words job → OnlyReads old new → HasBytes (devices old out) (tool.task job) bytes
    → tool.Refuses job bytes f → IsEnded tool words (devices old out) (devices new out) (Some (fault.Refused f))
file-refused tool words job old new out bytes f asks read has refuses =
    behind-read tool words job old new out (fault.Refused f) asks read
    (bytes, has, refuses, record { same_files = read.same_files; same_out = refl })

-- memory runs out behind the read
pub memory-ended : {T : Type 0} (tool : Tool T) (words : List (List ℕ)) (job : tool.Job) (old new : FileSystem) (out : Printed)
    → tool.Asks words job → OnlyReads old new → IsEnded tool words (devices old out) (devices new out) (Some fault.OutOfMemory)
memory-ended tool words job old new out asks read =
    behind-read tool words job old new out fault.OutOfMemory asks read (record { same_files = read.same_files; same_out = refl })

-- the answer is printed
pub answer-printed : {T : Type 0} (tool : Tool T) (words : List (List ℕ)) (job : tool.Job) (old new : FileSystem) (out later : Printed)
    (bytes text : List ℕ) → tool.Asks words job → OnlyReads old new → HasBytes (devices old out) (tool.task job) bytes
    → tool.Answers job bytes text → (tool.task job).output ≡ None → TakesBytes out later text → CountsOn out.failed later.failed
    → IsEnded tool words (devices old out) (devices new later) None
answer-printed tool words job old new out later bytes text asks read has answers printed taken counted =
    let gives = subst (λ o. Gives o (devices old out) (devices new later) text) (sym printed)
    (taken, read.same_files) in
    record {
      run = inr (job, asks, (text, record { bytes = bytes; has = has; answers = answers }, gives));
      kept = kept-by-print old new out later read counted;
    }

-- a print of it failed
pub print-failed : {T : Type 0} (tool : Tool T) (words : List (List ℕ)) (job : tool.Job) (old new : FileSystem) (out later : Printed)
    (bytes text : List ℕ) → tool.Asks words job → OnlyReads old new → HasBytes (devices old out) (tool.task job) bytes
    → tool.Answers job bytes text → (tool.task job).output ≡ None → TakesPrefix out later text → CountRose out.failed later.failed
    → CountsOn out.failed later.failed → IsEnded tool words (devices old out) (devices new later) (Some fault.Print)
print-failed tool words job old new out later bytes text asks read has answers printed left rose counted =
    record {
      run = inr (
        job,
        asks,
        (
          text,
          record { bytes = bytes; has = has; answers = answers },
          record { printed = printed; left = left; rose = rose; same_files = read.same_files },
        ),
      );
      kept = kept-by-print old new out later read counted;
    }

-- the answer is written
pub answer-written : {T : Type 0} (tool : Tool T) (words : List (List ℕ)) (job : tool.Job) (old mid new : FileSystem) (out : Printed)
    (bytes text path : List ℕ) → tool.Asks words job → OnlyReads old mid → HasBytes (devices old out) (tool.task job) bytes
    → tool.Answers job bytes text → (tool.task job).output ≡ Some path → OnlyWrites mid new → WritesFile mid.files new.files path text
    → IsEnded tool words (devices old out) (devices new out) None
answer-written tool words job old mid new out bytes text path asks read has answers written wrote done =
    let gives = subst (λ o. Gives o (devices old out) (devices new out) text) (sym written)
    (subst (λ (s : Option Store). WritesFile s new.files path text) read.same_files done, refl) in
    record {
      run = inr (job, asks, (text, record { bytes = bytes; has = has; answers = answers }, gives));
      kept = kept-by-write old mid new out read wrote;
    }

-- the write of it failed
write-ends : {T : Type 0} (tool : Tool T) (job : tool.Job) (old mid new : FileSystem) (out : Printed) (text path : List ℕ) (f : ToolFault T)
    → OnlyReads old mid → OnlyWrites mid new → HasAnswer tool job (devices old out) text → (tool.task job).output ≡ Some path
    → WriteFails mid new path text f → Ends tool job (devices old out) (devices new out) (Some f)
write-ends tool job old mid new out text path fault.Write read wrote answer written (torn, rose) = (
  text,
  answer,
  record {
    path = path;
    written = written;
    left = subst (λ (s : Option Store). TornWrite s new.files path text) read.same_files torn;
    rose = subst (λ n. CountRose n new.failed_writes) read.same_failed_writes rose;
    same_out = refl;
  },
)
write-ends tool job old mid new out text path fault.OutOfMemory read wrote answer written same =
    record { same_files = same ∙ read.same_files; same_out = refl }
write-ends tool job old mid new out text path (fault.MissingFile word) read wrote answer written why = absurd why
write-ends tool job old mid new out text path (fault.Refused f) read wrote answer written why = absurd why
write-ends tool job old mid new out text path fault.Words read wrote answer written why = absurd why
write-ends tool job old mid new out text path (fault.Read word) read wrote answer written why = absurd why
write-ends tool job old mid new out text path fault.Print read wrote answer written why = absurd why

pub write-failed : {T : Type 0} (tool : Tool T) (words : List (List ℕ)) (job : tool.Job) (old mid new : FileSystem) (out : Printed)
    (bytes text path : List ℕ) (f : ToolFault T) → tool.Asks words job → OnlyReads old mid
    → HasBytes (devices old out) (tool.task job) bytes → tool.Answers job bytes text → (tool.task job).output ≡ Some path
    → OnlyWrites mid new → WriteFails mid new path text f → IsEnded tool words (devices old out) (devices new out) (Some f)
write-failed tool words job old mid new out bytes text path f asks read has answers written wrote why =
    let answer : HasAnswer tool job (devices old out) text = record { bytes = bytes; has = has; answers = answers } in
    record {
      run = inr (job, asks, write-ends tool job old mid new out text path f read wrote answer written why);
      kept = kept-by-write old mid new out read wrote;
    }

-- the run ends with the write of its answer
pub write-ended : {T X : Type 0} (tool : Tool T) (words : List (List ℕ)) (job : tool.Job) (old mid new : FileSystem) (out : Printed)
    (bytes text path : List ℕ) (r : Result X (ToolFault T)) → tool.Asks words job → OnlyReads old mid
    → HasBytes (devices old out) (tool.task job) bytes → tool.Answers job bytes text → (tool.task job).output ≡ Some path
    → OnlyWrites mid new → OnOk r (WritesFile mid.files new.files path text) → IfErr r (WriteFails mid new path text)
    → IsEnded tool words (devices old out) (devices new out) (result_err r)
write-ended tool words job old mid new out bytes text path (Ok x) asks read has answers written wrote done why =
    answer-written tool words job old mid new out bytes text path asks read has answers written wrote done
write-ended tool words job old mid new out bytes text path (Err f) asks read has answers written wrote done why =
    write-failed tool words job old mid new out bytes text path f asks read has answers written wrote why

-- what a file holds, said otherwise
pub bytes-as : (files : Option Store) (path bytes other : List ℕ) → other ≡ bytes → ReadsFile files path (Some bytes)
    → ReadsFile files path (Some other)
bytes-as files path bytes other same held = subst (λ (t : List ℕ). ReadsFile files path (Some t)) (sym same) held

-- a run, by its answer and what is told of it
pub tool-run : {T : Type 0} (tool : Tool T) (words : List (List ℕ)) (old new : Devices) (before after : Printed) (ran : ToolRan T)
    (f : Option (ToolFault T)) → ran.fault ≡ f → ran.status ≡ status_of ran.fault → IsEnded tool words old new f
    → IsEndTold tool.name before after ran.fault → CountsOn before.failed after.failed → IsToolRun tool words old new before after ran
tool-run tool words old new before after ran f is status ended told counted = record {
  status = status;
  ended = subst (λ e. IsEnded tool words old new e) (sym is) ended;
  told = told;
  lines = counted;
}
