-- What is read so far, and why a step was refused.
use Rattle.std.specs.Prelude.{◌≡◌, ◌⊎◌, map, Result, Err}
use Rattle.std.specs.String.{string_bytes}
use Rattle.ld64_words.specs.declared.fault.WordFault.{WordFault}
use Rattle.ld64_words.specs.declared.fault.WordFault.TheVariants.{OutOfMemory}
use Rattle.ld64_words.specs.declared.reading.Reading.{Reading}
use Rattle.ld64_words.specs.Words.{Asked, said_by}

-- what is read so far, in plain lists
abbrev pub asked_of : Reading → Asked
asked_of reading =
    record {
      front = map string_bytes reading.front.items;
      words = map string_bytes reading.words.items;
      notes = map said_by reading.notes.items;
    }

-- Why a step was refused: it is the fault that its meaning has, or memory ran out.
abbrev pub HasCause : {A : Type 0} → Result A WordFault → WordFault → Type 0
HasCause meaning fault = (fault ≡ OutOfMemory) ⊎ (meaning ≡ Err fault)
