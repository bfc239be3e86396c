-- The sink in memory as plain lists, sets and numbers. Clauses compare these.
use Rattle.std.specs.Prelude.{◌≡◌, ℕ, ◌+◌, ◌<◌, ◌≤◌, ◌⊎◌, true, false, List, [], ◌++◌, length, Some, Result, Ok, Err}
use Rattle.std.specs.FinSet as sets
use Rattle.macho_devices.specs.declared.memory_sink.MemorySink.{MemorySink}
use Rattle.macho_devices.specs.Devices.{Printed}
use Rattle.macho_devices.specs.Faults.{one_more}
use Rattle.macho_devices.specs.Memory.{Numbers}

-- A sink in memory: what it took, for how many bytes it has room in all, the numbers of the writes that are to
-- fail, how many writes there were and how many of them have failed.
pub record Output : Type 0 where
  pub taken : List ℕ
  pub room : ℕ
  pub failing_writes : Numbers
  pub writes : ℕ
  pub faults : ℕ

-- has taken nothing, and no write is to fail
abbrev pub fresh_output : ℕ → Output
fresh_output room = record { taken = []; room = room; failing_writes = sets.empty; writes = 0; faults = 0 }

abbrev pub output_of : MemorySink → Output
output_of sink =
    record {
      taken = sink.taken.items;
      room = sink.room;
      failing_writes = sets.from_list sink.failing_writes.items;
      writes = sink.writes;
      faults = sink.faults;
    }

-- what a sink in memory tells
abbrev pub printed_by : MemorySink → Printed
printed_by sink = record { taken = Some (output_of sink).taken; failed = (output_of sink).faults }

-- One write more is to fail, and nothing else is changed.
abbrev pub FailsPiece : ℕ → Output → Output → Type 0
FailsPiece number old new = new ≡ record old { failing_writes = sets.insert old.failing_writes number }

-- A piece that was taken: its write was not to fail, it fits the room, and it stands behind all that was taken.
pub record PieceTaken (old new : Output) (bytes : List ℕ) : Type 0 where
  pub not_to_fail : sets.contains old.failing_writes old.writes ≡ false
  pub fits : length old.taken + length bytes ≤ old.room
  pub behind : new ≡ record old { taken = old.taken ++ bytes; writes = one_more old.writes }

-- A piece that was refused: its write was to fail or passes the room. It is counted as a write and as a fault, and
-- nothing of it is taken.
pub record PieceRefused (old new : Output) (bytes : List ℕ) : Type 0 where
  pub cause : (sets.contains old.failing_writes old.writes ≡ true) ⊎ (old.room < length old.taken + length bytes)
  pub counted : new ≡ record old { writes = one_more old.writes; faults = one_more old.faults }

-- A piece is refused exactly where its write is to fail or passes the room.
abbrev pub PrintsAsTold : {A E : Type 0} → Output → Output → List ℕ → Result A E → Type 0
PrintsAsTold old new bytes (Ok _) = PieceTaken old new bytes
PrintsAsTold old new bytes (Err _) = PieceRefused old new bytes
