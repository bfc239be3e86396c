-- Laws that a reader of the definitions expects. Each is the contract of a function of `src/laws.rt`.
use Rattle.std.specs.Prelude.{◌≡◌, ℕ, ◌+◌, ◌<◌, ◌≤◌, List, [], Contains}
use Rattle.macho_records.specs.declared.header.SegmentCommand.{SegmentCommand}
use Rattle.macho_model.specs.Images.{mapped_segments, tables_of}
use Rattle.macho_model.specs.Chain.{OnChainOf}
use Rattle.macho_model.specs.Loader.{IsAccepted}
use Rattle.macho_model.specs.Memory.{Choice, Covers, Holds}

-- a file without fixup tables has no chain
abbrev pub UnchainedIsEmpty : Type 0
UnchainedIsEmpty = (b : List ℕ) → tables_of b ≡ [] → (a : ℕ) → OnChainOf b a → ⊥

-- memory outside chain words is memory at slide 0, moved, and back
abbrev pub MemoryMoves : Type 0
MemoryMoves =
    (b : List ℕ) (s : ℕ) (c d : Choice) (a v : ℕ) → ((word_at : ℕ) → Covers b word_at a → ⊥) → Holds b 0 c a v → Holds b s d (a + s) v

abbrev pub MemoryMovesBack : Type 0
MemoryMovesBack =
    (b : List ℕ) (s : ℕ) (c d : Choice) (a v : ℕ) → ((word_at : ℕ) → Covers b word_at a → ⊥) → Holds b s c (a + s) v → Holds b 0 d a v

-- two mapped segments of an accepted image that share an address are one
abbrev pub SegmentsAreApart : Type 0
SegmentsAreApart =
    (b : List ℕ) (s t : SegmentCommand) (a : ℕ) → IsAccepted b → Contains (mapped_segments b) s → Contains (mapped_segments b) t
    → (s.vmaddr ≤ a) × (a < s.vmaddr + s.vmsize) → (t.vmaddr ≤ a) × (a < t.vmaddr + t.vmsize) → s ≡ t
