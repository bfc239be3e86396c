-- When a change is refused, and in which order the refusals are told.
use Rattle.std.specs.Prelude.{◌≡◌, ◌≢◌, ℕ, ◌<◌, ◌≤◌, true, List, slice_index, Contains, Result, Ok, Err}
use Rattle.std.specs.Global.{Vec}
use Rattle.macho_model.specs.Commands.{Command, commands_end}
use Rattle.macho_model.specs.Images.{Table}
use Rattle.macho_model.specs.Loader.{IsAccepted, ImageBreaks}
use Rattle.macho_retool.specs.declared.parts.FilePart.{FilePart}
use Rattle.macho_retool.specs.declared.change.Change.{Change}
use Rattle.macho_retool.specs.declared.change.RetoolFault.{RetoolFault}
use Rattle.macho_retool.specs.declared.change.RetoolFault.TheVariants.{Rejected, BadName, NotThere, Unsigned, Tangled, NoRoom, PaddingUsed, OutOfMemory}
use Rattle.macho_retool.specs.Changes.{IsNamed, path_for, new_end}
use Rattle.macho_retool.specs.Parts.{parts_of, signature_begin, is_in_way, room_of}
use Rattle.macho_retool.specs.Forms.{IsFormed}

-- a part that is in the way begins at a file offset
abbrev pub IsTangled : List ℕ → ℕ → Type 0
IsTangled b place = (p : FilePart) × Contains (parts_of b) p × (is_in_way (commands_end b) (signature_begin b) p ≡ true) × (place ≡ p.at)

-- the new load commands of a change would end at a place
abbrev pub EndsAt : Change → List ℕ → ℕ → Type 0
EndsAt change b end = (c : Command) × IsNamed change b c × (end ≡ new_end change b c)

-- the first byte of a range that isn't 0 stands at a place
pub record IsFirstUsed (b : List ℕ) (from to place : ℕ) : Type 0 where
  pub behind : from ≤ place
  pub before : place < to
  pub used : slice_index b place ≢ 0
  pub first : (i : ℕ) → from ≤ i → i < place → slice_index b i ≡ 0

-- A refusal stands. (Want of memory is none.)
abbrev pub Refuses : List ℕ → Change → RetoolFault → Type 0
Refuses b change (Rejected fault) = IsAccepted b → ⊥
Refuses b change BadName = Contains (path_for change) 0
Refuses b change NotThere = (c : Command) → IsNamed change b c → ⊥
Refuses b change Unsigned = (t : Table) → IsFormed b t → ⊥
Refuses b change (Tangled place) = IsTangled b place
Refuses b change (NoRoom needed room) = EndsAt change b needed × (room ≡ room_of b) × (room < needed)
Refuses b change (PaddingUsed place) = (end : ℕ) × EndsAt change b end × IsFirstUsed b (commands_end b) end place
Refuses b change OutOfMemory = ⊥

-- the order in which they are told; want of memory may be told before any
abbrev pub rank : RetoolFault → ℕ
rank OutOfMemory = 0
rank (Rejected fault) = 1
rank BadName = 2
rank NotThere = 3
rank Unsigned = 4
rank (Tangled place) = 5
rank (NoRoom needed room) = 6
rank (PaddingUsed place) = 7

-- what is told stands, want of memory aside; and of a file that the loader doesn't accept, a rule that it breaks, and where
abbrev pub IsTold : List ℕ → Change → RetoolFault → Type 0
IsTold b change OutOfMemory = Unit {0}
IsTold b change (Rejected fault) = (IsAccepted b → ⊥) × ImageBreaks b fault.rule fault.place
IsTold b change fault = Refuses b change fault

-- An answer tells a refusal that isn't behind one that stands.
abbrev pub TellsBy : RetoolFault → Result (Vec ℕ) RetoolFault → Type 0
TellsBy fault (Ok image) = ⊥
TellsBy fault (Err told) = rank told ≤ rank fault
