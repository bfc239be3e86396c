-- Which refusals do not stand, as far as the tests have come.
use Rattle.std.specs.Prelude.{◌≡◌, ℕ, ◌<◌, ◌≤◌, true, List, Contains}
use Rattle.macho_model.specs.Commands.{Command, command_at, commands_end}
use Rattle.macho_model.specs.Images.{Table}
use Rattle.macho_retool.specs.declared.form.Form.{Form}
use Rattle.macho_retool.specs.Changes.{IsNamed}
use Rattle.macho_retool.specs.Forms.{IsFormed}
use Rattle.macho_retool.specs.steps.Formed.{SaysForm}
use Rattle.macho_retool.specs.declared.parts.FilePart.{FilePart}
use Rattle.macho_retool.specs.declared.change.Change.{Change}
use Rattle.macho_retool.specs.declared.change.RetoolFault.{RetoolFault}
use Rattle.macho_retool.specs.declared.change.RetoolFault.TheVariants.{NotThere, Unsigned, Tangled, NoRoom, PaddingUsed, OutOfMemory}
use Rattle.macho_retool.specs.Parts.{is_in_way, room_of}
use Rattle.macho_retool.specs.Refusals.{IsTangled, IsFirstUsed, Refuses, rank}

-- a part of a list is in the way, and begins at a place
abbrev pub IsPartInWay : List FilePart → ℕ → ℕ → ℕ → Type 0
IsPartInWay parts end limit place = (p : FilePart) × Contains parts p × (is_in_way end limit p ≡ true) × (place ≡ p.at)

-- no refusal of a lower rank stands
abbrev pub ClearBelow : List ℕ → Change → ℕ → Type 0
ClearBelow b change n = (fault : RetoolFault) → rank fault < n → Refuses b change fault → ⊥

-- what the tests of the room find that new load commands need up to a place
abbrev pub RoomRefuses : List ℕ → ℕ → RetoolFault → Type 0
RoomRefuses b end (Tangled place) = IsTangled b place
RoomRefuses b end (NoRoom needed room) = (needed ≡ end) × (room ≡ room_of b) × (room < end)
RoomRefuses b end (PaddingUsed place) = IsFirstUsed b (commands_end b) end place
RoomRefuses b end OutOfMemory = Unit {0}
RoomRefuses b end fault = ⊥

-- none of them of a lower rank stands
abbrev pub RoomIsClear : List ℕ → ℕ → ℕ → Type 0
RoomIsClear b end n = (fault : RetoolFault) → 5 ≤ rank fault → rank fault < n → RoomRefuses b end fault → ⊥

-- what the look-up of command and signature finds
abbrev pub FindRefuses : List ℕ → Change → RetoolFault → Type 0
FindRefuses b change NotThere = (c : Command) → IsNamed change b c → ⊥
FindRefuses b change Unsigned = (t : Table) → IsFormed b t → ⊥
FindRefuses b change OutOfMemory = Unit {0}
FindRefuses b change fault = ⊥

abbrev pub FindIsClear : List ℕ → Change → ℕ → Type 0
FindIsClear b change n = (fault : RetoolFault) → 3 ≤ rank fault → rank fault < n → FindRefuses b change fault → ⊥

-- the place of the command that a change names, and the form of the signature
pub record IsFound (b : List ℕ) (change : Change) (x : ℕ × Form) : Type 0 where
  pub named : IsNamed change b (command_at b x.0)
  pub table : Table
  pub formed : IsFormed b table
  pub says : SaysForm b table x.1
