-- The bytes of a changed image, range by range, and what is known of the image that was changed.
use Rattle.std.specs.Prelude.{◌≡◌, ℕ, ◌+◌, ◌-◌, ◌<◌, ◌≤◌, false, List, length, get_or, Contains}
use Rattle.macho_bytes.specs.Numbers.{le_at}
use Rattle.macho_bytes.specs.Texts.{Stands, IsOutside}
use Rattle.macho_model.specs.Commands.{Command, commands_end}
use Rattle.macho_model.specs.Images.{Table}
use Rattle.macho_model.specs.Loader.{IsAccepted}
use Rattle.macho_model.specs.Signature.{page_digests}
use Rattle.macho_retool.specs.declared.change.Change.{Change}
use Rattle.macho_retool.specs.declared.parts.FilePart.{FilePart}
use Rattle.macho_retool.specs.Changes.{IsNamed, path_for, new_size, new_text, new_end}
use Rattle.macho_retool.specs.Parts.{parts_of, signature_begin, is_in_way, room_of}
use Rattle.macho_retool.specs.Forms.{IsFormed, digests_place}
use Rattle.macho_retool.specs.Retooled.{both_end}

-- An image may be changed: no refusal stands.
pub record IsReady (change : Change) (b : List ℕ) (c : Command) (t : Table) : Type 0 where
  pub accepted : IsAccepted b
  pub ends : Contains (path_for change) 0 → ⊥
  pub named : IsNamed change b c
  pub formed : IsFormed b t
  pub clear : (p : FilePart) → Contains (parts_of b) p → is_in_way (commands_end b) (signature_begin b) p ≡ false
  pub room : new_end change b c ≤ room_of b

-- The bytes x are those of b with the command changed, range by range.
pub record IsSpliced (change : Change) (b x : List ℕ) (c : Command) (t : Table) : Type 0 where
  pub long : length x ≡ length b
  -- the header in front of the size of the load commands, that size, the rest of the header with the commands in front
  pub low : (i : ℕ) → i < 20 → get_or x i 0 ≡ get_or b i 0
  pub size : le_at 4 x 20 ≡ new_end change b c - 32
  pub head : (i : ℕ) → 24 ≤ i → i < c.at → get_or x i 0 ≡ get_or b i 0
  pub text : Stands x (record { at = c.at; text = new_text change b c })
  -- what stands behind the command up to the end of the old ones has moved
  pub tail : (i : ℕ) → c.at + c.size ≤ i → i < commands_end b → get_or x (i + new_size change - c.size) 0 ≡ get_or b i 0
  pub freed : (i : ℕ) → new_end change b c ≤ i → i < commands_end b → get_or x i 0 ≡ 0
  pub kept : (i : ℕ) → both_end change b c ≤ i → IsOutside i (record { at = digests_place b t; text = page_digests x t.at })
      → get_or x i 0 ≡ get_or b i 0
  pub signed : Stands x (record { at = digests_place b t; text = page_digests x t.at })
