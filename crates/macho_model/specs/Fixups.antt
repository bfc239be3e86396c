-- The entries of the import table that a link needs; and which words of an image the loader writes: the slots, and the
-- pointers that move with the image or lead to an import.
use Rattle.std.specs.Prelude.{◌≡◌, ℕ, ◌+◌, ◌==◌, ◌&&◌, ◌↔◌, nat_lt, not, if◌then◌else◌, Bool, true, List, ◌++◌, length, map, Option, Some, None, Contains}
use Rattle.std.specs.List.{flat_map, filter_map, range_with_len}
use Rattle.macho_model.specs.declared.placed.PlacedSection.{PlacedSection}
use Rattle.macho_model.specs.declared.placed.Slot.{Slot}
use Rattle.macho_model.specs.declared.targets.Target.{Target}
use Rattle.macho_model.specs.declared.targets.Target.TheVariants as target
use Rattle.macho_model.specs.Links.{Link, carried_of}
use Rattle.macho_model.specs.Needs.{imports_of, distinct}
use Rattle.macho_model.specs.Fields.{Field, fields_of}
use Rattle.macho_model.specs.Placement.{Placed, id_of}
use Rattle.macho_model.specs.Images.{IMPORT_FORMAT, IMPORT_ADDEND_FORMAT}
use Rattle.macho_model.specs.Chain.{OnChainOf}
use Rattle.macho_model.specs.Values.{is_pointer, needs_fixup}

-- an address is that of a slot, or of a pointer that needs a fixup
pub data IsFixupPlace (l : Link) (p : Placed) : ℕ → Type 0 where
  slot : (s : Slot) → Contains p.slots s → IsFixupPlace l p s.address
  pointer : (q : PlacedSection) (f : Field) → Contains p.sections q → Contains (fields_of l (id_of q)) f → needs_fixup l (id_of q) f ≡ true
      → IsFixupPlace l p (q.address + f.offset)

-- the words on the chain of an image are exactly these
abbrev pub ChainIsWhole : Link → List ℕ → Placed → Type 0
ChainIsWhole l b p = (a : ℕ) → OnChainOf b a ↔ IsFixupPlace l p a

-- An entry of the import table: an import by its number, and an addend modulo 2 ^ 64.
pub record EntryOfImport : Type 0 where
  pub import : ℕ
  pub addend : ℕ

abbrev pub same_entry : EntryOfImport → EntryOfImport → Bool
same_entry a b = (a.import == b.import) && (a.addend == b.addend)

-- a chain word has room for addends of 8 bits
abbrev pub has_room : ℕ → Bool
has_room addend = nat_lt addend 256

-- the entry that a pointer to an import needs of its own: one whose addend a chain word has no room for
abbrev pub own_entry : Bool → Target → ℕ → Option EntryOfImport
own_entry true (target.Import id) addend = if has_room addend then None else Some (record { import = id; addend = addend })
own_entry is_one t addend = None

-- the entries that pointers need of their own, in the order of the walk
unfoldable pub own_entries : Link → List EntryOfImport
own_entries l =
    distinct same_entry (flat_map (λ s. filter_map (λ f. own_entry (is_pointer f) f.target f.addend) (fields_of l s)) (carried_of l))

-- the import table: an entry for each import, then those
unfoldable pub import_entries_of : Link → List EntryOfImport
import_entries_of l = map (λ id. record { import = id; addend = 0 }) (range_with_len 0 (length (imports_of l))) ++ own_entries l

unfoldable pub entries_have_addends : Link → Bool
entries_have_addends l = not (length (own_entries l) == 0)

-- addends have room in the table only where there are any
abbrev pub import_format : Link → ℕ
import_format l = if entries_have_addends l then IMPORT_ADDEND_FORMAT else IMPORT_FORMAT
