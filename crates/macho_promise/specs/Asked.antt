-- The fixups that the parts of an image ask for: one for each slot, and one for each pointer that the loader writes.
use Rattle.std.specs.Prelude.{ℕ, ◌+◌, List, ◌++◌, map, filter}
use Rattle.std.specs.List.{flat_map}
use Rattle.macho_model.specs.declared.placed.PlacedSection.{PlacedSection}
use Rattle.macho_model.specs.declared.placed.Slot.{Slot}
use Rattle.macho_model.specs.Links.{Link}
use Rattle.macho_model.specs.Fields.{Field, fields_of}
use Rattle.macho_model.specs.Values.{needs_fixup}
use Rattle.macho_model.specs.Placement.{Placed, id_of}
use Rattle.macho_promise.specs.Fixup.{Fixup}
use Rattle.macho_promise.specs.FixupsSay.{kind_for}

abbrev pub slot_fixup : Link → Placed → Slot → Fixup
slot_fixup l p s = record { address = s.address; kind = kind_for l p s.target 0 }

abbrev pub field_fixup : Link → Placed → PlacedSection → Field → Fixup
field_fixup l p q f = record { address = q.address + f.offset; kind = kind_for l p f.target f.addend }

-- those of one section, in the order of its relocations
unfoldable pub fixups_in : Link → Placed → PlacedSection → List Fixup
fixups_in l p q = map (field_fixup l p q) (filter (needs_fixup l (id_of q)) (fields_of l (id_of q)))

-- all of them: slots, then sections in order
unfoldable pub fixups_asked : Link → Placed → List Fixup
fixups_asked l p = map (slot_fixup l p) p.slots ++ flat_map (fixups_in l p) p.sections
