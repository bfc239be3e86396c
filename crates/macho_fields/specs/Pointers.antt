-- The pointers of a placed section that the loader has to write.
use Rattle.std.specs.Prelude.{◌+◌, List, map, filter}
use Rattle.macho_model.specs.declared.placed.PlacedSection.{PlacedSection}
use Rattle.macho_model.specs.Links.{Link}
use Rattle.macho_model.specs.Fields.{Field, fields_of}
use Rattle.macho_model.specs.Values.{needs_fixup}
use Rattle.macho_model.specs.Placement.{id_of}
use Rattle.macho_fields.specs.declared.pointers.Pointer.{Pointer}

-- the pointer that a field of a section is: it stands at the field's offset behind the section's address
abbrev pub pointer_of : PlacedSection → Field → Pointer
pointer_of q f = record {
  file = q.file;
  section = q.section;
  relocation = f.relocation;
  address = q.address + f.offset;
  target = f.target;
  addend = f.addend;
}

-- THE pointers of a section that need a fixup, in the order of its relocations
unfoldable pub pointers_in : Link → PlacedSection → List Pointer
pointers_in l q = map (pointer_of q) (filter (needs_fixup l (id_of q)) (fields_of l (id_of q)))
