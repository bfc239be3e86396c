-- How many fixups a section needs, by its fields.
use Rattle.std.proofs.Common.{◌≡◌, length}
use Rattle.std.specs.Prelude.{filter}
use Rattle.std.proofs.lemmas.List.{length-map}
use Rattle.macho_model.specs.declared.placed.PlacedSection.{PlacedSection}
use Rattle.macho_model.specs.Links.{Link}
use Rattle.macho_model.specs.Fields.{fields_of}
use Rattle.macho_model.specs.Placement.{Placed, id_of}
use Rattle.macho_model.specs.Values.{needs_fixup}
use Rattle.macho_promise.specs.Asked.{field_fixup, fixups_in}

pub fixups_in_section : (l : Link) (p : Placed) (q : PlacedSection)
    → length (fixups_in l p q) ≡ length (filter (needs_fixup l (id_of q)) (fields_of l (id_of q)))
unfolding fixups_in
fixups_in_section l p q = length-map (filter (needs_fixup l (id_of q)) (fields_of l (id_of q))) (field_fixup l p q)
