-- A link's run has a fixup for each slot, and one for each pointer that the loader writes.
--
-- What is asked for is one behind the other: slots, then those of each section. The placement lists slots and sections as the link does.
use Rattle.std.proofs.Common.{◌≡◌, List, [], ◌∷◌, map, length, refl, sym, ap, ◌∙◌, arith}
use Rattle.std.specs.Prelude.{filter}
use Rattle.std.specs.List.{flat_map}
use Rattle.std.proofs.lemmas.List.{length-map, length-append}
use Rattle.std.proofs.lemmas.List.Concat.{flat_map-cons}
use Rattle.std.proofs.lemmas.List.Folds.{flat_map-map}
use Rattle.macho_model.specs.declared.placed.Counts.{Counts}
use Rattle.macho_model.specs.declared.placed.PlacedSection.{PlacedSection}
use Rattle.macho_model.specs.declared.targets.Target.{Target}
use Rattle.macho_model.specs.Links.{Link, SectionId, carried_of}
use Rattle.macho_model.specs.Fields.{Field, fields_of}
use Rattle.macho_model.specs.ImportTable.{fixup_count}
use Rattle.macho_model.specs.Placement.{Placed, id_of}
use Rattle.macho_model.specs.Values.{needs_fixup}
use Rattle.macho_promise.specs.Asked.{slot_fixup, field_fixup, fixups_in, fixups_asked}
use Rattle.macho_layout_laws.specs.Laws.{IsWhollyPlaced}
use Rattle.macho_promise.proofs.FixupCounts.{fixups_in_section}

-- lists of the same lengths, one behind the other
same_lengths : {X Y Z : Type 0} (f : X → List Y) (g : X → List Z) (xs : List X) → ((x : X) → length (f x) ≡ length (g x))
    → length (flat_map f xs) ≡ length (flat_map g xs)
same_lengths f g [] each = refl
same_lengths f g (x ∷ xs) each =
    ap length (flat_map-cons f x xs) ∙ length-append (f x) (flat_map f xs)
    ∙ omega (arith, each x, same_lengths f g xs each)
    ∙ sym (ap length (flat_map-cons g x xs) ∙ length-append (g x) (flat_map g xs))

pub asked_count : (l : Link) (counts : Counts) (p : Placed) → IsWhollyPlaced l counts p → length (fixups_asked l p) ≡ fixup_count l
unfolding fixups_asked fixup_count
asked_count l counts p placed =
    length-append (map (slot_fixup l p) p.slots) (flat_map (fixups_in l p) p.sections)
    ∙ omega (
      arith,
      length-map p.slots (slot_fixup l p),
      length-map p.slots (λ s. s.target),
      ap (λ (ts : List Target). length ts) placed.placed.whole_list.slots,
      same_lengths (fixups_in l p) (λ (q : PlacedSection). filter (needs_fixup l (id_of q)) (fields_of l (id_of q))) p.sections
          (fixups_in_section l p),
      ap (λ (xs : List Field). length xs) pointers,
    )
  where
    needs : SectionId → List Field
    needs s = filter (needs_fixup l s) (fields_of l s)

    pointers : flat_map (λ (q : PlacedSection). needs (id_of q)) p.sections ≡ flat_map needs (carried_of l)
    pointers = sym (flat_map-map needs id_of p.sections) ∙ ap (flat_map needs) placed.order.sections
