-- The words that the loader writes share no byte.
--
-- They stand in slots, and in pointers of 8 bytes inside their sections. Parts of a placement share no address; so two slots, a slot and a
-- pointer, or pointers of two sections are apart. Two fields of one section are one or apart, as supported relocations are. So where a
-- word begins no other one begins before its end.
use Rattle.std.proofs.Common.{◌≡◌, ℕ, ◌+◌, ◌≤◌, ◌⊎◌, true, List, ◌∷◌, ◌++◌, map, sym, ap, subst, arith, inl, inr}
use Rattle.std.specs.Prelude.{Contains, AllPairs}
use Rattle.macho_bytes.proofs.Pairs.{pairs_front, pairs_back, pairs_unmap}
use Rattle.macho_model.specs.declared.placed.Counts.{Counts}
use Rattle.macho_model.specs.declared.placed.PlacedSection.{PlacedSection}
use Rattle.macho_model.specs.declared.placed.Slot.{Slot}
use Rattle.macho_model.specs.Links.{Link}
use Rattle.macho_model.specs.Fields.{Field, fields_of}
use Rattle.macho_model.specs.Needs.{POINTER_SIZE}
use Rattle.macho_model.specs.Placement.{Placed, id_of, linkedit_ranges}
use Rattle.macho_model.specs.Spans.{AreApart, head_span, section_span, common_span, slot_span, stub_span, range_span, linkedit_span, spans_with}
use Rattle.macho_model.specs.Values.{needs_fixup}
use Rattle.macho_model.specs.Chain.{OnChainOf}
use Rattle.macho_model.specs.Fixups.{IsFixupPlace}
use Rattle.macho_model.specs.Fixups as place
use Rattle.macho_model.proofs.FixedPointers.{fixed_pointer}
use Rattle.macho_model.proofs.Parts.{apart_of}
use Rattle.macho_model.proofs.Sections.{apart_back}
use Rattle.macho_image_laws.proofs.Members.{one_or_pair}
use Rattle.macho_image_laws.proofs.FieldsApart.{fields_apart}
use Rattle.macho_image_laws.proofs.Apart.{PartsAreApart, parts_apart, inside_apart, placed_is_carried}
use Rattle.macho_verify_laws.specs.Laws.{IsAsked}
use Rattle.macho_verify_laws.proofs.Free.{pointer_inside}

-- no word begins in one of so many bytes behind the first
abbrev pub BeginsOutside : ℕ → ℕ → Type 0
BeginsOutside a other = (other ≤ a) ⊎ (a + POINTER_SIZE ≤ other)

-- two slots of the list of parts
slots_apart : (l : Link) (counts : Counts) (p : Placed) → AllPairs AreApart (spans_with l counts p p.sections)
    → AllPairs (λ s t. AreApart (slot_span s) (slot_span t)) p.slots
unfolding spans_with
slots_apart l counts p all =
    let front = head_span counts p ∷ map (section_span l) p.sections ++ map (common_span l) p.commons in
    let slots = map slot_span p.slots in
    let stubs = map stub_span p.stubs in
    let ranges = range_span p.init_offsets ∷ range_span p.unwind ∷ map (linkedit_span p) (linkedit_ranges p) in
    let before = pairs_front AreApart (front ++ slots) stubs (pairs_front AreApart (front ++ slots ++ stubs) ranges all) in
    pairs_unmap AreApart slot_span p.slots (pairs_back AreApart front slots before)

module _ (l : Link) (counts : Counts) (b : List ℕ) (p : Placed) (asked : IsAsked l counts b p) where
  parts : PartsAreApart l counts p
  parts = parts_apart l counts p (apart_of asked.placed)

  -- two slots
  two_slots : (s t : Slot) → Contains p.slots s → Contains p.slots t → BeginsOutside s.address t.address
  two_slots s t one other =
      let all = slots_apart l counts p (apart_of asked.placed) in
      elim (one_or_pair (λ x y. AreApart (slot_span x) (slot_span y)) p.slots s t all one other) [
        | inl same ↦ let at : s.address ≡ t.address = ap (λ (x : Slot). x.address) same in inl (omega (arith, at))
        | inr pair ↦
            let spans : AreApart (slot_span s) (slot_span t) = elim pair [ inl a ↦ a | inr a ↦ apart_back (slot_span t) (slot_span s) a ] in
            outside (inside_apart (slot_span s) (slot_span t) s.address POINTER_SIZE t.address POINTER_SIZE spans (omega arith)
            (omega arith) (omega arith) (omega arith) (omega arith) (omega arith))
      ]
    where
      outside : (s.address + POINTER_SIZE ≤ t.address) ⊎ (t.address + POINTER_SIZE ≤ s.address) → BeginsOutside s.address t.address
      outside (inl before) = inr before
      outside (inr behind) = inl (omega (arith, behind))

  -- a slot and a pointer
  slot_and_pointer : (s : Slot) (q : PlacedSection) (f : Field) → Contains p.slots s → Contains p.sections q
      → Contains (fields_of l (id_of q)) f → needs_fixup l (id_of q) f ≡ true
      → (s.address + POINTER_SIZE ≤ q.address + f.offset) ⊎ (q.address + f.offset + POINTER_SIZE ≤ s.address)
  slot_and_pointer s q f slot one field needs =
      let inside = pointer_inside l counts b p q f asked one field needs in
      inside_apart (slot_span s) (section_span l q) s.address POINTER_SIZE (q.address + f.offset) POINTER_SIZE
      (apart_back (section_span l q) (slot_span s) (parts.section_slot q s one slot)) (omega arith) (omega arith) (omega arith)
      (omega arith) (omega (arith, inside)) (omega arith)

  -- two pointers
  two_pointers : (q r : PlacedSection) (f g : Field) → Contains p.sections q → Contains p.sections r → Contains (fields_of l (id_of q)) f
      → Contains (fields_of l (id_of r)) g → needs_fixup l (id_of q) f ≡ true → needs_fixup l (id_of r) g ≡ true
      → BeginsOutside (q.address + f.offset) (r.address + g.offset)
  two_pointers q r f g one other field too needs needs_too =
      let in_q = pointer_inside l counts b p q f asked one field needs in
      let in_r = pointer_inside l counts b p r g asked other too needs_too in
      let wide_f = (fixed_pointer l (id_of q) f needs).0 in
      let wide_g = (fixed_pointer l (id_of r) g needs_too).0 in
      elim (one_or_pair (λ x y. AreApart (section_span l x) (section_span l y)) p.sections q r parts.sections one other) [
        | inl same ↦
            let here = subst (λ (x : PlacedSection). Contains (fields_of l (id_of x)) g) (sym same) too in
            let at : q.address ≡ r.address = ap (λ (x : PlacedSection). x.address) same in
            elim (fields_apart l (id_of q) f g asked.sound.relocations (placed_is_carried l p q asked.placed.whole_list one) field here) [
              | inl equal ↦ let offset : f.offset ≡ g.offset = ap (λ (x : Field). x.offset) equal in inl (omega (arith, at, offset))
              | inr apart ↦ elim apart [
                | inl before ↦ inr (omega (arith, before, at, wide_f))
                | inr behind ↦ inl (omega (arith, behind, at, wide_g))
              ]
            ]
        | inr pair ↦
            let spans : AreApart (section_span l q) (section_span l r) = elim pair
            [ inl a ↦ a | inr a ↦ apart_back (section_span l r) (section_span l q) a ] in
            elim (inside_apart (section_span l q) (section_span l r) (q.address + f.offset) POINTER_SIZE (r.address + g.offset) POINTER_SIZE
            spans (omega arith) (omega (arith, in_q)) (omega arith) (omega arith) (omega (arith, in_r)) (omega arith)) [
              | inl before ↦ inr before
              | inr behind ↦ inl (omega (arith, behind))
            ]
      ]

  -- THE places of words are apart.
  places_apart : (a other : ℕ) → IsFixupPlace l p a → IsFixupPlace l p other → BeginsOutside a other
  places_apart _ _ (place.IsFixupPlace.slot s slot) (place.IsFixupPlace.slot t too) = two_slots s t slot too
  places_apart _ _ (place.IsFixupPlace.slot s slot) (place.IsFixupPlace.pointer q f one field needs) =
      elim (slot_and_pointer s q f slot one field needs) [ inl before ↦ inr before | inr behind ↦ inl (omega (arith, behind)) ]
  places_apart _ _ (place.IsFixupPlace.pointer q f one field needs) (place.IsFixupPlace.slot s slot) =
      elim (slot_and_pointer s q f slot one field needs) [ inl before ↦ inl (omega (arith, before)) | inr behind ↦ inr behind ]
  places_apart _ _ (place.IsFixupPlace.pointer q f one field needs) (place.IsFixupPlace.pointer r g other too needs_too) =
      two_pointers q r f g one other field too needs needs_too

  -- so in a word that is needed no other one of the chain begins
  pub alone : (a : ℕ) → IsFixupPlace l p a → (other : ℕ) → OnChainOf b other → BeginsOutside a other
  alone a is other on = places_apart a other is ((asked.whole other).0 on)
