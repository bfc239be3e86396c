-- Personality functions and their slots.
--
-- The relocation of a personality is a use of the link, so its target has a slot, which stands in `__DATA_CONST` and so at the base or
-- above it. Entries name as many ids as there are targets at most: each id is the number of one, and two ids are of two targets.
use Rattle.std.proofs.Common.{◌≡◌, ℕ, zero, suc, ◌+◌, ◌*◌, ◌/◌, ◌<◌, ◌≤◌, inl, inr, ◌==◌, eq-eqb, Bool, true, false, List, [], ◌∷◌, ◌++◌, length, map, filter, get_or, refl, sym, ap, subst, ◌∙◌, arith}
use Rattle.std.specs.Prelude.{Contains, AllPairs, Some, option_map, slice_get, flat_map}
use Rattle.std.specs.Str.{bytes_eq}
use Rattle.std.specs.List.{range_with_len, position_or_len, filter_map}
use Rattle.std.proofs.lemmas.Bool.{eqb-true, cases_lt}
use Rattle.std.proofs.lemmas.List.Elements.{Contains-append_left, Contains-append_right}
use Rattle.std.proofs.lemmas.List.Sums.{passes_at_first}
use Rattle.std.proofs.lemmas.Slice.Eq.{bytes_eq-Decides}
use Rattle.indexmap.proofs.IndexTableLemmas.Probe.{pigeonhole}
use Rattle.macho_bytes.proofs.Members.{all_contains, contains_map, map_contains, contains_flat_map, contains_range, position_below, contains_filter_map}
use Rattle.macho_model.specs.declared.placed.Counts.{Counts}
use Rattle.macho_model.specs.declared.placed.PlacedSegment.{PlacedSegment}
use Rattle.macho_model.specs.declared.placed.Slot.{Slot}
use Rattle.macho_model.specs.declared.targets.Target.{Target}
use Rattle.macho_model.specs.declared.targets.Target.TheVariants as target
use Rattle.macho_records.specs.Segments.{text_of}
use Rattle.macho_model.specs.Lists.{IsNumber}
use Rattle.macho_model.specs.Links.{Link, SectionId, header_at, carried_of}
use Rattle.macho_model.specs.ExportLists.{plain_entries}
use Rattle.macho_model.specs.Needs.{initializer_sections, is_imported, relocations_at, unwind_sections, PERSONALITY_PLACE}
use Rattle.macho_model.specs.Uses.{Use, ByPersonality, ByName, uses_of, carried_uses, initializer_uses, personality_uses, slot_of_use}
use Rattle.macho_model.specs.Targets.{same_target, slots_of, slot_number, target_of_relocation}
use Rattle.macho_model.specs.Consumed.{EntryId, entries_of_link, relocations_in_entry, personality_targets}
use Rattle.macho_model.specs.Segments.{DATA_CONST, PAGEZERO}
use Rattle.macho_model.specs.Placement.{Placed}
use Rattle.macho_model.specs.steps.Parts.{LiesInNamed}
use Rattle.macho_model.specs.Spans.{slot_span}
use Rattle.macho_model.specs.Addresses.{slot_address}
use Rattle.macho_model.specs.Stands.{SlotAt}
use Rattle.macho_unwind_pages.specs.declared.entries.UnwindInput.{UnwindInput}
use Rattle.macho_unwind_pages.specs.Entries.{ids_of}
use Rattle.macho_unwind_pages.proofs.NamedIds.{ids_named}
use Rattle.macho_promise.specs.Sizes.{unwind_input}
use Rattle.macho_consumed.proofs.BoundInputs.{in_section}
use Rattle.macho_placed_laws.proofs.Places.{slots_are_had}
use Rattle.macho_placed_laws.proofs.Above.{segment_above}
use Rattle.macho_image_laws.proofs.Distinct.{in_distinct}
use Rattle.macho_synthetic.specs.Made.{IsToMake}
use Rattle.macho_synthetic.proofs.OffsetTexts.{lists_all}
use Rattle.macho_model.proofs.Uses.{slots_are, personalities_are}
use Rattle.macho_model.proofs.Parts.{in_order_of, in_segment_of}
use Rattle.macho_model.proofs.SameTargets.{same_target_is}

-- the use of a personality
person_used : (l : Link) (d : EntryId) (r : ℕ) → Contains (entries_of_link l) d
    → Contains (relocations_in_entry l d.of_section d.entry PERSONALITY_PLACE) r → Contains (uses_of l) (ByPersonality d.of_section r)
unfolding uses_of
person_used l d r has here =
    let s : SectionId = d.of_section in
    let it = in_section l d has in
    let own : Contains (personality_uses l s) (ByPersonality s r) =
    contains_flat_map (λ entry. map (ByPersonality s) (relocations_at l s (32 * entry + 16)))
    (range_with_len 0 ((header_at l s).size / 32)) d.entry
    (ByPersonality s r) (contains_range ((header_at l s).size / 32) d.entry it.within)
    (contains_map (ByPersonality s) (relocations_at l s (32 * d.entry + 16)) r here) in
    let all = contains_flat_map (personality_uses l) (unwind_sections l) s (ByPersonality s r) it.there own in
    let front : List Use = flat_map (carried_uses l) (carried_of l) ++ flat_map (initializer_uses l) (initializer_sections l) in
    let persons : List Use = flat_map (personality_uses l) (unwind_sections l) in
    Contains-append_left (front ++ persons) (map ByName (filter (is_imported l) (plain_entries l.export_lists))) (ByPersonality s r)
    (Contains-append_right front persons (ByPersonality s r) all)

-- so its target has a slot
pub person_slotted : (l : Link) (d : EntryId) (r : ℕ) → Contains (entries_of_link l) d
    → Contains (relocations_in_entry l d.of_section d.entry PERSONALITY_PLACE) r
    → Contains (slots_of l) (target_of_relocation l d.of_section r)
person_slotted l d r has here =
    subst (λ (ts : List Target). Contains ts (target_of_relocation l d.of_section r)) (sym (slots_are l))
    (in_distinct same_target same_target_is (filter_map (slot_of_use l) (uses_of l)) (target_of_relocation l d.of_section r)
    (contains_filter_map (slot_of_use l) (uses_of l) (ByPersonality d.of_section r) (target_of_relocation l d.of_section r)
    (person_used l d r has here) refl))

-- at the base or above it
pub slot_above : (l : Link) (counts : Counts) (p : Placed) (t : Target) → IsToMake l counts p → Contains (slots_of l) t
    → p.base ≤ slot_address p t
slot_above l counts p t make has =
    let at : SlotAt p 0 t (slot_address p t + 0) = slots_are_had l p 0 t (lists_all l counts p make) has in
    let lies : LiesInNamed p DATA_CONST true (slot_span at.0) =
    all_contains (λ (s : Slot). LiesInNamed p DATA_CONST true (slot_span s)) p.slots at.0 (in_segment_of make.placed.placed).slots at.1 in
    let s : PlacedSegment = lies.0 in
    let number : IsNumber p.segments lies.1.0 s = (lies.1.1, lies.1.2) in
    let other : bytes_eq (text_of s.name) PAGEZERO ≡ false = ap (λ (n : List ℕ). bytes_eq n PAGEZERO)
    ((bytes_eq-Decides (text_of s.name) DATA_CONST).0 lies.2) in
    let up = segment_above l p lies.1.0 s (in_order_of make.placed.placed) make.placed.placed.base number other in
    omega (arith, up, lies.3.from, at.3)

-- and is a personality's
pub person_listed : (l : Link) (d : EntryId) (r : ℕ) → Contains (entries_of_link l) d
    → Contains (relocations_in_entry l d.of_section d.entry PERSONALITY_PLACE) r
    → Contains (personality_targets l) (target_of_relocation l d.of_section r)
person_listed l d r has here =
    let f : EntryId → List Target = λ e. map (target_of_relocation l e.of_section)
    (relocations_in_entry l e.of_section e.entry PERSONALITY_PLACE) in
    subst (λ (ts : List Target). Contains ts (target_of_relocation l d.of_section r)) (sym (personalities_are l))
    (in_distinct same_target same_target_is (flat_map f (entries_of_link l)) (target_of_relocation l d.of_section r)
    (contains_flat_map f (entries_of_link l) d (target_of_relocation l d.of_section r) has
    (contains_map (target_of_relocation l d.of_section) (relocations_in_entry l d.of_section d.entry PERSONALITY_PLACE) r here)))

-- an id is the number of a personality's slot
id_named : (l : Link) (d : EntryId) (rs : List ℕ) (id : ℕ) → Contains (entries_of_link l) d
    → relocations_in_entry l d.of_section d.entry PERSONALITY_PLACE ≡ rs
    → option_map (λ r. slot_number l (target_of_relocation l d.of_section r)) (slice_get rs 0) ≡ Some id
    → (t : Target) × Contains (personality_targets l) t × (slot_number l t ≡ id)
id_named l d [] id has is named = absurd (cc)
id_named l d (r ∷ rs) id has is named =
    let number : slot_number l (target_of_relocation l d.of_section r) ≡ id = cc in (
      target_of_relocation l d.of_section r,
      person_listed l d r has
          (subst (λ (xs : List ℕ). Contains xs r) (sym is) (0, omega arith, refl)),
      number,
    )

pub id_of_target : (l : Link) (id : ℕ) → Contains (ids_of (map (unwind_input l) (entries_of_link l))) id
    → (t : Target) × Contains (personality_targets l) t × (slot_number l t ≡ id)
id_of_target l id has =
    let named = ((ids_named (map (unwind_input l) (entries_of_link l))).named id).0 has in
    let made = map_contains (unwind_input l) (entries_of_link l) named.0 named.1 in
    id_named l made.0 (relocations_in_entry l made.0.of_section made.0.entry PERSONALITY_PLACE) id made.1 refl
    (ap (λ (e : UnwindInput). e.personality) made.2 ∙ named.2)

-- THE ids are no more than the personality functions
pub ids_few : (l : Link) → length (ids_of (map (unwind_input l) (entries_of_link l))) ≤ length (personality_targets l)
ids_few l = pigeonhole (length ids) (length ts) f into one
  where
    ids : List ℕ
    ids = ids_of (map (unwind_input l) (entries_of_link l))

    ts : List Target
    ts = personality_targets l

    test : ℕ → Target → Bool
    test id t = slot_number l t == id

    f : ℕ → ℕ
    f k = position_or_len (test (get_or ids k 0)) ts

    there : (k : ℕ) → k < length ids → Contains ids (get_or ids k 0)
    there k lt = (k, lt, again ids k lt)
      where
        again : (xs : List ℕ) (k : ℕ) → k < length xs → get_or xs k (get_or xs k 0) ≡ get_or xs k 0
        again [] k lt = absurd (omega arith)
        again (x ∷ xs) zero lt = refl
        again (x ∷ xs) (suc k) lt = again xs k (omega arith)

    into : (k : ℕ) → k < length ids → f k < length ts
    into k lt =
        let of = id_of_target l (get_or ids k 0) (there k lt) in
        position_below (test (get_or ids k 0)) ts of.0 of.1 (eq-eqb _ _ of.2)

    found : (k : ℕ) → k < length ids → slot_number l (get_or ts (f k) target.None) ≡ get_or ids k 0
    found k lt = eqb-true _ _ (passes_at_first (test (get_or ids k 0)) ts target.None (into k lt))

    rising : AllPairs (λ a b. a < b) ids
    rising = (ids_named (map (unwind_input l) (entries_of_link l))).rising

    one : (i j : ℕ) → i < length ids → j < length ids → f i ≡ f j → i ≡ j
    one i j low lt same =
        let equal : get_or ids i 0 ≡ get_or ids j 0 =
        sym (found i low) ∙ ap (λ (k : ℕ). slot_number l (get_or ts k target.None)) same ∙ found j lt in
        elim (cases_lt i j) [
          | inl before ↦ absurd (omega (arith, equal, rising i j 0 before lt))
          | inr le ↦ elim (cases_lt j i) [
            | inl behind ↦ absurd (omega (arith, equal, rising j i 0 behind low))
            | inr ge ↦ omega
                (arith, le, ge)
          ]
        ]
