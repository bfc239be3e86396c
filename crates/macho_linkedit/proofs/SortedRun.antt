-- The fixups that a placed link asks for, sorted, are its run.
--
-- Words of the list are apart, and so are those of the list in another order. Of two of the sorted list the first begins at
-- or before the second, so it ends before the second begins. All else that the writers ask is true of each fixup that is
-- asked for, and so of each of the same ones in another order: a slot's and a pointer's, case by case.
use Rattle.std.proofs.Common.{◌≡◌, ℕ, ◌+◌, ◌%◌, ◌^◌, ◌==◌, ◌<◌, ◌≤◌, Bool, true, false, not, ◌&&◌, if◌then◌else◌, List, map, length, get_or, refl, subst, arith, inl, inr}
use Rattle.std.specs.Prelude.{AllPairs, Contains, filter, IsPermutation}
use Rattle.std.specs.List.{flat_map}
use Rattle.std.proofs.lemmas.Bool.Decides.{nat_tests}
use Rattle.std.proofs.lemmas.List.Elements.{All-contains, Contains-append_left, Contains-append_right, Contains-append_cases}
use Rattle.std.proofs.lemmas.List.Sorted.{IsPermutation-trans, Contains-permutation, IsPermutation-sym}
use Rattle.macho_records.specs.Sections.{is_zerofill}
use Rattle.macho_model.specs.declared.placed.Counts.{Counts}
use Rattle.macho_model.specs.declared.placed.PlacedSection.{PlacedSection}
use Rattle.macho_model.specs.declared.placed.Slot.{Slot}
use Rattle.macho_model.specs.declared.targets.Target.{Target}
use Rattle.macho_model.specs.declared.targets.Target.TheVariants as target
use Rattle.macho_model.specs.Links.{Link, header_at}
use Rattle.macho_model.specs.Needs.{imports_of}
use Rattle.macho_model.specs.Fields.{Field, fields_of}
use Rattle.macho_model.specs.Targets.{slots_of}
use Rattle.macho_model.specs.Values.{is_pointer, is_absolute_target, needs_fixup}
use Rattle.macho_model.specs.Stands.{is_template_offset}
use Rattle.macho_model.specs.Fixups.{has_room, import_entries_of}
use Rattle.macho_model.specs.Placement.{Placed, id_of, IsPlaced}
use Rattle.macho_model.specs.Spans.{slot_span}
use Rattle.macho_model.specs.steps.Parts.{SectionLies, LiesInNamed}
use Rattle.macho_model.specs.Segments.{DATA_CONST}
use Rattle.macho_fixups.specs.declared.run.Fixup.{Fixup}
use Rattle.macho_fixups.specs.declared.run.FixupSegment.{FixupSegment}
use Rattle.macho_fixups.specs.declared.words.FixupKind.TheVariants.{Bind}
use Rattle.macho_fixups.specs.Words.{FitsOrdinal}
use Rattle.macho_fixups.specs.Runs.{AreFixups, Holds}
use Rattle.macho_promise.specs.FixupsSay.{IsFixupOf, slot, pointer, kind_for, own_number, fixup_segments}
use Rattle.macho_promise.specs.steps.Segments.{fixup_segment}
use Rattle.macho_promise.specs.Asked.{slot_fixup, field_fixup, fixups_in, fixups_asked}
use Rattle.macho_linkedit.specs.Runs.{PointersFit, IsWordPlace}
use Rattle.macho_linkedit.specs.Laws.{SortedIsRun}
use Rattle.macho_linkedit.proofs.Pairs.{pairs_permuted}
use Rattle.macho_linkedit.proofs.Asked.{Beside, of_section, carried, words_apart}
use Rattle.macho_linkedit.proofs.Numbering.{field_below, slot_below, own_below, imports_first}
use Rattle.macho_model.proofs.Parts.{aligned_of, in_segment_of}
use Rattle.macho_fixups.specs.steps.Runs.{AreSorted}
use Rattle.macho_bytes.proofs.Bools.{and_left}
use Rattle.macho_bytes.proofs.Members.{contains_all, contains_map, map_contains, contains_filter, contains_flat_map, flat_map_contains}

-- the same fixups are asked for
pub asked_is : (l : Link) (p : Placed) (f : Fixup) → Contains (fixups_asked l p) f → IsFixupOf l p f
unfolding fixups_asked
asked_is l p f c =
    elim (Contains-append_cases (map (slot_fixup l p) p.slots) (flat_map (fixups_in l p) p.sections) f c) [
      | inl here ↦ let s = map_contains (slot_fixup l p) p.slots f here in subst (IsFixupOf l p) s.2 (slot s.0 s.1)
      | inr here ↦
          let q = flat_map_contains (fixups_in l p) p.sections f here in
          let x = of_section l p q.0 f q.2 in
          subst (IsFixupOf l p) x.3 (pointer q.0 x.0 q.1 x.1 x.2)
    ]

pub is_asked : (l : Link) (p : Placed) (f : Fixup) → IsFixupOf l p f → Contains (fixups_asked l p) f
unfolding fixups_asked fixups_in
is_asked l p _ (slot s c) =
    Contains-append_left (map (slot_fixup l p) p.slots) (flat_map (fixups_in l p) p.sections) (slot_fixup l p s)
    (contains_map (slot_fixup l p) p.slots s c)
is_asked l p _ (pointer q f c there needs) =
    Contains-append_right (map (slot_fixup l p) p.slots) (flat_map (fixups_in l p) p.sections) (field_fixup l p q f)
    (contains_flat_map (fixups_in l p) p.sections q (field_fixup l p q f) c
    (contains_map (field_fixup l p q) (filter (needs_fixup l (id_of q)) (fields_of l (id_of q))) f
    (contains_filter (needs_fixup l (id_of q)) (fields_of l (id_of q)) f there needs)))

-- in order, and apart: so one behind the other
sorted : (run : List Fixup) → AllPairs (λ x y. Beside x.address y.address) run → ((i j : ℕ) (d : Fixup) → i ≤ j → j < length run
    → (get_or run i d).address ≤ (get_or run j d).address) → AreSorted run
sorted run apart order i j d below within =
    let rise = order i j d (omega arith) within in
    elim (apart i j d below within) [ inl first ↦ first | inr second ↦ omega arith ]

-- Facts of each fixup that is asked for.
record IsGood (p : Placed) (f : Fixup) : Type 0 where
  place : IsWordPlace f.address
  held : (s : FixupSegment) × Contains (fixup_segments p) s × Holds s f.address
  ordinal : FitsOrdinal f.kind

-- the number of an entry
ordinal_of : (l : Link) (p : Placed) (t : Target) (addend : ℕ) → length (import_entries_of l) ≤ 2 ^ 24
    → ((id : ℕ) → t ≡ target.Import id → id < length (imports_of l))
    → ((id : ℕ) → t ≡ target.Import id → has_room addend ≡ false → own_number l id addend < length (import_entries_of l))
    → FitsOrdinal (kind_for l p t addend)
ordinal_of l p (target.Import id) addend few plain own = by (has_room addend) refl
  where
    by : (b : Bool) → has_room addend ≡ b → FitsOrdinal (if b then Bind id addend else Bind (own_number l id addend) 0)
    by true room = omega (arith, plain id refl, imports_first l)
    by false room = omega (arith, own id refl room)
ordinal_of l p (target.Section file section offset) addend few plain own = tt
ordinal_of l p (target.Common id) addend few plain own = tt
ordinal_of l p target.Base addend few plain own = tt
ordinal_of l p (target.Absolute value) addend few plain own = tt
ordinal_of l p target.None addend few plain own = tt

-- a multiple of 8 is a place for a word
even_place : (a : ℕ) → a % 8 ≡ 0 → IsWordPlace a
even_place a even = (omega arith, omega arith)

-- a section that has bytes, of which there are some in the file, lies in a segment's file part
pub in_file : (zeros : Bool) (size file memory : ℕ) → zeros ≡ false → 1 ≤ size →
    (if not zeros && not (size == 0) then file else memory) ≡ file
in_file zeros size file memory filled some = let none : (size == 0) ≡ false = grind (arith, nat_tests) in rw (filled, none) refl

-- a slot is good
slot_good : (l : Link) (counts : Counts) (p : Placed) (s : Slot) → IsPlaced l counts p → PointersFit l p → Contains p.slots s → IsGood p
    (slot_fixup l p s)
slot_good l counts p s placed fit c = record {
  place = even_place s.address even;
  held = (
    fixup_segment lies.0,
    contains_map fixup_segment p.segments lies.0 lies.1,
    (omega (arith, lies.3.from), omega (arith, lies.3.to)),
  );
  ordinal = ordinal_of l p s.target 0 fit.entries (λ id is. slot_below l id (among id is)) (λ id is room. absurd (small room));
}
  where
    even : s.address % 8 ≡ 0
    even = All-contains (λ t. t.address % 8 ≡ 0) p.slots s (aligned_of placed).slots c

    lies : LiesInNamed p DATA_CONST true (slot_span s)
    lies = All-contains (λ t. LiesInNamed p DATA_CONST true (slot_span t)) p.slots s (in_segment_of placed).slots c

    among : (id : ℕ) → s.target ≡ target.Import id → Contains (slots_of l) (target.Import id)
    among id is =
        subst (λ (ts : List Target). Contains ts (target.Import id)) placed.whole_list.slots
        (subst (λ (t : Target). Contains (map (λ t. t.target) p.slots) t) is (contains_map (λ t. t.target) p.slots s c))

    small : has_room 0 ≡ false → ⊥
    small room = cc

-- a pointer is good
pointer_good : (l : Link) (counts : Counts) (p : Placed) (q : PlacedSection) (f : Field) → IsPlaced l counts p → PointersFit l p
    → Contains p.sections q
    → Contains (fields_of l (id_of q)) f → needs_fixup l (id_of q) f ≡ true → IsGood p (field_fixup l p q f)
pointer_good l counts p q f placed fit c there needs = record {
  place = fit.places q f c there needs;
  held = (
    fixup_segment lies.0,
    contains_map fixup_segment p.segments lies.0 (q.segment, lies.1.0, lies.1.1),
    (omega (arith, lies.3.from), omega (arith, lies.3.to, part, inside.0)),
  );
  ordinal =
      ordinal_of l p f.target f.addend fit.entries (λ id is. field_below l (id_of q) f id (carried l counts p q placed c) there is)
      (λ id is room. own_below l (id_of q) f id (carried l counts p q placed c) there points is room);
}
  where
    inside : (f.offset + 8 ≤ (header_at l (id_of q)).size) × (is_zerofill (header_at l (id_of q)) ≡ false)
    inside = fit.inside (id_of q) f (carried l counts p q placed c) there needs

    lies : SectionLies l p q
    lies = All-contains (SectionLies l p) p.sections q (in_segment_of placed).sections c

    part : (if not (is_zerofill (header_at l (id_of q))) && not
        ((header_at l (id_of q)).size == 0) then lies.0.file_size else lies.0.size) ≡ lies.0.file_size
    part = in_file (is_zerofill (header_at l (id_of q))) (header_at l (id_of q)).size lies.0.file_size lies.0.size inside.1
        (omega (arith, inside.0))

    points : is_pointer f ≡ true
    points =
        and_left (is_pointer f) (not (is_absolute_target f.target))
        (and_left (is_pointer f && not (is_absolute_target f.target)) (not (is_template_offset l (id_of q) f)) needs)

good : (l : Link) (counts : Counts) (p : Placed) → IsPlaced l counts p → PointersFit l p → (f : Fixup) → IsFixupOf l p f → IsGood p f
good l counts p placed fit _ (slot s c) = slot_good l counts p s placed fit c
good l counts p placed fit _ (pointer q f c there needs) = pointer_good l counts p q f placed fit c there needs

-- so fixups of a placed link, one behind the other, are such as chains can hold
pub are_fixups : (l : Link) (counts : Counts) (p : Placed) (run : List Fixup) → IsPlaced l counts p → PointersFit l p → AreSorted run
    → ((f : Fixup) → Contains run f → IsFixupOf l p f) → AreFixups (fixup_segments p) run
are_fixups l counts p run placed fit order is = record {
  sorted = order;
  steps = contains_all (λ f. f.address % 4 ≡ 0) run (λ f c. (each f c).place.0);
  in_page = contains_all (λ f. f.address % 0x4000 + 8 ≤ 0x4000) run (λ f c. (each f c).place.1);
  in_segment = contains_all (λ f. (s : FixupSegment) × Contains (fixup_segments p) s × Holds s f.address) run (λ f c. (each f c).held);
  ordinals = contains_all (λ f. FitsOrdinal f.kind) run (λ f c. (each f c).ordinal);
}
  where
    each : (f : Fixup) → Contains run f → IsGood p f
    each f c = good l counts p placed fit f (is f c)

-- THE law.
pub sorted_is_run : SortedIsRun
sorted_is_run l counts p asked run placed fit moved sort =
    record {
      run =
          are_fixups l counts p run placed fit
          (sorted run (pairs_permuted (λ x y. Beside x.address y.address) (λ x y h. turn x.address y.address h)
          (fixups_asked l p) run same (words_apart l counts p placed fit)) sort.order)
          is;
      each = contains_all (IsFixupOf l p) run is;
      all = λ f of. Contains-permutation (fixups_asked l p) run f same (is_asked l p f of);
    }
  where
    same : IsPermutation (fixups_asked l p) run
    same = IsPermutation-trans (fixups_asked l p) asked run moved sort.same

    turn : (a b : ℕ) → Beside a b → Beside b a
    turn a b h = elim h [ inl first ↦ inr first | inr second ↦ inl second ]

    is : (f : Fixup) → Contains run f → IsFixupOf l p f
    is f c = asked_is l p f (Contains-permutation run (fixups_asked l p) f (IsPermutation-sym (fixups_asked l p) run same) c)
