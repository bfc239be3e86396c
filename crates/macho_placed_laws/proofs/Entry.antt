-- An executable begins at its entry.
--
-- The entry's name is defined in a carried section, so it has one address, which is not below the base. The file tells its
-- distance from the base;
-- the file's own `__TEXT` begins at the base, since it is the placement's. So the two together are the address, at every slide.
use Rattle.std.proofs.Common.{◌≡◌, ℕ, ◌+◌, ◌-◌, ◌<◌, ◌≤◌, ◌||◌, not, Bool, true, false, List, [], ◌∷◌, map, get_or, refl, sym, ap, subst, ◌∙◌, arith}
use Rattle.std.specs.Prelude.{Contains, filter, drop}
use Rattle.std.specs.Str.{bytes_eq}
use Rattle.std.proofs.lemmas.Slice.Eq.{bytes_eq-Decides}
use Rattle.macho_bytes.proofs.Members.{contains_filter, filter_contains, contains_first, nil_contains}
use Rattle.macho_records.specs.Segments.{text_of}
use Rattle.macho_records.specs.declared.header.SegmentCommand.{SegmentCommand}
use Rattle.macho_model.specs.declared.placed.Counts.{Counts}
use Rattle.macho_model.specs.declared.placed.PlacedSegment.{PlacedSegment}
use Rattle.macho_model.specs.declared.targets.Target.{Target}
use Rattle.macho_model.specs.declared.targets.Target.TheVariants as target
use Rattle.macho_model.specs.Links.{Link}
use Rattle.macho_model.specs.Segments.{TEXT, segment_rank, list_if, base_of_link}
use Rattle.macho_model.specs.Placement.{Placed, IsPlaced, is_segment_named, Follows}
use Rattle.macho_model.specs.Spans.{IsInOrder}
use Rattle.macho_model.specs.Images.{segments_of, is_named, base_of, entries_of_file}
use Rattle.macho_model.specs.Needs.{imports_of}
use Rattle.macho_model.specs.Targets.{target_of_name, is_defined}
use Rattle.macho_model.specs.Consumed.{is_section_target}
use Rattle.macho_model.specs.Memory.{Choice}
use Rattle.macho_model.specs.Stands.{IsAt}
use Rattle.macho_model.specs.Faults.{entry_is_defined}
use Rattle.macho_model.specs.Agreement.{SegmentsAgree, EntryAgrees}
use Rattle.macho_model.specs.Addresses.{address_of}
use Rattle.macho_model.specs.Lists.{of_first, EachNext}
use Rattle.macho_placed_laws.specs.Targets.{ListsAll, IsOfLink}
use Rattle.macho_model.specs.Grammar.{ObjectsAreRead}
use Rattle.macho_placed_laws.proofs.Named.{name_of_link}
use Rattle.macho_placed_laws.proofs.Places.{places_are_had}
use Rattle.macho_placed_laws.proofs.Above.{targets_above}
use Rattle.macho_model.specs.steps.Agreement.{SegmentPlace, place_by_command, place_told}
use Rattle.macho_bytes.proofs.Orders.{one_element}
use Rattle.macho_model.proofs.Sections.{ranks_rise}

-- the first segment of a name is told alike by the file and by the placement
abbrev start_of_first : List PlacedSegment → ℕ
start_of_first [] = 0
start_of_first (s ∷ segments) = s.address

first_alike : (cs : List SegmentCommand) (segments : List PlacedSegment) → map place_by_command cs ≡ map place_told segments
    → of_first 0 (λ (s : SegmentCommand). s.vmaddr) (filter (is_named TEXT) cs) ≡ start_of_first (filter (is_segment_named TEXT) segments)
first_alike [] [] e = refl
first_alike [] (s ∷ segments) e = cc
first_alike (c ∷ cs) [] e = cc
first_alike (c ∷ cs) (s ∷ segments) e = by (first_alike cs segments (ap (drop 1) e)) (is_segment_named TEXT s) refl
  where
    one : place_by_command c ≡ place_told s
    one = ap (λ (ps : List SegmentPlace). get_or ps 0 (place_told s)) e

    test : is_named TEXT c ≡ is_segment_named TEXT s
    test = ap (λ (q : SegmentPlace). bytes_eq q.0 TEXT) one

    by : of_first 0 (λ (s : SegmentCommand). s.vmaddr) (filter (is_named TEXT) cs)
        ≡ start_of_first (filter (is_segment_named TEXT) segments) → (x : Bool)
        → is_segment_named TEXT s ≡ x
        → of_first 0 (λ (s : SegmentCommand). s.vmaddr) (filter (is_named TEXT) (c ∷ cs))
        ≡ start_of_first (filter (is_segment_named TEXT) (s ∷ segments))
    by rest true is = rw (test, is) (ap (λ (q : SegmentPlace). q.1) one)
    by rest false is = rw (test, is) rest

-- the first one of the name stands where any of the name stands
pub first_is : (l : Link) (segments : List PlacedSegment) (s : PlacedSegment) → EachNext (Follows l) segments → Contains segments s
    → is_segment_named TEXT s ≡ true
    → start_of_first (filter (is_segment_named TEXT) segments) ≡ s.address
first_is l segments s follow has named = by (filter (is_segment_named TEXT) segments) refl
  where
    there : Contains (filter (is_segment_named TEXT) segments) s
    there = contains_filter (is_segment_named TEXT) segments s has named

    by : (found : List PlacedSegment) → filter (is_segment_named TEXT) segments ≡ found → start_of_first found ≡ s.address
    by [] e = absurd (nil_contains s (subst (λ (ss : List PlacedSegment). Contains ss s) e there))
    by (t ∷ found) e =
        let of = filter_contains (is_segment_named TEXT) segments t
        (subst (λ (ss : List PlacedSegment). Contains ss t) (sym e) (contains_first t found)) in
        let same : text_of t.name ≡ text_of s.name =
        (bytes_eq-Decides (text_of t.name) TEXT).0 of.1 ∙ sym ((bytes_eq-Decides (text_of s.name) TEXT).0 named) in
        ap (λ (u : PlacedSegment). u.address)
        (one_element (λ n m. segment_rank l n < segment_rank l m) (λ (u : PlacedSegment). text_of u.name) segments
        (λ n m e lt. omega (arith, ap (segment_rank l) e, lt)) (ranks_rise l segments follow) t s of.0 has same)

-- THE base of the file is the placement's
pub file_base : (l : Link) (b : List ℕ) (p : Placed) → IsInOrder l p → p.base ≡ base_of_link l → SegmentsAgree b p → base_of b ≡ p.base
unfolding base_of
file_base l b p order base agree =
    first_alike (segments_of b) p.segments agree ∙ first_is l p.segments order.begins.0 order.follow order.begins.1 order.begins.2
    ∙ order.begins.3 ∙ sym base

-- where it is at a slide
entry_there : (l : Link) (p : Placed) (t : Target) (base offset : ℕ) → ListsAll l p → IsOfLink l t → p.base ≤ address_of p t → base ≡ p.base
    → offset ≡ address_of p t - p.base → (s : ℕ) (choice : Choice) → IsAt l p s choice t (base + offset + s)
entry_there l p t base offset lists of above same is s choice =
    let x : address_of p t + s ≡ base + offset + s = omega (arith, above, same, is) in
    subst (λ (n : ℕ). IsAt l p s choice t n) x (places_are_had l p s choice t lists of)

-- THE entry
pub entry_agrees : (l : Link) (counts : Counts) (b : List ℕ) (p : Placed) → ObjectsAreRead l → IsPlaced l counts p → ListsAll l p
    → entry_is_defined l ≡ true
    → base_of b ≡ p.base → entries_of_file b ≡ list_if l.executable ((address_of p (target_of_name l l.entry) - p.base) ∷ [])
    → EntryAgrees l b p
entry_agrees l counts b p read placed lists defined base entries = record {
  executable = λ e.
      let t : Target = target_of_name l l.entry in
      let section : is_section_target t ≡ true = then_holds l.executable (is_section_target t) defined e in
      let of : IsOfLink l t = name_of_link l (imports_of l) l.entry read (section_moves t section) in
      let one : entries_of_file b ≡ (address_of p t - p.base) ∷ [] =
      entries ∙ ap (λ (x : Bool). list_if x ((address_of p t - p.base) ∷ [])) e in (
        address_of p t - p.base,
        one,
        entry_there l p t (base_of b) (address_of p t - p.base) lists of (targets_above l counts p t placed lists of) base refl,
      );
  library = λ e. entries ∙ ap (λ (x : Bool). list_if x ((address_of p (target_of_name l l.entry) - p.base) ∷ [])) e;
}
  where
    then_holds : (a b : Bool) → (not a || b) ≡ true → a ≡ true → b ≡ true
    then_holds true b e is = e
    then_holds false b e is = cc

    section_moves : (t : Target) → is_section_target t ≡ true → is_defined t ≡ true
    section_moves (target.Section file section offset) e = refl
    section_moves (target.Common id) e = cc
    section_moves (target.Import id) e = cc
    section_moves target.Base e = cc
    section_moves (target.Absolute value) e = cc
    section_moves target.None e = cc
