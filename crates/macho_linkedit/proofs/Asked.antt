-- The words that a placed link asks for: where they stand.
--
-- Slots are parts of the placement, and so are sections; a pointer lies in its section. Parts share no address, and neither do
-- two pointers of one section: so all words are apart. Each lies in the segment of its part, in the file part since a slot
-- has bytes in the file and so has a section with pointers. A slot's address is a multiple of 8, so the slot is in one page.
use Rattle.std.proofs.Common.{◌≡◌, ℕ, ◌+◌, ◌≤◌, true, false, List, ◌∷◌, ◌++◌, map, subst, arith, inl, inr, ◌⊎◌}
use Rattle.std.specs.Prelude.{AllPairs, Contains, filter}
use Rattle.std.specs.List.{flat_map}
use Rattle.std.proofs.lemmas.List.Elements.{Contains-append_left}
use Rattle.std.proofs.lemmas.List.Sorted.{Contains-permutation}
use Rattle.macho_records.specs.Sections.{is_zerofill}
use Rattle.macho_model.specs.declared.placed.Counts.{Counts}
use Rattle.macho_model.specs.declared.placed.PlacedSection.{PlacedSection}
use Rattle.macho_model.specs.Links.{Link, header_at, carried_of}
use Rattle.macho_model.specs.Fields.{Field, fields_of}
use Rattle.macho_model.specs.Values.{needs_fixup}
use Rattle.macho_model.specs.Placement.{Placed, id_of, IsPlaced}
use Rattle.macho_model.specs.Zeros.{Span}
use Rattle.macho_model.specs.Spans.{spans_with, AreApart, section_span, common_span, slot_span, stub_span, head_span}
use Rattle.macho_fixups.specs.declared.run.Fixup.{Fixup}
use Rattle.macho_promise.specs.Asked.{slot_fixup, field_fixup, fixups_in, fixups_asked}
use Rattle.macho_linkedit.specs.Runs.{PointersFit, WordsApart, IsWordPlace}
use Rattle.macho_linkedit.proofs.Pairs.{pairs_weaker, pairs_append, pairs_flat_map}
use Rattle.macho_model.proofs.Parts.{apart_of, same_order}
use Rattle.macho_bytes.proofs.Pairs.{pairs_tail, pairs_front, pairs_back, pairs_cross, pairs_map, pairs_unmap}
use Rattle.macho_bytes.proofs.Members.{contains_later, contains_map, map_contains, filter_contains, flat_map_contains}

-- the parts up to the slots
abbrev before_slots : Link → Counts → Placed → List Span
before_slots l counts p = head_span counts p ∷ map (section_span l) p.sections ++ map (common_span l) p.commons

to_slots : (l : Link) (counts : Counts) (p : Placed) → AllPairs AreApart (spans_with l counts p p.sections)
    → AllPairs AreApart (before_slots l counts p ++ map slot_span p.slots)
unfolding spans_with
to_slots l counts p h =
    pairs_front AreApart (before_slots l counts p ++ map slot_span p.slots) (map stub_span p.stubs)
    (pairs_front AreApart (before_slots l counts p ++ map slot_span p.slots ++ map stub_span p.stubs) _ h)

to_sections : (l : Link) (counts : Counts) (p : Placed) → AllPairs AreApart (spans_with l counts p p.sections) → AllPairs AreApart
    (map (section_span l) p.sections)
to_sections l counts p h =
    pairs_tail AreApart (head_span counts p) (map (section_span l) p.sections)
    (pairs_front AreApart (head_span counts p ∷ map (section_span l) p.sections) (map (common_span l) p.commons)
    (pairs_front AreApart (before_slots l counts p) (map slot_span p.slots) (to_slots l counts p h)))

-- the addresses of two words are apart
abbrev pub Beside : ℕ → ℕ → Type 0
Beside a b = (a + 8 ≤ b) ⊎ (b + 8 ≤ a)

-- two words in two ranges that are apart are apart
words_of : (a b : Span) (x y : ℕ) → AreApart a b → a.start ≤ x → x + 8 ≤ a.start + a.size → b.start ≤ y → y + 8 ≤ b.start + b.size
    → Beside x y
words_of a b x y apart a_from a_to b_from b_to =
    elim apart [
      | inl none ↦ inl (omega arith)
      | inr more ↦ elim more [
        | inl none ↦ inl (omega arith)
        | inr two ↦ elim two [ inl first ↦ inl (omega arith) | inr second ↦ inr (omega arith) ]
      ]
    ]

-- a fixup of a section is that of a pointer in it
pub of_section : (l : Link) (p : Placed) (q : PlacedSection) (x : Fixup) → Contains (fixups_in l p q) x
    → (f : Field) × Contains (fields_of l (id_of q)) f × (needs_fixup l (id_of q) f ≡ true) × (field_fixup l p q f ≡ x)
unfolding fixups_in
of_section l p q x c =
    let z = map_contains (field_fixup l p q) (filter (needs_fixup l (id_of q)) (fields_of l (id_of q))) x c in
    let y = filter_contains (needs_fixup l (id_of q)) (fields_of l (id_of q)) z.0 z.1 in (z.0, y.0, y.1, z.2)

-- a placed section is carried
pub carried : (l : Link) (counts : Counts) (p : Placed) (q : PlacedSection) → IsPlaced l counts p → Contains p.sections q → Contains
    (carried_of l) (id_of q)
carried l counts p q placed c =
    Contains-permutation (map id_of p.sections) (carried_of l) (id_of q) (same_order placed.whole_list.sections)
    (contains_map id_of p.sections q c)

-- Facts of the pointer of a placed section.
record IsPointerAt (l : Link) (p : Placed) (q : PlacedSection) (a : ℕ) : Type 0 where
  low : q.address ≤ a
  high : a + 8 ≤ q.address + (header_at l (id_of q)).size
  filled : is_zerofill (header_at l (id_of q)) ≡ false
  place : IsWordPlace a

pointer_at : (l : Link) (counts : Counts) (p : Placed) (q : PlacedSection) (x : Fixup) → IsPlaced l counts p → PointersFit l p
    → Contains p.sections q
    → Contains (fixups_in l p q) x → IsPointerAt l p q x.address
pointer_at l counts p q x placed fit c there =
    let z = of_section l p q x there in
    let inside = fit.inside (id_of q) z.0 (carried l counts p q placed c) z.1 z.2 in
    subst (λ (y : Fixup). IsPointerAt l p q y.address) z.3 (record {
      low = omega arith;
      high = omega (arith, inside.0);
      filled = inside.1;
      place = fit.places q z.0 c z.1 z.2;
    })

-- the words of one section are apart
in_one : (l : Link) (counts : Counts) (p : Placed) (q : PlacedSection) → IsPlaced l counts p → PointersFit l p → Contains p.sections q
    → AllPairs (λ x y. Beside x.address y.address) (fixups_in l p q)
unfolding fixups_in
in_one l counts p q placed fit c =
    pairs_map (λ x y. Beside x.address y.address) (field_fixup l p q) (filter (needs_fixup l (id_of q)) (fields_of l (id_of q)))
    (pairs_weaker WordsApart (λ f g. Beside (q.address + f.offset) (q.address + g.offset))
    (filter (needs_fixup l (id_of q)) (fields_of l (id_of q)))
    (fit.apart (id_of q) (carried l counts p q placed c))
    (λ f g in_f in_g apart. elim apart [ inl first ↦ inl (omega arith) | inr second ↦ inr (omega arith) ]))

-- the range of a section is among the parts in front of the slots
section_among : (l : Link) (counts : Counts) (p : Placed) (q : PlacedSection) → Contains p.sections q → Contains (before_slots l counts p)
    (section_span l q)
section_among l counts p q c =
    Contains-append_left (head_span counts p ∷ map (section_span l) p.sections) (map (common_span l) p.commons) (section_span l q)
    (contains_later (head_span counts p) (map (section_span l) p.sections) (section_span l q)
    (contains_map (section_span l) p.sections q c))

-- ALL words are apart.
pub words_apart : (l : Link) (counts : Counts) (p : Placed) → IsPlaced l counts p → PointersFit l p
    → AllPairs (λ x y. Beside x.address y.address) (fixups_asked l p)
unfolding fixups_asked
words_apart l counts p placed fit =
    pairs_append (λ x y. Beside x.address y.address) (map (slot_fixup l p) p.slots)
    (flat_map (fixups_in l p) p.sections) slots sections cross
  where
    slots : AllPairs (λ x y. Beside x.address y.address) (map (slot_fixup l p) p.slots)
    slots =
        pairs_map (λ x y. Beside x.address y.address) (slot_fixup l p) p.slots
        (pairs_weaker (λ s t. AreApart (slot_span s) (slot_span t)) (λ s t. Beside s.address t.address) p.slots
        (pairs_unmap AreApart slot_span p.slots
        (pairs_back AreApart (before_slots l counts p) (map slot_span p.slots) (to_slots l counts p (apart_of placed))))
        (λ s t in_s in_t apart. words_of (slot_span s) (slot_span t) s.address t.address apart (omega arith) (omega arith) (omega arith)
        (omega arith)))

    sections : AllPairs (λ x y. Beside x.address y.address) (flat_map (fixups_in l p) p.sections)
    sections =
        pairs_flat_map (λ q r. AreApart (section_span l q) (section_span l r)) (λ x y. Beside x.address y.address)
        (fixups_in l p) p.sections
        (pairs_unmap AreApart (section_span l) p.sections (to_sections l counts p (apart_of placed)))
        (λ q c. in_one l counts p q placed fit c)
        (λ q r x y in_q in_r apart in_x in_y.
        let a = pointer_at l counts p q x placed fit in_q in_x in
        let b = pointer_at l counts p r y placed fit in_r in_y in
        words_of (section_span l q) (section_span l r) x.address y.address apart a.low a.high b.low b.high)

    cross : (x y : Fixup) → Contains (map (slot_fixup l p) p.slots) x → Contains (flat_map (fixups_in l p) p.sections) y
        → Beside x.address y.address
    cross x y in_x in_y =
        let s = map_contains (slot_fixup l p) p.slots x in_x in
        let q = flat_map_contains (fixups_in l p) p.sections y in_y in
        let b = pointer_at l counts p q.0 y placed fit q.1 q.2 in
        let both = pairs_cross AreApart (before_slots l counts p) (map slot_span p.slots) (section_span l q.0) (slot_span s.0)
        (to_slots l counts p (apart_of placed))
        (section_among l counts p q.0 q.1) (contains_map slot_span p.slots s.0 s.1) in
        let apart = words_of (section_span l q.0) (slot_span s.0) y.address s.0.address both b.low b.high (omega arith) (omega arith) in
        subst (λ (z : Fixup). Beside z.address y.address) s.2 (turn y.address s.0.address apart)
      where
        turn : (a b : ℕ) → Beside a b → Beside b a
        turn a b h = elim h [ inl first ↦ inr first | inr second ↦ inl second ]
