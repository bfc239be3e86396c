-- The header of an output section tells whether sections are merged into it, and by what.
--
-- A merged output section with bytes begins at no place of the linker's own, and what the linker makes does; stubs tell their size besides.
use Rattle.std.proofs.Common.{◌≡◌, ℕ, ◌<◌, ◌≤◌, ◌⊎◌, inl, inr, ◌==◌, ◌&&◌, ◌||◌, not, Bool, true, false, List, [], ◌∷◌, length, refl, sym, ap, subst, ◌∙◌, arith, Contains, eqb-true}
use Rattle.std.specs.Prelude.{nat_lt}
use Rattle.std.specs.Str.{bytes_eq}
use Rattle.std.proofs.lemmas.Bool.{and_parts, ltb-true, lt-ltb, eq-eqb, false_from_ne_true}
use Rattle.std.proofs.lemmas.Bool.Decides.{nat_tests}
use Rattle.std.proofs.lemmas.List.{length-map}
use Rattle.std.proofs.lemmas.Slice.Eq.{bytes_eq-Decides}
use Rattle.macho_bytes.specs.Texts.{name_of}
use Rattle.macho_records.specs.declared.header.SectionHeader.{SectionHeader}
use Rattle.macho_records.specs.Segments.{text_of}
use Rattle.macho_model.specs.declared.placed.Counts.{Counts}
use Rattle.macho_model.specs.declared.placed.Slot.{Slot}
use Rattle.macho_model.specs.declared.targets.Target.{Target}
use Rattle.macho_model.specs.Links.{Link}
use Rattle.macho_model.specs.Targets.{slots_of}
use Rattle.macho_model.specs.Segments.{TEXT, DATA_CONST, OutputKey, same_key, key_of, output_keys_of}
use Rattle.macho_model.specs.steps.Outputs.{OutputSection, Merged, InitOffsets, UnwindInfo, Stubs, Slots, output_sections_in, output_sections_of, output_header, is_merged}
use Rattle.macho_model.specs.Placement.{Placed}
use Rattle.macho_layout_laws.specs.Laws.{IsWhollyPlaced}
use Rattle.macho_bytes.proofs.Members.{all_contains}
use Rattle.macho_symbol_tables.specs.steps.Sections.{begins_at, fills, holds_slots, is_made, is_of}
use Rattle.macho_symbol_tables.proofs.Outputs.{Fact, facts_in}
use Rattle.macho_symbol_tables.proofs.MadeSections.{IsOutput, output_of, not_both, key_whole, key_told, Begins, init_begins, unwind_begins, slots_begin, init_there, unwind_there, slots_there, slots_placed}
use Rattle.macho_bytes.proofs.Bools.{and_both}
use Rattle.macho_model.proofs.Sections.{name_in_field}

-- THE test of a merged section's header: no part of the linker's own begins there with bytes.
merged_not_made : (l : Link) (counts : Counts) (p : Placed) (key : OutputKey) → IsWhollyPlaced l counts p
    → Contains (output_sections_of l counts) (Merged key)
    → is_made p (output_header l p (Merged key)) ≡ false
merged_not_made l counts p key placed there =
    none (fills h p.init_offsets) (fills h p.unwind) (holds_slots h p.slots) init unwind (slots p.slots refl)
  where
    h : SectionHeader
    h = output_header l p (Merged key)

    o : IsOutput l counts p (Merged key)
    o = output_of l counts p (Merged key) placed there

    name : List ℕ
    name = text_of o.segment.name

    fact : Contains (output_keys_of l) key × (key.segment ≡ name)
    fact = all_contains (Fact l counts name) (output_sections_in l counts name) (Merged key) (facts_in l counts name) o.there

    none : (a b c : Bool) → a ≡ false → b ≡ false → c ≡ false → (a || b || c) ≡ false
    none a b c e f g = rw (e, f, g) refl

    -- a part of a segment that begins at an address can't begin where this one does
    clash : (n : List ℕ) (m : OutputSection) (address : ℕ) → (Merged key ≡ m → ⊥) → Contains (output_sections_in l counts n) m
        → Begins l p m address
        → begins_at h n address ≡ true → ⊥
    clash n m address differ in_n begins is =
        let both = and_parts (bytes_eq (name_of h.segname) n && (h.addr == address)) (not (h.size == 0)) is in
        let front = and_parts (bytes_eq (name_of h.segname) n) (h.addr == address) both.0 in
        let segment : name ≡ n =
        sym fact.1 ∙ sym (key_whole l key fact.0).segment ∙ sym (name_in_field key.segment)
        ∙ (bytes_eq-Decides (name_of h.segname) n).0 front.0 in
        let some : 1 ≤ h.size = positive h.size both.1 in
        not_both l counts p o.segment (Merged key) m placed o.placed o.there
        (subst (λ (k : List ℕ). Contains (output_sections_in l counts k) m) (sym segment) in_n) differ
        (eqb-true h.addr address front.1 ∙ sym begins.at) some begins.some
      where
        positive : (k : ℕ) → not (k == 0) ≡ true → 1 ≤ k
        positive k e = grind (arith, nat_tests)

    init : fills h p.init_offsets ≡ false
    init = false_from_ne_true (fills h p.init_offsets) (λ is.
        let both = and_parts (nat_lt p.init_offsets.start p.init_offsets.end) (begins_at h TEXT p.init_offsets.start) is in
        let some : 1 ≤ counts.initializers =
        omega (arith, ltb-true p.init_offsets.start p.init_offsets.end both.0, placed.least.rooms.initializers) in
        clash TEXT InitOffsets p.init_offsets.start (λ e. cc) (init_there l counts some) (init_begins l counts p placed some) both.1)

    unwind : fills h p.unwind ≡ false
    unwind = false_from_ne_true (fills h p.unwind) (λ is.
        let both = and_parts (nat_lt p.unwind.start p.unwind.end) (begins_at h TEXT p.unwind.start) is in
        let full = ltb-true p.unwind.start p.unwind.end both.0 in
        clash TEXT UnwindInfo p.unwind.start (λ e. cc) (unwind_there l counts (omega (arith, full, placed.least.rooms.unwind)))
        (unwind_begins l counts p placed full) both.1)

    some_slots : (s : Slot) (rest : List Slot) → p.slots ≡ s ∷ rest → 1 ≤ length (slots_of l)
    some_slots s rest are =
        omega (
          arith,
          ap (λ (ts : List Target). length ts) placed.placed.whole_list.slots,
          length-map p.slots (λ (t : Slot). t.target),
          ap (λ (xs : List Slot). length xs) are,
        )

    slots : (ss : List Slot) → p.slots ≡ ss → holds_slots h ss ≡ false
    slots [] are = refl
    slots (s ∷ rest) are = false_from_ne_true (begins_at h DATA_CONST s.address) (λ is.
        clash DATA_CONST Slots s.address (λ e. cc) (slots_there l counts (some_slots s rest are))
        (slots_begin l counts p s rest placed are (slots_placed l counts (some_slots s rest are))) is)

-- The header of what the linker makes shows it.
first_of : (a b c : Bool) → a ≡ true → (a || b || c) ≡ true
first_of a b c e = rw e refl

second_of : (a b c : Bool) → b ≡ true → (a || b || c) ≡ true
second_of true b c e = refl
second_of false b c e = rw e refl

third_of : (a b c : Bool) → c ≡ true → (a || b || c) ≡ true
third_of true b c e = refl
third_of false true c e = refl
third_of false false c e = e

begun : (l : Link) (p : Placed) (m : OutputSection) (n : List ℕ) (address : ℕ) → Begins l p m address
    → bytes_eq (name_of (output_header l p m).segname) n ≡ true
    → begins_at (output_header l p m) n address ≡ true
begun l p m n address begins named =
    all_three (bytes_eq (name_of (output_header l p m).segname) n) ((output_header l p m).addr == address)
    (not ((output_header l p m).size == 0))
    named (eq-eqb (output_header l p m).addr address begins.at) (full (output_header l p m).size begins.some)
  where
    all_three : (a b c : Bool) → a ≡ true → b ≡ true → c ≡ true → (a && b && c) ≡ true
    all_three a b c e f g = rw (e, f, g) refl

    full : (k : ℕ) → 1 ≤ k → not (k == 0) ≡ true
    full k one = grind (arith, nat_tests)

made_is : (l : Link) (counts : Counts) (p : Placed) (o : OutputSection) → IsWhollyPlaced l counts p
    → Contains (output_sections_of l counts) o
    → (o ≡ InitOffsets) ⊎ ((o ≡ UnwindInfo) ⊎ (o ≡ Slots))
    → is_made p (output_header l p o) ≡ true
made_is l counts p o placed there (inl is) =
    subst (λ (m : OutputSection). is_made p (output_header l p m) ≡ true) (sym is)
    (first_of (fills (output_header l p InitOffsets) p.init_offsets) _ _ (and_both _ _
    (lt-ltb p.init_offsets.start p.init_offsets.end (omega (arith, some, placed.least.rooms.initializers)))
    (begun l p InitOffsets TEXT p.init_offsets.start (init_begins l counts p placed some) refl)))
  where
    place : IsOutput l counts p o
    place = output_of l counts p o placed there

    some : 1 ≤ counts.initializers
    some =
        subst (Fact l counts (text_of place.segment.name)) is
        (all_contains (Fact l counts (text_of place.segment.name)) (output_sections_in l counts (text_of place.segment.name)) o
        (facts_in l counts (text_of place.segment.name)) place.there)
made_is l counts p o placed there (inr (inl is)) =
    subst (λ (m : OutputSection). is_made p (output_header l p m) ≡ true) (sym is)
    (second_of _ (fills (output_header l p UnwindInfo) p.unwind) _ (and_both _ _ (lt-ltb p.unwind.start p.unwind.end full)
    (begun l p UnwindInfo TEXT p.unwind.start (unwind_begins l counts p placed full) refl)))
  where
    place : IsOutput l counts p o
    place = output_of l counts p o placed there

    some : 1 ≤ counts.unwind
    some =
        subst (Fact l counts (text_of place.segment.name)) is
        (all_contains (Fact l counts (text_of place.segment.name)) (output_sections_in l counts (text_of place.segment.name)) o
        (facts_in l counts (text_of place.segment.name)) place.there)

    full : p.unwind.start < p.unwind.end
    full = omega (arith, some, placed.least.rooms.unwind)
made_is l counts p o placed there (inr (inr is)) =
    subst (λ (m : OutputSection). is_made p (output_header l p m) ≡ true) (sym is)
    (third_of (fills (output_header l p Slots) p.init_offsets) (fills (output_header l p Slots) p.unwind)
    (holds_slots (output_header l p Slots) p.slots) (by p.slots refl))
  where
    place : IsOutput l counts p o
    place = output_of l counts p o placed there

    some : 1 ≤ length (slots_of l)
    some =
        subst (Fact l counts (text_of place.segment.name)) is
        (all_contains (Fact l counts (text_of place.segment.name)) (output_sections_in l counts (text_of place.segment.name)) o
        (facts_in l counts (text_of place.segment.name)) place.there)

    by : (ss : List Slot) → p.slots ≡ ss → holds_slots (output_header l p Slots) ss ≡ true
    by [] are =
        absurd (omega (
          arith,
          some,
          ap (λ (ts : List Target). length ts) placed.placed.whole_list.slots,
          length-map p.slots (λ (t : Slot). t.target),
          ap (λ (xs : List Slot). length xs) are,
        ))
    by (s ∷ rest) are =
        begun l p Slots DATA_CONST s.address
        (slots_begin l counts p s rest placed are (subst (λ (m : OutputSection). Contains (output_sections_of l counts) m) is there)) refl

made_agrees : (p : Placed) (key : OutputKey) (h : SectionHeader) → is_made p h ≡ true → is_of p key h ≡ false
made_agrees p key h made = by (same_key key (key_of h)) (is_made p h) made
  where
    by : (a b : Bool) → b ≡ true → (a && not b) ≡ false
    by true b e = rw e refl
    by false b e = refl

-- THE header of an output section is one that a key's sections are merged into where the output section is.
pub header_agrees : (l : Link) (counts : Counts) (p : Placed) (key : OutputKey) → IsWhollyPlaced l counts p
    → (o : OutputSection) → Contains (output_sections_of l counts) o → is_of p key (output_header l p o) ≡ is_merged key o
header_agrees l counts p key placed (Merged other) there =
    let o = output_of l counts p (Merged other) placed there in
    let fact = all_contains (Fact l counts (text_of o.segment.name)) (output_sections_in l counts (text_of o.segment.name)) (Merged other)
    (facts_in l counts (text_of o.segment.name)) o.there in
    ap (λ (k : OutputKey). same_key key k && not (is_made p (output_header l p (Merged other)))) (key_told l p other fact.0)
    ∙ ap (λ (b : Bool). same_key key other && not b) (merged_not_made l counts p other placed there)
    ∙ whole (same_key key other)
  where
    whole : (b : Bool) → (b && true) ≡ b
    whole true = refl
    whole false = refl
header_agrees l counts p key placed InitOffsets there =
    made_agrees p key (output_header l p InitOffsets) (made_is l counts p InitOffsets placed there (inl refl))
header_agrees l counts p key placed UnwindInfo there =
    made_agrees p key (output_header l p UnwindInfo) (made_is l counts p UnwindInfo placed there (inr (inl refl)))
header_agrees l counts p key placed Stubs there = made_agrees p key (output_header l p Stubs) refl
header_agrees l counts p key placed Slots there =
    made_agrees p key (output_header l p Slots) (made_is l counts p Slots placed there (inr (inr refl)))
