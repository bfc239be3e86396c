-- Stubs stand in front of their slots, and no slot so far behind that a stub's page reaches it from below.
--
-- A call that needs a stub needs a slot of the same import. Stubs lie in `__TEXT`, which begins at the base; slots lie in
-- `__DATA_CONST`, which begins at the base or above it, and has bytes, so it stands behind. Addresses are less than 2 ^ 64 less 4 GiB
-- above the base, which is a page's start.
use Rattle.std.proofs.Common.{◌≡◌, ℕ, ◌+◌, ◌%◌, ◌^◌, ◌<◌, ◌≤◌, ◌⊎◌, inl, inr, ◌==◌, Bool, true, false, List, Some, None, refl, sym, ap, subst, ◌∙◌, arith}
use Rattle.std.specs.Prelude.{Contains}
use Rattle.std.specs.List.{filter_map}
use Rattle.std.specs.Str.{bytes_eq}
use Rattle.std.proofs.lemmas.Bool.{true≢false, eqb-true}
use Rattle.macho_bytes.proofs.Members.{all_contains, contains_map, map_contains, contains_filter_map, filter_map_contains}
use Rattle.macho_bytes.specs.Numbers.{page}
use Rattle.macho_records.specs.Segments.{text_of}
use Rattle.macho_records.specs.declared.constants.TheConstants.{ARM64_RELOC_BRANCH26}
use Rattle.macho_model.specs.declared.placed.Counts.{Counts}
use Rattle.macho_model.specs.declared.placed.PlacedSegment.{PlacedSegment}
use Rattle.macho_model.specs.declared.placed.Slot.{Slot}
use Rattle.macho_model.specs.declared.placed.Stub.{Stub}
use Rattle.macho_model.specs.declared.targets.Target.{Target}
use Rattle.macho_model.specs.declared.targets.Target.TheVariants as target
use Rattle.macho_model.specs.Links.{Link}
use Rattle.macho_model.specs.Segments.{PAGEZERO, TEXT, DATA_CONST}
use Rattle.macho_model.specs.Needs.{relocation_in}
use Rattle.macho_model.specs.Uses.{Use, ByRelocation, ByInitializer, ByPersonality, ByName, uses_of, slot_of_use, stub_of_use, slot_of_relocation, stub_of_relocation}
use Rattle.macho_model.specs.Targets.{same_target, is_import, slots_of, stubs_of, target_of_relocation}
use Rattle.macho_model.specs.Placement.{Placed, IsPlaced, is_segment_named}
use Rattle.macho_model.specs.Spans.{slot_span, stub_span}
use Rattle.macho_model.specs.steps.Parts.{LiesInNamed}
use Rattle.macho_layout_laws.specs.Laws.{NonePasses}
use Rattle.macho_placed_laws.proofs.Above.{segment_above, named_differs}
use Rattle.macho_placed_laws.proofs.Backed.{StandsBefore, before_or_one}
use Rattle.macho_image_laws.proofs.Distinct.{in_distinct}
use Rattle.macho_fields.specs.Looks.{HasSlot}
use Rattle.macho_fields.proofs.Once.{placed_once}
use Rattle.macho_writing_laws.specs.Slots.{StubsStand}
use Rattle.macho_writing_laws.proofs.Segments.{base_is, segment_ends}
use Rattle.macho_writing_laws.proofs.Tables.{file_below}
use Rattle.macho_model.proofs.Uses.{slots_are, stubs_are}
use Rattle.macho_model.proofs.Parts.{aligned_of, in_order_of, in_segment_of}
use Rattle.macho_model.proofs.Distinct.{distinct_contains}
use Rattle.macho_model.proofs.SameTargets.{same_target_is}
use Rattle.macho_model.proofs.Sections.{one_named}

-- what needs a stub needs a slot
slot_too : (type : ℕ) (t u : Target) → stub_of_relocation type t ≡ Some u → slot_of_relocation type t ≡ Some u
slot_too type t u e = by (type == ARM64_RELOC_BRANCH26) (is_import t) refl refl
  where
    asked : Some t ≡ Some u → t ≡ u
    asked same = cc

    by : (x y : Bool) → (type == ARM64_RELOC_BRANCH26) ≡ x → is_import t ≡ y → slot_of_relocation type t ≡ Some u
    by true true a b =
        let same : t ≡ u = asked (rw (a, b) at e) in
        let branch : type ≡ ARM64_RELOC_BRANCH26 = eqb-true type ARM64_RELOC_BRANCH26 a in
        rw (branch, b) (ap (λ (v : Target). Some v) same)
    by true false a b = let no : None ≡ Some u = rw (a, b) at e in cc
    by false y a b = let no : None ≡ Some u = rw a at e in cc

use_too : (l : Link) (u : Use) (t : Target) → stub_of_use l u ≡ Some t → slot_of_use l u ≡ Some t
use_too l (ByRelocation s r) t e = slot_too (relocation_in l s r).r_type (target_of_relocation l s r) t e
use_too l (ByInitializer s r) t e = cc
use_too l (ByPersonality s r) t e = cc
use_too l (ByName name) t e = cc

slot_listed : (l : Link) (t : Target) → Contains (stubs_of l) t → Contains (slots_of l) t
slot_listed l t has =
    let made = filter_map_contains (stub_of_use l) (uses_of l) t (distinct_contains same_target (filter_map (stub_of_use l) (uses_of l)) t
    (subst (λ (ts : List Target). Contains ts t) (stubs_are l) has)) in
    subst (λ (ts : List Target). Contains ts t) (sym (slots_are l))
    (in_distinct same_target same_target_is (filter_map (slot_of_use l) (uses_of l)) t
    (contains_filter_map (slot_of_use l) (uses_of l) made.0 t made.1 (use_too l made.0 t made.2)))

stub_has_slot : (l : Link) (counts : Counts) (p : Placed) (s : Stub) → IsPlaced l counts p → Contains p.stubs s
    → HasSlot p (target.Import s.import)
stub_has_slot l counts p s placed has =
    let listed = subst (λ (ts : List Target). Contains ts (target.Import s.import)) placed.whole_list.stubs
    (contains_map (λ (x : Stub). target.Import x.import) p.stubs s has) in
    let made = map_contains (λ (x : Slot). x.target) p.slots (target.Import s.import)
    (subst (λ (ts : List Target). Contains ts (target.Import s.import)) (sym placed.whole_list.slots)
    (slot_listed l (target.Import s.import) listed)) in
    (made.0, made.1, made.2)

-- the segments of stubs and slots
stub_in : (l : Link) (counts : Counts) (p : Placed) (s : Stub) → IsPlaced l counts p → Contains p.stubs s
    → LiesInNamed p TEXT true (stub_span s)
stub_in l counts p s placed has = all_contains (λ x. LiesInNamed p TEXT true (stub_span x)) p.stubs s (in_segment_of placed).stubs has

slot_in : (l : Link) (counts : Counts) (p : Placed) (t : Slot) → IsPlaced l counts p → Contains p.slots t
    → LiesInNamed p DATA_CONST true (slot_span t)
slot_in l counts p t placed has = all_contains (λ x. LiesInNamed p DATA_CONST true (slot_span x)) p.slots t (in_segment_of placed).slots has

-- `__TEXT` begins at the base
text_at : (l : Link) (counts : Counts) (p : Placed) (s : PlacedSegment) → IsPlaced l counts p → Contains p.segments s
    → is_segment_named TEXT s ≡ true → s.address ≡ p.base
text_at l counts p s placed has named =
    let begins = placed.begins in
    ap (λ (u : PlacedSegment). u.address) (one_named l p.segments TEXT s begins.0 placed.follow has begins.1 named begins.2)
    ∙ begins.3 ∙ sym placed.base

stub_before : (l : Link) (counts : Counts) (p : Placed) (s : Stub) (t : Slot) → IsPlaced l counts p → Contains p.stubs s
    → Contains p.slots t
    → s.address < t.address
stub_before l counts p s t placed stub slot = by (before_or_one l p.segments a.0 b.0 placed.follow a.1 b.1)
  where
    a : LiesInNamed p TEXT true (stub_span s)
    a = stub_in l counts p s placed stub

    b : LiesInNamed p DATA_CONST true (slot_span t)
    b = slot_in l counts p t placed slot

    text : a.0.address ≡ p.base
    text = text_at l counts p a.0 placed a.1 a.2

    above : p.base ≤ b.0.address
    above = segment_above l p b.1.0 b.0 (in_order_of placed) placed.base (b.1.1, b.1.2) (named_differs DATA_CONST PAGEZERO b.0 b.2 refl)

    by : (a.0 ≡ b.0) ⊎ StandsBefore a.0 b.0 ⊎ StandsBefore b.0 a.0 → s.address < t.address
    by (inl same) =
        absurd (true≢false (sym b.2 ∙ ap (is_segment_named DATA_CONST) (sym same) ∙ named_differs TEXT DATA_CONST a.0 a.2 refl))
    by (inr (inl before)) =
        omega (arith, before.memory, a.3.to, b.3.from, file_below l counts p a.0 placed a.1)
    by (inr (inr behind)) =
        absurd (omega (arith, behind.memory, text, above, b.3.to, b.3.from, file_below l counts p b.0 placed b.1))

slot_near : (l : Link) (counts : Counts) (p : Placed) (s : Stub) (t : Slot) → IsPlaced l counts p → NonePasses l counts p
    → Contains p.stubs s → Contains p.slots t → t.address + 2 ^ 32 < 2 ^ 64 + page s.address
slot_near l counts p s t placed within stub slot =
    let a = stub_in l counts p s placed stub in
    let b = slot_in l counts p t placed slot in
    let text = text_at l counts p a.0 placed a.1 a.2 in
    let end = segment_ends l counts p b.0 placed within b.1 in
    let from : p.base ≤ s.address = omega (arith, text, a.3.from) in
    let low : t.address + 2 ^ 32 < 2 ^ 64 + p.base = omega (arith, end, b.3.to, file_below l counts p b.0 placed b.1) in
    elim (base_is l counts p placed) [
      | inl zero_base ↦ omega (arith, low, zero_base)
      | inr high ↦ let up : 2 ^ 32 ≤ s.address = omega (arith, from, high) in
          let start : 2 ^ 32 ≤ page s.address = omega (arith, up) in
          omega (arith, low, high, start)
    ]

pub stubs_stand : StubsStand
stubs_stand l counts p sound =
    let placed = sound.placed.placed in
    record {
      once = placed_once l counts p placed;
      slots = λ s has. stub_has_slot l counts p s placed has;
      aligned = λ t has. all_contains (λ (x : Slot). x.address % 8 ≡ 0) p.slots t (aligned_of placed).slots has;
      behind = λ s t stub slot. stub_before l counts p s t placed stub slot;
      low = λ s t stub slot. slot_near l counts p s t placed sound.within stub slot;
    }
