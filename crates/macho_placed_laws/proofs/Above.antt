-- What is of a link stands at the base or above it.
--
-- Segments stand one behind the other, and `__TEXT` begins at the base: a segment behind it begins there or above. The only
-- segment in front of it
-- is `__PAGEZERO`, which no carried section is in. Sections and commons stand in segments that are not in front of `__TEXT`.
use Rattle.std.proofs.Common.{◌≡◌, ℕ, zero, suc, ◌+◌, ◌-◌, ◌<◌, ◌≤◌, nat_lt, Bool, true, false, List, length, get_or, refl, sym, ap, subst, ◌∙◌, arith}
use Rattle.std.specs.Prelude.{Contains}
use Rattle.std.proofs.lemmas.Bool.{ltb-true}
use Rattle.std.proofs.lemmas.Bool.Decides.{nat_tests}
use Rattle.std.specs.Str.{bytes_eq}
use Rattle.std.proofs.lemmas.List.{get_or_default}
use Rattle.std.proofs.lemmas.Slice.Eq.{bytes_eq-Decides}
use Rattle.macho_records.specs.Segments.{text_of}
use Rattle.macho_model.specs.declared.placed.Counts.{Counts}
use Rattle.macho_model.specs.declared.placed.PlacedSegment.{PlacedSegment}
use Rattle.macho_model.specs.Lists.{IsNumber, EachNext}
use Rattle.macho_records.specs.Sections.{segment_name_of}
use Rattle.macho_model.specs.declared.placed.PlacedSection.{PlacedSection}
use Rattle.macho_model.specs.declared.placed.PlacedCommon.{PlacedCommon}
use Rattle.macho_model.specs.declared.targets.Target.TheVariants as target
use Rattle.macho_model.proofs.Carried.{segment_of_carried}
use Rattle.macho_bytes.proofs.Members.{filter_contains, all_contains}
use Rattle.macho_placed_laws.specs.Targets.{TargetsStandAbove}
use Rattle.macho_placed_laws.proofs.Places.{section_place, common_place}
use Rattle.macho_model.specs.Links.{Link, SectionId, section_id, header_at, is_carried, sections_of, carried_of}
use Rattle.macho_model.specs.Segments.{PAGEZERO, TEXT, DATA, base_of_link, segment_rank}
use Rattle.macho_model.specs.Placement.{Placed, IsPlaced, Follows, is_segment_named, id_of}
use Rattle.macho_model.specs.Spans.{IsInOrder, common_span}
use Rattle.macho_model.specs.steps.Parts.{SectionLies, LiesInNamed}
use Rattle.macho_model.proofs.Parts.{in_order_of, in_segment_of}

-- neighbours by their numbers
pub next_follows : (l : Link) (segments : List PlacedSegment) (d : PlacedSegment) → EachNext (Follows l) segments → (k : ℕ)
    → k + 1 < length segments
    → Follows l (get_or segments k d) (get_or segments (k + 1) d)
next_follows l segments d follow k lt =
    let one : PlacedSegment = get_or segments k d in
    let two : PlacedSegment = get_or segments (k + 1) d in
    let here : k < length segments = omega (arith, lt) in
    follow k one two (here, sym (get_or_default segments k d one here)) (lt, sym (get_or_default segments (k + 1) d two lt))

-- a segment behind another one begins at its start or above, and has the greater rank
behind : (l : Link) (segments : List PlacedSegment) (d : PlacedSegment) → EachNext (Follows l) segments → (i n j : ℕ) → j ≡ i + n
    → j < length segments
    → (get_or segments i d).address ≤ (get_or segments j d).address
behind l segments d follow i zero j is lt =
    omega (arith, ap (λ (k : ℕ). (get_or segments k d).address) is, ap (λ (k : ℕ). (get_or segments k d).address) (nothing i))
  where
    nothing : (k : ℕ) → k + 0 ≡ k
    nothing k = omega arith
behind l segments d follow i (suc n) j is lt =
    let before = behind l segments d follow i n (i + n) refl (omega (arith, is, lt)) in
    let step = next_follows l segments d follow (i + n) (omega (arith, is, lt)) in
    let number : i + n + 1 ≡ j = omega (arith, is) in
    omega (arith, before, step.address, ap (λ (k : ℕ). (get_or segments k d).address) number)

pub rises : (l : Link) (segments : List PlacedSegment) (d : PlacedSegment) → EachNext (Follows l) segments → (i n j : ℕ) → j ≡ i + n + 1
    → j < length segments
    → segment_rank l (text_of (get_or segments i d).name) < segment_rank l (text_of (get_or segments j d).name)
rises l segments d follow i zero j is lt =
    let number : i + 1 ≡ j = omega (arith, is) in
    let step = next_follows l segments d follow i (omega (arith, is, lt)) in
    omega (arith, step.rank, ap (λ (k : ℕ). segment_rank l (text_of (get_or segments k d).name)) number)
rises l segments d follow i (suc n) j is lt =
    let before = rises l segments d follow i n (i + n + 1) refl (omega (arith, is, lt)) in
    let step = next_follows l segments d follow (i + n + 1) (omega (arith, is, lt)) in
    let number : i + n + 1 + 1 ≡ j = omega (arith, is) in
    omega (arith, before, step.rank, ap (λ (k : ℕ). segment_rank l (text_of (get_or segments k d).name)) number)

-- only `__PAGEZERO` has the least rank
pub positive : (l : Link) (name : List ℕ) → bytes_eq name PAGEZERO ≡ false → 1 ≤ segment_rank l name
unfolding segment_rank
positive l name other = rw other (omega arith)

pub text_rank : (l : Link) (s : PlacedSegment) → is_segment_named TEXT s ≡ true → segment_rank l (text_of s.name) ≡ 1
unfolding segment_rank
text_rank l s named = ap (segment_rank l) ((bytes_eq-Decides (text_of s.name) TEXT).0 named)

-- THE segments but `__PAGEZERO` begin at the base or above
pub segment_above : (l : Link) (p : Placed) (k : ℕ) (t : PlacedSegment) → IsInOrder l p → p.base ≡ base_of_link l → IsNumber p.segments k t
    → bytes_eq (text_of t.name) PAGEZERO ≡ false → p.base ≤ t.address
segment_above l p k t order base number other = by (nat_lt k at) refl
  where
    first : PlacedSegment
    first = order.begins.0

    at : ℕ
    at = order.begins.1.0

    there : get_or p.segments at first ≡ first
    there = order.begins.1.2

    here : get_or p.segments k first ≡ t
    here = get_or_default p.segments k first t number.0 ∙ number.1

    begins : first.address ≡ p.base
    begins = order.begins.3 ∙ sym base

    by : (x : Bool) → nat_lt k at ≡ x → p.base ≤ t.address
    by true less =
        let lt : k < at = ltb-true k at less in
        let up = rises l p.segments first order.follow k (at - k - 1) at (omega (arith, lt)) order.begins.1.1 in
        let one : segment_rank l (text_of (get_or p.segments at first).name) ≡ 1 =
        ap (λ (s : PlacedSegment). segment_rank l (text_of s.name)) there ∙ text_rank l first order.begins.2 in
        let low : 1 ≤ segment_rank l (text_of (get_or p.segments k first).name) =
        subst (λ (s : PlacedSegment). 1 ≤ segment_rank l (text_of s.name)) (sym here) (positive l (text_of t.name) other) in
        absurd (omega (arith, up, one, low))
    by false less =
        let ge : at ≤ k = grind (arith, nat_tests) in
        let up = behind l p.segments first order.follow at (k - at) k (omega (arith, ge)) number.0 in
        omega (arith, up, begins, ap (λ (s : PlacedSegment). s.address) there, ap (λ (s : PlacedSegment). s.address) here)

-- a carried section is in another segment
carried_elsewhere : (l : Link) (s : SectionId) → Contains (carried_of l) s → bytes_eq (segment_name_of (header_at l s)) PAGEZERO ≡ false
unfolding carried_of
carried_elsewhere l s has =
    (segment_of_carried (header_at l s) (filter_contains (λ (t : SectionId). is_carried (header_at l t)) (sections_of l) s has).1).0

pub named_differs : (name other : List ℕ) (s : PlacedSegment) → is_segment_named name s ≡ true → bytes_eq name other ≡ false
    → bytes_eq (text_of s.name) other ≡ false
named_differs name other s named e = ap (λ (n : List ℕ). bytes_eq n other) ((bytes_eq-Decides (text_of s.name) name).0 named) ∙ e

section_above : (l : Link) (counts : Counts) (p : Placed) (q : PlacedSection) → IsPlaced l counts p → Contains p.sections q
    → Contains (carried_of l) (id_of q)
    → p.base ≤ q.address
section_above l counts p q placed has carried =
    let lies : SectionLies l p q = all_contains (SectionLies l p) p.sections q (in_segment_of placed).sections has in
    let up = segment_above l p q.segment lies.0 (in_order_of placed) placed.base lies.1
    (named_differs (segment_name_of (header_at l (id_of q))) PAGEZERO lies.0 lies.2 (carried_elsewhere l (id_of q) carried)) in
    omega (arith, up, lies.3.from)

common_above : (l : Link) (counts : Counts) (p : Placed) (c : PlacedCommon) → IsPlaced l counts p → Contains p.commons c
    → p.base ≤ c.address
common_above l counts p c placed has =
    let lies : LiesInNamed p DATA false (common_span l c) =
    all_contains (λ d. LiesInNamed p DATA false (common_span l d)) p.commons c (in_segment_of placed).commons has in
    let s : PlacedSegment = lies.0 in
    let number : IsNumber p.segments lies.1.0 s = (lies.1.1, lies.1.2) in
    let up = segment_above l p lies.1.0 s (in_order_of placed) placed.base number (named_differs DATA PAGEZERO s lies.2 refl) in
    omega (arith, up, lies.3.from)

-- THE targets stand above the base
pub targets_above : TargetsStandAbove
targets_above l counts p (target.Section file section offset) placed lists of =
    let q = section_place l p file section lists of in
    let same : id_of q.0 ≡ section_id file section = ap (λ (f : ℕ). section_id f q.0.section) q.2 ∙ ap (section_id file) q.3 in
    let up = section_above l counts p q.0 placed q.1 (subst (Contains (carried_of l)) (sym same) of) in
    omega (arith, up, q.4)
targets_above l counts p (target.Common id) placed lists of =
    let c = common_place l p id lists of in
    omega (arith, common_above l counts p c.0 placed c.1, c.3)
targets_above l counts p (target.Import id) placed lists of = absurd of
targets_above l counts p target.Base placed lists of = omega arith
targets_above l counts p (target.Absolute value) placed lists of = absurd of
targets_above l counts p target.None placed lists of = absurd of
