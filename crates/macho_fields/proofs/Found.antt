-- In a placement of a link whatever relocations lead to has its place, where it is a part of the link.
--
-- A relocation of a carried section is a use of the link. So the target that it needs a slot or a stub for is one of the link's,
-- and stands in the placement's list; a carried section and a chosen common are in the placement's lists, which are the link's in
-- another order. A section of the template is one of those that the placement tells a range of.
use Rattle.std.proofs.Common.{◌≡◌, ℕ, ◌%◌, ◌<◌, not, true, List, [], ◌∷◌, length, map, filter, Contains, Option, Some, None, refl, sym, ap, subst, inl, inr}
use Rattle.std.specs.Prelude.{IfSome, is_some}
use Rattle.std.specs.List.{filter_map, range_with_len}
use Rattle.std.proofs.lemmas.Bool.{cases_Bool}
use Rattle.std.proofs.lemmas.List.Sorted.{Contains-permutation, IsPermutation-sym}
use Rattle.std.proofs.lemmas.List.Elements.{All-contains}
use Rattle.macho_model.specs.declared.placed.Counts.{Counts}
use Rattle.macho_model.specs.declared.placed.PlacedSection.{PlacedSection}
use Rattle.macho_model.specs.declared.placed.PlacedCommon.{PlacedCommon}
use Rattle.macho_model.specs.declared.placed.Range64.{Range64}
use Rattle.macho_model.specs.declared.placed.Slot.{Slot}
use Rattle.macho_model.specs.declared.placed.Stub.{Stub}
use Rattle.macho_model.specs.declared.targets.Target.{Target}
use Rattle.macho_model.specs.declared.targets.Target.TheVariants as target
use Rattle.macho_model.specs.Links.{Link, SectionId, section_id, header_at, carried_of, is_template}
use Rattle.macho_model.specs.Resolution.{chosen_commons}
use Rattle.macho_model.specs.Needs.{distinct, relocation_in}
use Rattle.macho_model.specs.Uses.{ByRelocation, uses_of, slot_of_use, stub_of_use, slot_of_relocation, stub_of_relocation}
use Rattle.macho_model.specs.Targets.{same_target, slots_of, stubs_of, target_of_relocation}
use Rattle.macho_model.specs.Placement.{Placed, IsPlaced, template_sections, id_of}
use Rattle.macho_model.specs.steps.Parts.{TemplateHolds}
use Rattle.macho_fields.specs.Looks.{IsThere, HasSlot, HasStub, IsFound}
use Rattle.macho_fields.specs.Laws.{LeadsInside, TargetsAreKept}
use Rattle.macho_fields.proofs.Once.{placed_once}
use Rattle.macho_model.proofs.Uses.{slots_are, stubs_are}
use Rattle.macho_model.proofs.Parts.{aligned_of, template_of, same_order}
use Rattle.macho_model.proofs.SameTargets.{same_target_is}
use Rattle.macho_bytes.proofs.Members.{contains_first, contains_later, contains_cases, nil_contains, contains_filter, contains_range, contains_filter_map}
use Rattle.macho_model.proofs.Sections.{carried_use}

-- an element that a mapped one is of
pub record IsMapped {X Y : Type 0} (f : X → Y) (xs : List X) (y : Y) : Type 0 where
  pub of : X
  pub there : Contains xs of
  pub is : f of ≡ y

pub of_map : {X Y : Type 0} (f : X → Y) (xs : List X) (y : Y) → Contains (map f xs) y → IsMapped f xs y
of_map f [] y h = absurd (nil_contains y h)
of_map f (x ∷ xs) y h = elim (contains_cases (f x) (map f xs) y h) [
  | inl is ↦ record { of = x; there = contains_first x xs; is = is }
  | inr rest ↦ let m = of_map f xs y rest in record { of = m.of; there = contains_later x xs m.of m.there; is = m.is }
]

-- among targets without repeats
in_distinct : (xs : List Target) (x : Target) → Contains xs x → Contains (distinct same_target xs) x
in_distinct [] x h = absurd (nil_contains x h)
in_distinct (y ∷ xs) x h = elim (contains_cases y xs x h) [
  | inl is ↦ subst (Contains (y ∷ filter (λ z. not (same_target y z)) (distinct same_target xs))) is
      (contains_first y (filter (λ z. not (same_target y z)) (distinct same_target xs)))
  | inr rest ↦ elim (cases_Bool (same_target y x)) [
    | inl same ↦
        subst (Contains (y ∷ filter (λ z. not (same_target y z)) (distinct same_target xs))) (same_target_is y x same)
        (contains_first y (filter (λ z. not (same_target y z)) (distinct same_target xs)))
    | inr other ↦
        contains_later y (filter (λ z. not (same_target y z)) (distinct same_target xs)) x
        (contains_filter (λ z. not (same_target y z)) (distinct same_target xs) x (in_distinct xs x rest) (ap not other))
  ]
]

-- the target of a slot, and the import of a stub, are in the placement's lists
slot_there : (l : Link) (counts : Counts) (p : Placed) (s : SectionId) (r : ℕ) (t : Target) → IsPlaced l counts p
    → Contains (carried_of l) s → r < (header_at l s).nreloc
    → slot_of_relocation (relocation_in l s r).r_type (target_of_relocation l s r) ≡ Some t → HasSlot p t
slot_there l counts p s r t placed carried among asks =
    let listed : Contains (slots_of l) t =
    subst (λ (xs : List Target). Contains xs t) (sym (slots_are l)) (in_distinct (filter_map (slot_of_use l) (uses_of l)) t
    (contains_filter_map (slot_of_use l) (uses_of l) (ByRelocation s r) t (carried_use l s r carried among) asks)) in
    let m = of_map (λ (x : Slot). x.target) p.slots t (subst (λ (xs : List Target). Contains xs t) (sym placed.whole_list.slots) listed) in
    (m.of, m.there, m.is)

stub_there : (l : Link) (counts : Counts) (p : Placed) (s : SectionId) (r : ℕ) (t : Target) → IsPlaced l counts p
    → Contains (carried_of l) s → r < (header_at l s).nreloc
    → stub_of_relocation (relocation_in l s r).r_type (target_of_relocation l s r) ≡ Some t → HasStub p t
stub_there l counts p s r t placed carried among asks =
    let listed : Contains (stubs_of l) t =
    subst (λ (xs : List Target). Contains xs t) (sym (stubs_are l)) (in_distinct (filter_map (stub_of_use l) (uses_of l)) t
    (contains_filter_map (stub_of_use l) (uses_of l) (ByRelocation s r) t (carried_use l s r carried among) asks)) in
    let m = of_map (λ (x : Stub). target.Import x.import) p.stubs t
    (subst (λ (xs : List Target). Contains xs t) (sym placed.whole_list.stubs) listed) in
    (m.of, m.there, m.is)

if_some : {X : Type 0} (P : X → Type 0) (o : Option X) → ((x : X) → o ≡ Some x → P x) → IfSome o P
if_some P None each = tt
if_some P (Some x) each = each x refl

-- what leads inside the link has its place
is_there : (l : Link) (counts : Counts) (p : Placed) (t : Target) → IsPlaced l counts p → LeadsInside l t → IsThere p t
is_there l counts p (target.Section file section offset) placed kept =
    let id = section_id file section in
    let m = of_map id_of p.sections id
    (Contains-permutation (carried_of l) (map id_of p.sections) id
    (IsPermutation-sym (map id_of p.sections) (carried_of l) (same_order placed.whole_list.sections)) kept) in
    (m.of, m.there, ap (λ (s : SectionId). s.file) m.is, ap (λ (s : SectionId). s.section) m.is)
is_there l counts p (target.Common id) placed kept =
    let ids = map (λ (x : PlacedCommon). x.id) p.commons in
    let all = range_with_len 0 (length (chosen_commons l)) in
    let m = of_map (λ (x : PlacedCommon). x.id) p.commons id
    (Contains-permutation all ids id (IsPermutation-sym ids all (same_order placed.whole_list.commons))
    (contains_range (length (chosen_commons l)) id kept)) in
    (m.of, m.there, m.is)
is_there l counts p (target.Import id) placed kept = tt
is_there l counts p target.Base placed kept = tt
is_there l counts p (target.Absolute value) placed kept = tt
is_there l counts p target.None placed kept = tt

-- a section of the template has its range told
told : (l : Link) (counts : Counts) (p : Placed) (q : PlacedSection) (o : Option Range64) → TemplateHolds l counts p o
    → Contains (template_sections l p) q → is_some o ≡ true
told l counts p q None holds there = absurd (nil_contains q (subst (λ (xs : List PlacedSection). Contains xs q) holds there))
told l counts p q (Some r) holds there = refl

-- THE law.
pub found : (l : Link) (counts : Counts) (p : Placed) → IsPlaced l counts p → TargetsAreKept l → IsFound l p
found l counts p placed kept = record {
  once = placed_once l counts p placed;
  targets = λ s r leads. is_there l counts p (target_of_relocation l s r) placed (kept.each s r leads);
  slots = λ s r carried among. if_some (HasSlot p) (slot_of_relocation (relocation_in l s r).r_type (target_of_relocation l s r))
      (λ t asks. slot_there l counts p s r t placed carried among asks);
  stubs = λ s r carried among. if_some (HasStub p) (stub_of_relocation (relocation_in l s r).r_type (target_of_relocation l s r))
      (λ t asks. stub_there l counts p s r t placed carried among asks);
  aligned = λ s there. All-contains (λ (x : Slot). x.address % 8 ≡ 0) p.slots s (aligned_of placed).slots there;
  template = λ q there is. told l counts p q p.template (template_of placed)
      (contains_filter (λ x. is_template (header_at l (id_of x))) p.sections q there is);
}
