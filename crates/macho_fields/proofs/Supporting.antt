-- What is known of a supported relocation's field.
--
-- The table of relocations gives the test of the row that the type has (`RowTests`). Each row's test then gives the width,
-- the word and the target that the kind of the field asks for; and what a target needs, its place, its slot or its stub, is
-- there.
use Rattle.std.proofs.Common.{◌≡◌, ℕ, ◌-◌, ◌^◌, ◌<◌, ◌==◌, ◌&&◌, ◌||◌, not, Bool, true, false, Option, Some, None, Contains, refl, sym, ap, subst, ◌∙◌, inl, inr, ◌⊎◌, arith}
use Rattle.std.specs.Prelude.{is_some, IfSome}
use Rattle.std.proofs.lemmas.Bool.{cases_Bool}
use Rattle.macho_wire.specs.declared.relocations.RelocationInfo.{RelocationInfo}
use Rattle.macho_model.specs.declared.targets.Target.{Target}
use Rattle.macho_model.specs.declared.targets.Target.TheVariants as target
use Rattle.macho_model.specs.Links.{Link, SectionId, header_at, carried_of}
use Rattle.macho_model.specs.Needs.{relocation_in}
use Rattle.macho_model.specs.Targets.{target_of_relocation, is_defined, is_import}
use Rattle.macho_model.specs.Uses.{slot_of_relocation, stub_of_relocation, goes_by_slot}
use Rattle.macho_model.specs.Fields.{field_of, content_of, has_subtrahend, has_addend, is_prefix_type}
use Rattle.macho_model.specs.Words.{is_adrp, is_branch, is_ldr, written_register}
use Rattle.macho_model.specs.Rows.{has_form, is_none, difference_fits, pointer_fits, defined_or_import, is_supported}
use Rattle.macho_model.specs.Supported.{may_be_called, takes_offset, load_fits, REGISTER_31}
use Rattle.macho_model.specs.Stands.{Kind, Pointer, Difference, Branch, Page, Offset, SlotPage, SlotOffset, SlotDistance, kind_of}
use Rattle.macho_model.specs.Placement.{Placed}
use Rattle.macho_arm64.specs.Relaxations.{is_relaxable}
use Rattle.macho_fields.specs.Looks.{Leads, IsFound, HasSlot, HasStub}
use Rattle.macho_fields.specs.steps.Fields.{goes_straight, kind_in}
use Rattle.macho_fields.specs.steps.Kinds.{KindFits, IsInImage, IsSubtracted, IsCallable, IsLoadable, direct, by_stub, by_slot}
use Rattle.macho_fields.proofs.RowTests.{Unsigned, Called, Paged, Low, LoadPage, LoadLow, ToSlot, RowOf, row_of}
use Rattle.macho_bytes.proofs.Bools.{true_or_false, and_left, and_right, either, is_equal}
use Rattle.macho_arm64.proofs.SupportedKinds.{form_length}

four_wide : (rel : RelocationInfo) (pcrel extern : Bool) → has_form rel 2 pcrel extern ≡ true → 2 ^ rel.r_length ≡ 4
four_wide rel pcrel extern h = ap (λ (n : ℕ). 2 ^ n) (form_length rel 2 pcrel extern h)

-- a type that is no part of another relocation's field
pub no_addend : (type : ℕ) → is_prefix_type type ≡ false → (type == 10) ≡ false
no_addend type h = last (type == 1) (type == 10) h
  where
    last : (a b : Bool) → (a || b) ≡ false → b ≡ false
    last true b h = absurd (true_or_false true refl h)
    last false b h = h

-- where the target of a relocation is: in the image, at its slot, at its stub
record IsOf (l : Link) (p : Placed) (s : SectionId) (r : ℕ) : Type 0 where
  found : IsFound l p
  carried : Contains (carried_of l) s
  among : r < (header_at l s).nreloc
  plain : ((relocation_in l s r).r_type == 10) ≡ false

leads : (l : Link) (p : Placed) (s : SectionId) (r : ℕ) → IsOf l p s r → Leads l s r
leads l p s r here = record { carried = here.carried; among = here.among; no_addend = here.plain }

in_image : (l : Link) (p : Placed) (s : SectionId) (r : ℕ) → IsOf l p s r → is_defined (target_of_relocation l s r) ≡ true
    → IsInImage p (target_of_relocation l s r)
in_image l p s r here moves = record { defined = moves; there = here.found.targets s r (leads l p s r here) }

some_slot : (p : Placed) (type : ℕ) (t : Target) → ((type == 7) || (goes_by_slot type && is_import t)) ≡ true
    → IfSome (slot_of_relocation type t) (HasSlot p) → HasSlot p t
some_slot p type t asks h = rw asks at h

some_stub : (p : Placed) (type : ℕ) (t : Target) → ((type == 2) && is_import t) ≡ true → IfSome (stub_of_relocation type t) (HasStub p)
    → HasStub p t
some_stub p type t asks h = rw asks at h

callable : (l : Link) (p : Placed) (s : SectionId) (r : ℕ) → IsOf l p s r → (relocation_in l s r).r_type ≡ 2 → may_be_called l s r ≡ true
    → IsCallable p (target_of_relocation l s r)
callable l p s r here is h = elim (either (is_defined t) (is_import t && not (has_addend l s r)) h) [
  | inl moves ↦ direct (in_image l p s r here moves)
  | inr other ↦
      let moves = and_left (is_import t) (not (has_addend l s r)) other in
      by_stub moves (some_stub p (relocation_in l s r).r_type t (rw (is, moves) refl) (here.found.stubs s r here.carried here.among))
]
  where
    t : Target
    t = target_of_relocation l s r

loadable : (l : Link) (p : Placed) (s : SectionId) (r : ℕ) → IsOf l p s r → goes_by_slot (relocation_in l s r).r_type ≡ true
    → defined_or_import (target_of_relocation l s r) ≡ true → IsLoadable p (target_of_relocation l s r)
loadable l p s r here goes h = elim (either (is_defined t) (is_import t) h) [
  | inl moves ↦ direct (in_image l p s r here moves)
  | inr moves ↦
      by_slot moves (some_slot p type t (or_last (type == 7) (goes_by_slot type) (is_import t) goes moves)
      (here.found.slots s r here.carried here.among))
]
  where
    t : Target
    t = target_of_relocation l s r

    type : ℕ
    type = (relocation_in l s r).r_type

    or_last : (a b c : Bool) → b ≡ true → c ≡ true → (a || (b && c)) ≡ true
    or_last true b c is also = refl
    or_last false b c is also = rw (is, also) refl

-- a target that is defined or an import is not nothing
some_target : (t : Target) → defined_or_import t ≡ true → is_none t ≡ false
some_target (target.Section file section offset) h = refl
some_target (target.Common id) h = refl
some_target (target.Import id) h = refl
some_target target.Base h = refl
some_target (target.Absolute value) h = absurd (true_or_false false h refl)
some_target target.None h = absurd (true_or_false false h refl)

-- a load that can be made an ADD, where its target is no import
relaxable : (w : ℕ) (t : Target) → load_fits w t ≡ true → (is_ldr w ≡ true) × (goes_straight t ≡ true → is_relaxable w ≡ true)
relaxable w t h = (
  load,
  λ goes. rw (
    load,
    straight t goes (and_right (is_ldr w)
        (is_import t || not (written_register w == REGISTER_31)) h),
  ) refl,
)
  where
    load : is_ldr w ≡ true
    load = and_left (is_ldr w) (is_import t || not (written_register w == REGISTER_31)) h

    straight : (t : Target) → goes_straight t ≡ true → (is_import t || not (written_register w == REGISTER_31)) ≡ true
        → not (written_register w == REGISTER_31) ≡ true
    straight (target.Import id) goes g = absurd (true_or_false false goes refl)
    straight (target.Section file section offset) goes g = g
    straight (target.Common id) goes g = g
    straight target.Base goes g = g
    straight (target.Absolute value) goes g = g
    straight target.None goes g = g

-- a pointer, or a difference
four_or_eight : (rel : RelocationInfo) → (has_form rel 2 false true || has_form rel 3 false true) ≡ true
    → (2 ^ rel.r_length ≡ 4) ⊎ (2 ^ rel.r_length ≡ 8)
four_or_eight rel h = elim (either (has_form rel 2 false true) (has_form rel 3 false true) h) [
  | inl two ↦ inl (ap (λ (n : ℕ). 2 ^ n) (form_length rel 2 false true two))
  | inr three ↦ inr (ap (λ (n : ℕ). 2 ^ n) (form_length rel 3 false true three))
]

pointer_kind : (l : Link) (p : Placed) (s : SectionId) (r : ℕ) → IsOf l p s r → (relocation_in l s r).r_type ≡ 0
    → (has_subtrahend l s r ≡ true → (is_defined (target_of_relocation l s (r - 1)) ≡ true)
    × (((relocation_in l s (r - 1)).r_type == 10) ≡ false))
    → pointer_fits l s r ≡ true → KindFits p (field_of l s r) (content_of l s r) (kind_in (field_of l s r))
pointer_kind l p s r here is minus h = elim (cases_Bool (has_subtrahend l s r)) [
  | inl behind ↦
      let g : difference_fits l s r ≡ true = rw behind at h in
      let form = and_left (has_form rel 2 false true || has_form rel 3 false true) (is_defined (target_of_relocation l s r)) g in
      let moves = and_right (has_form rel 2 false true || has_form rel 3 false true) (is_defined (target_of_relocation l s r)) g in
      let other : IsInImage p (target_of_relocation l s (r - 1)) = record {
        defined = (minus behind).0;
        there = here.found.targets s
            (r - 1) (record { carried = here.carried; among = omega (arith, here.among); no_addend = (minus behind).1 });
      } in
      let all : KindFits p (field_of l s r) (content_of l s r) Difference =
      (four_or_eight rel form, in_image l p s r here moves, subst (IsSubtracted p) (sym (subtracted behind)) other) in
      subst (KindFits p (field_of l s r) (content_of l s r)) (sym (kind behind)) all
  | inr alone ↦
      let g : (((relocation_in l s r).r_length == 3) && not (relocation_in l s r).r_pcrel && not
      (is_none (target_of_relocation l s r))) ≡ true = rw alone at h in
      let front = and_left ((rel.r_length == 3) && not rel.r_pcrel) (not (is_none (target_of_relocation l s r))) g in
      let eight = is_equal rel.r_length 3 (and_left (rel.r_length == 3) (not rel.r_pcrel) front) in
      let some = not_true (is_none (target_of_relocation l s r))
      (and_right ((rel.r_length == 3) && not rel.r_pcrel) (not (is_none (target_of_relocation l s r))) g) in
      let all : KindFits p (field_of l s r) (content_of l s r) Pointer =
      (ap (λ (n : ℕ). 2 ^ n) eight, some, here.found.targets s r (leads l p s r here)) in
      subst (KindFits p (field_of l s r) (content_of l s r)) (sym (plain alone)) all
]
  where
    rel : RelocationInfo
    rel = relocation_in l s r

    not_true : (b : Bool) → not b ≡ true → b ≡ false
    not_true true h = absurd (true_or_false false h refl)
    not_true false h = refl

    subtracted : has_subtrahend l s r ≡ true → (field_of l s r).subtrahend ≡ Some (target_of_relocation l s (r - 1))
    subtracted behind = rw behind refl

    kind : has_subtrahend l s r ≡ true → kind_in (field_of l s r) ≡ Difference
    kind behind = ap (λ (o : Option Target). kind_of rel.r_type (is_some o)) (subtracted behind) ∙ ap (λ (n : ℕ). kind_of n true) is

    plain : has_subtrahend l s r ≡ false → kind_in (field_of l s r) ≡ Pointer
    plain alone =
        let none : (field_of l s r).subtrahend ≡ None = rw alone refl in
        ap (λ (o : Option Target). kind_of rel.r_type (is_some o)) none ∙ ap (λ (n : ℕ). kind_of n false) is

-- THE field of a supported relocation is what the table asks of its kind, and its target is not nothing.
pub supported_fits : (l : Link) (p : Placed) (s : SectionId) (r : ℕ) → IsFound l p → Contains (carried_of l) s → r < (header_at l s).nreloc
    → is_prefix_type (relocation_in l s r).r_type ≡ false → is_supported l s r ≡ true
    → (has_subtrahend l s r ≡ true → (is_defined (target_of_relocation l s (r - 1)) ≡ true)
    × (((relocation_in l s (r - 1)).r_type == 10) ≡ false))
    → KindFits p (field_of l s r) (content_of l s r) (kind_in (field_of l s r))
supported_fits l p s r found carried among own h minus = by (row_of l s r own h)
  where
    rel : RelocationInfo
    rel = relocation_in l s r

    w : ℕ
    w = content_of l s r

    t : Target
    t = target_of_relocation l s r

    here : IsOf l p s r
    here = record { found = found; carried = carried; among = among; plain = no_addend rel.r_type own }

    minus_is : Bool
    minus_is = is_some (field_of l s r).subtrahend

    of_kind : (n : ℕ) (k : Kind) → rel.r_type ≡ n → kind_of n minus_is ≡ k → KindFits p (field_of l s r) w k
        → KindFits p (field_of l s r) w (kind_in (field_of l s r))
    of_kind n k is kind fits = subst (KindFits p (field_of l s r) w) (sym (ap (λ (m : ℕ). kind_of m minus_is) is ∙ kind)) fits

    by : RowOf l s r → KindFits p (field_of l s r) w (kind_in (field_of l s r))
    by (Unsigned is g) = pointer_kind l p s r here is minus g
    by (Called is g) =
        let front = and_left (has_form rel 2 true true && is_branch w) (may_be_called l s r) g in
        of_kind 2 Branch is refl (
          four_wide rel true true (and_left (has_form rel 2 true true) (is_branch w) front),
          and_right (has_form rel 2 true true) (is_branch w) front,
          callable l p s r here is (and_right (has_form rel 2 true true && is_branch w) (may_be_called l s r) g),
        )
    by (Paged is g) =
        let front = and_left (has_form rel 2 true true && is_adrp w) (is_defined t) g in
        of_kind 3 Page is refl (
          four_wide rel true true (and_left (has_form rel 2 true true) (is_adrp w) front),
          and_right (has_form rel 2 true true) (is_adrp w) front,
          in_image l p s r here (and_right (has_form rel 2 true true && is_adrp w) (is_defined t) g),
        )
    by (Low is g) =
        let front = and_left (has_form rel 2 false true && takes_offset w) (is_defined t) g in
        of_kind 4 Offset is refl (
          four_wide rel false true (and_left (has_form rel 2 false true) (takes_offset w) front),
          and_right (has_form rel 2 false true) (takes_offset w) front,
          in_image l p s r here (and_right (has_form rel 2 false true && takes_offset w) (is_defined t) g),
        )
    by (LoadPage is g) =
        let front = and_left (has_form rel 2 true true && is_adrp w) (defined_or_import t) g in
        let all : goes_by_slot rel.r_type ≡ true → KindFits p (field_of l s r) w SlotPage = λ goes. (
          four_wide rel true true (and_left (has_form rel 2 true true) (is_adrp w) front),
          and_right (has_form rel 2 true true) (is_adrp w) front,
          loadable l p s r here goes (and_right (has_form rel 2 true true && is_adrp w) (defined_or_import t) g),
        ) in
        elim is [
          | inl five ↦ of_kind 5 SlotPage five refl (all (ap goes_by_slot five))
          | inr eight ↦ of_kind 8 SlotPage eight refl (all (ap goes_by_slot eight))
        ]
    by (LoadLow is g) =
        let front = and_left (has_form rel 2 false true && load_fits w t) (defined_or_import t) g in
        let load = relaxable w t (and_right (has_form rel 2 false true) (load_fits w t) front) in
        let all : goes_by_slot rel.r_type ≡ true → KindFits p (field_of l s r) w SlotOffset = λ goes. (
          four_wide rel false true (and_left (has_form rel 2 false true) (load_fits w t) front),
          load.0,
          load.1,
          loadable l p s r here goes (and_right (has_form rel 2 false true && load_fits w t) (defined_or_import t) g),
        ) in
        elim is [
          | inl six ↦ of_kind 6 SlotOffset six refl (all (ap goes_by_slot six))
          | inr nine ↦ of_kind 9 SlotOffset nine refl (all (ap goes_by_slot nine))
        ]
    by (ToSlot is g) =
        of_kind 7 SlotDistance is refl (
          four_wide rel true true (and_left (has_form rel 2 true true) (defined_or_import t) g),
          some_target t (and_right (has_form rel 2 true true) (defined_or_import t) g),
          some_slot p rel.r_type t (rw is refl) (found.slots s r carried among),
        )
