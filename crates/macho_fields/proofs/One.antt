-- One field that was taken care of: what it says, what stands against it, what it changed, what it asks for.
--
-- Where it is asked for, nothing is written, and the definitions ask nothing of its bytes; its word may stand where it does, and
-- has room for its value. Else its value was written, and the laws by kind say the rest. And where it was stopped, the
-- refusal stands.
use Rattle.std.proofs.Common.{◌≡◌, ℕ, ◌+◌, ◌%◌, ◌^◌, ◌<◌, ◌≤◌, true, false, Bool, List, [], ◌∷◌, ◌++◌, Contains, refl, sym, ap, subst, ◌∙◌, inl, inr, ◌⊎◌, append-nil}
use Rattle.std.proofs.lemmas.Bool.{cases_Bool}
use Rattle.macho_model.specs.declared.placed.PlacedSection.{PlacedSection}
use Rattle.macho_model.specs.Links.{Link, header_at}
use Rattle.macho_model.specs.Targets.{is_import}
use Rattle.macho_model.specs.Fields.{Field, field_of, fields_of, content_of}
use Rattle.macho_model.specs.Placement.{Placed, id_of}
use Rattle.macho_model.specs.Addresses.{address_of, section_address}
use Rattle.macho_model.specs.Stands.{Pointer, SectionAt, is_template_offset}
use Rattle.macho_model.specs.Values.{needs_fixup, IsNotEncodable, FieldOf, DoesNotFit, BadRange, BadRebase}
use Rattle.macho_fixups.specs.declared.run.Fixup.{Fixup}
use Rattle.macho_fixups.specs.declared.words.FixupKind.{FixupKind}
use Rattle.macho_promise.specs.Filled.{FieldIsSet}
use Rattle.macho_promise.specs.Asked.{field_fixup}
use Rattle.macho_fields.specs.declared.fault.FillFault.{FillFault}
use Rattle.macho_fields.specs.declared.fault.FillFault.TheVariants.{Range, Rebase, Place, Unsupported, OutOfMemory}
use Rattle.macho_fields.specs.Looks.{Look, IsThere, IsPlacedOnce}
use Rattle.macho_fields.specs.Faults.{FillStands, IsBadPlace}
use Rattle.macho_fields.specs.steps.Fields.{kind_in, asks}
use Rattle.macho_fields.specs.steps.Writes.{ChangesOnly, IsPut}
use Rattle.macho_fields.specs.steps.Filled.{place_in, CannotAsk, CannotSet, start_in, written_in, IsDone, IsStopped}
use Rattle.macho_fields.specs.steps.Kinds.{KindFits}
use Rattle.macho_fields.specs.steps.Sections.{is_field, FieldIsFine, IsNext}
use Rattle.macho_fields.proofs.Puts.{changes_nothing}
use Rattle.macho_fields.proofs.Numbered.{one_if, chosen_member}
use Rattle.macho_fields.proofs.Placing.{stands_at, stands_only}
use Rattle.macho_fields.proofs.Saying.{IsStart, wide, says_by_kind}
use Rattle.macho_fields.proofs.Reaching.{fits_by_kind, unfit_by_kind, has_field_by_kind}
use Rattle.macho_fields.proofs.Asked.{asks_same, asked_kind, unasked_target, start_is, kind_same, encodable_is, not_encodable, stands_well, stands_badly}
use Rattle.macho_bytes.proofs.Bools.{true_or_false}

-- a field needs a fixup where it is asked for
pub needs_by : (l : Link) (p : Placed) (q : PlacedSection) (look : Look) (descriptors : Bool) (r : ℕ) (old : List ℕ) (b : Bool)
    → IsNext l p q look descriptors r old
    → asks descriptors look (field_of l (id_of q) r) ≡ b → needs_fixup l (id_of q) (field_of l (id_of q) r) ≡ b
needs_by l p q look descriptors r old b next h =
    let f = field_of l (id_of q) r in
    let there : kind_in f ≡ Pointer → IsThere p f.target = λ pointer.
    let fits : KindFits p f (content_of l (id_of q) r) Pointer = subst (KindFits p f (content_of l (id_of q) r)) pointer next.fits in
    fits.2 in
    asks_same l p look descriptors (id_of q) f next.fill.tells there next.descriptors_are ∙ h

-- a pointer that isn't asked for has a value that doesn't move, or counts from the start of the template
pub begins_here : (l : Link) (p : Placed) (q : PlacedSection) (look : Look) (descriptors : Bool) (r : ℕ) (old : List ℕ)
    → IsNext l p q look descriptors r old
    → asks descriptors look (field_of l (id_of q) r) ≡ false → kind_in (field_of l (id_of q) r) ≡ Pointer
    → (is_import (field_of l (id_of q) r).target ≡ false)
    × IsStart (is_template_offset l (id_of q) (field_of l (id_of q) r)) p.template (start_in look descriptors (field_of l (id_of q) r))
begins_here l p q look descriptors r old next unasked pointer =
    let f = field_of l (id_of q) r in
    let fits : KindFits p f (content_of l (id_of q) r) Pointer = subst (KindFits p f (content_of l (id_of q) r)) pointer next.fits in (
      unasked_target look descriptors f fits.0 pointer unasked,
      start_is l p look descriptors (id_of q) f next.fill.tells next.fill.found fits.2 next.descriptors_are,
    )

-- its bytes say what they are asked to
set_here : (l : Link) (p : Placed) (q : PlacedSection) (look : Look) (descriptors : Bool) (r : ℕ) (old new : List ℕ)
    → IsNext l p q look descriptors r old
    → asks descriptors look (field_of l (id_of q) r) ≡ false → IsPut (written_in look descriptors q (field_of l (id_of q) r)) old new
    → FieldIsSet l p q new (field_of l (id_of q) r)
set_here l p q look descriptors r old new next unasked put plain =
    let f = field_of l (id_of q) r in
    says_by_kind l p look q f (start_in look descriptors f) (content_of l (id_of q) r) old new
    (kind_in f) next.fill.tells.addresses next.fill.found.once next.low next.fits
    (begins_here l p q look descriptors r old next unasked) next.still put

pub one_set : (l : Link) (p : Placed) (q : PlacedSection) (look : Look) (descriptors : Bool) (r : ℕ) (old new : List ℕ)
    (run more : List Fixup)
    → IsNext l p q look descriptors r old → IsDone look descriptors q (field_of l (id_of q) r) old new run more
    → FieldIsSet l p q new (field_of l (id_of q) r)
one_set l p q look descriptors r old new run more next done plain = elim (cases_Bool (asks descriptors look (field_of l (id_of q) r))) [
  | inl asked ↦ absurd (true_or_false true refl (sym (needs_by l p q look descriptors r old true next asked) ∙ plain))
  | inr unasked ↦ set_here l p q look descriptors r old new next unasked (done.written unasked).0 plain
]

-- the section stands at its address, and nowhere else
pub place_only : (p : Placed) (q : PlacedSection) (address : ℕ) → IsPlacedOnce p → Contains p.sections q
    → SectionAt p q.file q.section address → address ≡ q.address
place_only p q address once here at =
    sym at.4 ∙ sym (once.sections at.0 at.1) ∙ ap (λ (n : ℕ). section_address p n at.0.section) at.2 ∙ ap (section_address p q.file) at.3
    ∙ once.sections q here

-- nothing stands against it
pub one_fine : (l : Link) (p : Placed) (q : PlacedSection) (look : Look) (descriptors : Bool) (r : ℕ) (old new : List ℕ)
    (run more : List Fixup)
    → IsNext l p q look descriptors r old → IsDone look descriptors q (field_of l (id_of q) r) old new run more
    → FieldIsFine l p q (field_of l (id_of q) r)
one_fine l p q look descriptors r old new run more next done = elim (cases_Bool (asks descriptors look f)) [
  | inl asked ↦
      let a = (done.asked asked).0 in
      record {
        fits = λ bad. subst (DoesNotFit l p (id_of q) f (place_in q f) w) (asked_kind look descriptors f asked) bad;
        place = λ needs bad.
            let here = place_only p q bad.0 once next.fill.here bad.1 in
            stands_well (place_in q f) a.stands (subst (λ (x : ℕ). (16384 < (x + f.offset) % 16384 + 8) ⊎
            (1 ≤ (x + f.offset) % 4)) here bad.2);
        value = λ needs own x at bad.
            encodable_is p look f.target f.addend next.fill.tells.addresses own a.encodable
            (subst (λ (n : ℕ). IsNotEncodable p ((n + f.addend) % 2 ^ 64)) (stands_only l p f.target x once own at) bad);
      }
  | inr unasked ↦
      let put = (done.written unasked).0 in
      let none = needs_by l p q look descriptors r old false next unasked in
      record {
        fits = λ bad. fits_by_kind l p look q f (start_in look descriptors f) w old put.mid
            (kind_in f) next.fill.tells.addresses once next.fits next.still put.ready put.room bad;
        place = λ needs bad. true_or_false (needs_fixup l (id_of q) f) needs none;
        value = λ needs own x at bad. true_or_false (needs_fixup l (id_of q) f) needs none;
      }
]
  where
    f : Field
    f = field_of l (id_of q) r

    w : ℕ
    w = content_of l (id_of q) r

    once : IsPlacedOnce p
    once = next.fill.found.once

-- only these changed
pub one_changes : (l : Link) (p : Placed) (q : PlacedSection) (look : Look) (descriptors : Bool) (r : ℕ) (old new : List ℕ)
    (run more : List Fixup)
    → IsNext l p q look descriptors r old → IsDone look descriptors q (field_of l (id_of q) r) old new run more
    → ChangesOnly (field_of l (id_of q) r).offset (field_of l (id_of q) r).width old new
one_changes l p q look descriptors r old new run more next done = elim (cases_Bool (asks descriptors look f)) [
  | inl asked ↦ changes_nothing f.offset f.width old new (done.asked asked).1
  | inr unasked ↦
      subst (λ (n : ℕ). ChangesOnly f.offset n old new) (wide p f (content_of l (id_of q) r) (kind_in f) next.fits)
      (done.written unasked).0.changes
]
  where
    f : Field
    f = field_of l (id_of q) r

-- what it asks for
pub one_asks : (l : Link) (p : Placed) (q : PlacedSection) (look : Look) (descriptors : Bool) (r : ℕ) (old new : List ℕ)
    (run more : List Fixup)
    → IsNext l p q look descriptors r old → IsDone look descriptors q (field_of l (id_of q) r) old new run more
    → more ≡ run ++ one_if (needs_fixup l (id_of q) (field_of l (id_of q) r)) (field_fixup l p q (field_of l (id_of q) r))
one_asks l p q look descriptors r old new run more next done = elim (cases_Bool (asks descriptors look f)) [
  | inl asked ↦
      let needs = needs_by l p q look descriptors r old true next asked in
      (done.asked asked).0.run
      ∙ ap (λ (k : FixupKind). run ++ record { address = place_in q f; kind = k } ∷ [])
      (kind_same l p look f.target f.addend next.fill.tells)
      ∙ sym (ap (λ (b : Bool). run ++ one_if b (field_fixup l p q f)) needs)
  | inr unasked ↦
      let needs = needs_by l p q look descriptors r old false next unasked in
      (done.written unasked).1 ∙ sym (append-nil run) ∙ sym (ap (λ (b : Bool). run ++ one_if b (field_fixup l p q f)) needs)
]
  where
    f : Field
    f = field_of l (id_of q) r

-- it is a field of the link
pub field_there : (l : Link) (p : Placed) (q : PlacedSection) (look : Look) (descriptors : Bool) (r : ℕ) (old : List ℕ)
    → IsNext l p q look descriptors r old
    → FieldOf l (id_of q) r (field_of l (id_of q) r)
unfolding fields_of
field_there l p q look descriptors r old next = (
  next.fill.carried,
  chosen_member (field_of l (id_of q)) (is_field l (id_of q))
      (header_at l (id_of q)).nreloc r next.among next.field,
  refl,
)

asked_fault : (l : Link) (p : Placed) (q : PlacedSection) (look : Look) (descriptors : Bool) (r : ℕ) (old : List ℕ) (fault : FillFault)
    → IsNext l p q look descriptors r old → asks descriptors look (field_of l (id_of q) r) ≡ true
    → CannotAsk look q (field_of l (id_of q) r) fault → FillStands l p fault
asked_fault l p q look descriptors r old (Range at) next asked h = absurd h
asked_fault l p q look descriptors r old Unsupported next asked h = h
asked_fault l p q look descriptors r old OutOfMemory next asked h = tt
asked_fault l p q look descriptors r old (Place file section relocation) next asked h =
    let f = field_of l (id_of q) r in
    let stands : IsBadPlace l p q.file q.section r = (
      f,
      field_there l p q look descriptors r old next,
      needs_by l p q look descriptors r old true next asked,
      (q.address, (q, next.fill.here, refl, refl, refl), stands_badly (place_in q f) h.3),
    ) in
    subst (λ (n : ℕ). IsBadPlace l p n section relocation) (sym h.0)
    (subst (λ (n : ℕ). IsBadPlace l p q.file n relocation) (sym h.1) (subst (IsBadPlace l p q.file q.section) (sym h.2) stands))
asked_fault l p q look descriptors r old (Rebase at) next asked h =
    let f = field_of l (id_of q) r in
    let value = not_encodable p look f.target f.addend next.fill.tells.addresses h.1 in
    let fits : KindFits p f (content_of l (id_of q) r) Pointer = subst (KindFits p f (content_of l (id_of q) r))
    (asked_kind look descriptors f asked) next.fits in
    subst (BadRebase l p) (sym h.0) (
      f,
      address_of p f.target,
      field_there l p q look descriptors r old next,
      needs_by l p q look descriptors r old true next asked,
      value.0,
      stands_at l p f.target next.fill.found.once fits.2 value.0 fits.1,
      value.1,
    )

set_fault : (l : Link) (p : Placed) (q : PlacedSection) (look : Look) (descriptors : Bool) (r : ℕ) (old : List ℕ) (fault : FillFault)
    → IsNext l p q look descriptors r old → asks descriptors look (field_of l (id_of q) r) ≡ false
    → CannotSet look descriptors q (field_of l (id_of q) r) old fault
    → FillStands l p fault
set_fault l p q look descriptors r old (Rebase at) next unasked h = absurd h
set_fault l p q look descriptors r old (Place file section relocation) next unasked h = absurd h
set_fault l p q look descriptors r old OutOfMemory next unasked h = tt
set_fault l p q look descriptors r old Unsupported next unasked h =
    let f = field_of l (id_of q) r in
    h (has_field_by_kind look p q f (start_in look descriptors f) (content_of l (id_of q) r) old
    (kind_in f) next.fits next.inside next.still)
set_fault l p q look descriptors r old (Range at) next unasked h =
    let f = field_of l (id_of q) r in
    subst (BadRange l p) (sym h.0) (
      f,
      q.address,
      field_there l p q look descriptors r old next,
      (q, next.fill.here, refl, refl, refl),
      unfit_by_kind l p look q f (start_in look descriptors f) (content_of l (id_of q) r) old h.1.mid
          (kind_in f) next.fill.tells.addresses next.fill.found.once
          next.fill.found.aligned next.fits next.still h.1.ready h.1.no_room,
    )

-- where it was stopped, the refusal stands
pub one_stands : (l : Link) (p : Placed) (q : PlacedSection) (look : Look) (descriptors : Bool) (r : ℕ) (old : List ℕ) (fault : FillFault)
    → IsNext l p q look descriptors r old → IsStopped look descriptors q (field_of l (id_of q) r) old fault → FillStands l p fault
one_stands l p q look descriptors r old fault next (inl h) = asked_fault l p q look descriptors r old fault next h.0 h.1
one_stands l p q look descriptors r old fault next (inr h) = set_fault l p q look descriptors r old fault next h.0 h.1
