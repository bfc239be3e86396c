-- A section behind its last relocation is filled.
--
-- Its fields are those of all its relocations that are no part of another one's. So what holds of each of these by number holds
-- of all, a field of a number is that of this relocation alone, and a section has one place.
use Rattle.std.proofs.Common.{◌≡◌, ℕ, ◌+◌, ◌<◌, true, List, ◌++◌, Contains, sym, ap, subst, ◌∙◌}
use Rattle.std.specs.Prelude.{is_some}
use Rattle.std.proofs.lemmas.List.Elements.{All-contains}
use Rattle.macho_model.specs.declared.placed.PlacedSection.{PlacedSection}
use Rattle.macho_model.specs.Links.{Link, SectionId, header_at}
use Rattle.macho_model.specs.Fields.{Field, field_of, fields_of, content_of}
use Rattle.macho_model.specs.Placement.{Placed, id_of}
use Rattle.macho_model.specs.Stands.{kind_of}
use Rattle.macho_model.specs.Values.{FieldOf, DoesNotFit}
use Rattle.macho_fixups.specs.declared.run.Fixup.{Fixup}
use Rattle.macho_promise.specs.Filled.{FieldIsSet, IsFilled}
use Rattle.macho_promise.specs.Asked.{fixups_in}
use Rattle.macho_fields.specs.Looks.{IsPlacedOnce}
use Rattle.macho_fields.specs.Faults.{NoneStandsIn}
use Rattle.macho_fields.specs.steps.Sections.{is_field, fields_to, FieldIsFine, IsFilledTo}
use Rattle.macho_fields.proofs.Numbered.{chosen_member, chosen_of, chosen_all, IsChosen}
use Rattle.macho_fields.proofs.One.{place_only}
use Rattle.macho_model.specs.Spans.{IsOutsideField}

abbrev pub Behind : Link → Placed → PlacedSection → List Fixup → List ℕ → List Fixup → Type 0
Behind l p q asked text run = IsFilledTo l p q (header_at l (id_of q)).nreloc asked text run

-- THE section is filled.
pub is_filled : (l : Link) (p : Placed) (q : PlacedSection) (asked : List Fixup) (text : List ℕ) (run : List Fixup)
    → Behind l p q asked text run → IsFilled l p q text
unfolding fields_of
is_filled l p q asked text run filled = record {
  long = filled.long;
  rest = λ i lt outside. filled.rest i lt
      (λ r less field. All-contains (IsOutsideField i) (fields_of l (id_of q)) (field_of l (id_of q) r) outside
      (chosen_member (field_of l (id_of q)) (is_field l (id_of q)) (header_at l (id_of q)).nreloc r less field));
  set = chosen_all (FieldIsSet l p q text) (field_of l (id_of q)) (is_field l (id_of q)) (header_at l (id_of q)).nreloc filled.set;
}

-- and what it asks for is what the definitions ask
pub is_asked : (l : Link) (p : Placed) (q : PlacedSection) (asked : List Fixup) (text : List ℕ) (run : List Fixup)
    → Behind l p q asked text run
    → run ≡ asked ++ fixups_in l p q
unfolding fields_of fields_to fixups_in
is_asked l p q asked text run filled = filled.asks

-- a field of a number is that of its relocation
pub field_number : (l : Link) (s : SectionId) (r : ℕ) (f : Field) → FieldOf l s r f → (r < (header_at l s).nreloc) × (is_field l s r ≡ true)
    × (f ≡ field_of l s r)
unfolding fields_of
field_number l s r f of =
    let c : IsChosen (field_of l s) (is_field l s) (header_at l s).nreloc f = chosen_of (field_of l s) (is_field l s)
    (header_at l s).nreloc f of.1 in
    let same : c.number ≡ r = ap (λ (g : Field). g.relocation) c.is ∙ of.2 in
    (subst (λ (n : ℕ). n < (header_at l s).nreloc) same c.below, sym (ap (is_field l s) same) ∙ c.passes, sym c.is ∙ ap (field_of l s) same)

-- nothing stands against its fields
pub none_stand : (l : Link) (p : Placed) (q : PlacedSection) (asked : List Fixup) (text : List ℕ) (run : List Fixup) → IsPlacedOnce p
    → Contains p.sections q
    → Behind l p q asked text run → NoneStandsIn l p q
none_stand l p q asked text run once here filled = record {
  range = λ r bad.
      let f = bad.0 in
      let n = field_number l s r f bad.2 in
      let address = place_only p q bad.1 once here bad.3 in
      let misfit : DoesNotFit l p s f (q.address + f.offset) (content_of l s f.relocation) (kind_of f.type (is_some f.subtrahend)) =
      subst (λ (k : ℕ). DoesNotFit l p s f (q.address + f.offset) (content_of l s k) (kind_of f.type (is_some f.subtrahend))) (sym bad.2.2)
      (subst (λ (x : ℕ). DoesNotFit l p s f (x + f.offset) (content_of l s r) (kind_of f.type (is_some f.subtrahend))) address bad.4) in
      (fine r f n).fits misfit;
  rebase = λ r bad. (fine r bad.0 (field_number l s r bad.0 bad.2)).value bad.3 bad.4 bad.1 bad.5 bad.6;
  place = λ r bad. (fine r bad.0 (field_number l s r bad.0 bad.1)).place bad.2 bad.3;
}
  where
    s : SectionId
    s = id_of q

    fine : (r : ℕ) (f : Field) → (r < (header_at l s).nreloc) × (is_field l s r ≡ true) × (f ≡ field_of l s r) → FieldIsFine l p q f
    fine r f n = subst (FieldIsFine l p q) (sym n.2) (filled.fine r n.0 n.1)
