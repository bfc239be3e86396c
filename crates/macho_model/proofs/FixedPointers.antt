-- Pointers that the loader writes, of a link whose fields are sure to fit.
--
-- Such a pointer has 8 bytes. A pointer to an import is one: an import is no absolute value and in no template. So it stands in a segment
-- that may hold it, and leads into its target: an import's addend fits 32 bits.
use Rattle.std.proofs.Common.{◌≡◌, ℕ, ◌==◌, ◌&&◌, ◌||◌, not, Bool, true, false, refl, sym, ap, ◌∙◌}
use Rattle.std.specs.Prelude.{Contains, All, is_some}
use Rattle.std.proofs.lemmas.Bool.{and_parts, and_from, eqb-true, not-true, true≢false}
use Rattle.std.proofs.lemmas.List.Elements.{All-contains}
use Rattle.macho_records.specs.Sections.{type_of, segment_name_of}
use Rattle.macho_records.specs.declared.constants.TheConstants.{S_THREAD_LOCAL_VARIABLES}
use Rattle.macho_model.specs.declared.targets.Target.{Target}
use Rattle.macho_model.specs.declared.targets.Target.TheVariants as target
use Rattle.macho_model.specs.Links.{Link, SectionId, header_at, carried_of}
use Rattle.macho_model.specs.Targets.{is_import}
use Rattle.macho_model.specs.Fields.{Field, fields_of}
use Rattle.macho_model.specs.Segments.{may_hold_pointers}
use Rattle.macho_model.specs.Stands.{Kind, Pointer, Difference, Branch, Page, Offset, SlotPage, SlotOffset, SlotDistance, NoKind, kind_of, is_in_template, is_template_offset}
use Rattle.macho_model.specs.Values.{fits_signed, is_pointer, is_absolute_target, needs_fixup}
use Rattle.macho_model.specs.Valid.{stands_at_multiple, stays_inside, field_fits}

-- a pointer that the loader writes is a pointer of 8 bytes
pub fixed_pointer : (l : Link) (s : SectionId) (f : Field) → needs_fixup l s f ≡ true
    → (f.width ≡ 8) × (kind_of f.type (is_some f.subtrahend) ≡ Pointer) × (is_template_offset l s f ≡ false)
    × (is_absolute_target f.target ≡ false)
fixed_pointer l s f needs =
    let parts = and_parts (is_pointer f && not (is_absolute_target f.target)) (not (is_template_offset l s f)) needs in
    let first = and_parts (is_pointer f) (not (is_absolute_target f.target)) parts.0 in
    let pointer = and_parts (f.width == 8) _ first.0 in (
      eqb-true f.width 8 pointer.0,
      by (kind_of f.type (is_some f.subtrahend)) refl,
      not-true (is_template_offset l s f) parts.1,
      not-true
          (is_absolute_target f.target) first.1,
    )
  where
    of_kind : (k : Kind) → kind_of f.type (is_some f.subtrahend) ≡ k → (f.width == 8) ≡ true → is_pointer f ≡ true
    of_kind k is wide = (and_parts (is_pointer f) (not (is_absolute_target f.target))
        (and_parts (is_pointer f && not (is_absolute_target f.target)) (not (is_template_offset l s f)) needs).0).0

    second : is_pointer f ≡ true
    second = (and_parts (is_pointer f) (not (is_absolute_target f.target))
        (and_parts (is_pointer f && not (is_absolute_target f.target)) (not (is_template_offset l s f)) needs).0).0

    never : (k : Kind) → kind_of f.type (is_some f.subtrahend) ≡ k → ((f.width == 8) && false) ≡ true
        → kind_of f.type (is_some f.subtrahend) ≡ Pointer
    never k is h = absurd (true≢false (sym (and_parts (f.width == 8) false h).1))

    by : (k : Kind) → kind_of f.type (is_some f.subtrahend) ≡ k → kind_of f.type (is_some f.subtrahend) ≡ Pointer
    by Pointer is = is
    by Difference is = never Difference is (rw is at second)
    by Branch is = never Branch is (rw is at second)
    by Page is = never Page is (rw is at second)
    by Offset is = never Offset is (rw is at second)
    by SlotPage is = never SlotPage is (rw is at second)
    by SlotOffset is = never SlotOffset is (rw is at second)
    by SlotDistance is = never SlotDistance is (rw is at second)
    by NoKind is = never NoKind is (rw is at second)

-- an import is no absolute value and in no template
import_moves : (l : Link) (t : Target) → is_import t ≡ true → (is_absolute_target t ≡ false) × (is_in_template l t ≡ false)
import_moves l (target.Section file section offset) h = absurd (true≢false (sym h))
import_moves l (target.Common id) h = absurd (true≢false (sym h))
import_moves l (target.Import id) h = (refl, refl)
import_moves l target.Base h = absurd (true≢false (sym h))
import_moves l (target.Absolute value) h = absurd (true≢false (sym h))
import_moves l target.None h = absurd (true≢false (sym h))

pub none_and : (b c : Bool) → c ≡ false → (b && c) ≡ false
none_and true c h = h
none_and false c h = refl

pub import_needs : (l : Link) (s : SectionId) (f : Field) → is_pointer f ≡ true → is_import f.target ≡ true → needs_fixup l s f ≡ true
import_needs l s f pointer import =
    let m = import_moves l f.target import in
    and_from (is_pointer f && not (is_absolute_target f.target)) (not (is_template_offset l s f))
    (and_from (is_pointer f) (not (is_absolute_target f.target)) pointer (ap not m.0))
    (ap not (none_and (type_of (header_at l s) == S_THREAD_LOCAL_VARIABLES) (is_in_template l f.target) m.1))

-- what a pointer that the loader writes keeps
pub left_true : (n b : Bool) → n ≡ true → (not n || b) ≡ true → b ≡ true
left_true true b is h = h
left_true false b is h = absurd (true≢false (sym is))

-- each field of a link is sure to fit, by its kind
abbrev pub EachFieldFits : Link → Type 0
EachFieldFits l =
    (s : SectionId) → Contains (carried_of l) s → All (λ f. field_fits l s f (kind_of f.type (is_some f.subtrahend)) ≡ true) (fields_of l s)

pub pointer_keeps : (l : Link) (s : SectionId) (f : Field) → EachFieldFits l → Contains (carried_of l) s → Contains (fields_of l s) f
    → needs_fixup l s f ≡ true
    → (may_hold_pointers (segment_name_of (header_at l s)) ≡ true) × (stands_at_multiple l s 8 f ≡ true)
    × (stays_inside l f.target f.addend ≡ true)
pointer_keeps l s f fit one field needs =
    let kind = (fixed_pointer l s f needs).1 in
    let fits = All-contains (λ (g : Field). field_fits l s g (kind_of g.type (is_some g.subtrahend)) ≡ true) (fields_of l s) f
    (fit s one) field in
    let fixup : field_fits l s f Pointer ≡ true = sym (ap (field_fits l s f) kind) ∙ fits in
    let all = left_true (needs_fixup l s f)
    (may_hold_pointers (segment_name_of (header_at l s)) && stands_at_multiple l s 8 f && stays_inside l f.target
    f.addend) needs fixup in
    let both = and_parts (may_hold_pointers (segment_name_of (header_at l s)) && stands_at_multiple l s 8 f)
    (stays_inside l f.target f.addend) all in
    let first = and_parts (may_hold_pointers (segment_name_of (header_at l s))) (stands_at_multiple l s 8 f) both.0 in
    (first.0, first.1, both.1)

pub import_stays : (l : Link) (t : Target) (addend : ℕ) → is_import t ≡ true → stays_inside l t addend ≡ true → fits_signed 32 addend ≡ true
import_stays l (target.Section file section offset) addend h stays = absurd (true≢false (sym h))
import_stays l (target.Common id) addend h stays = absurd (true≢false (sym h))
import_stays l (target.Import id) addend h stays = stays
import_stays l target.Base addend h stays = absurd (true≢false (sym h))
import_stays l (target.Absolute value) addend h stays = absurd (true≢false (sym h))
import_stays l target.None addend h stays = absurd (true≢false (sym h))
