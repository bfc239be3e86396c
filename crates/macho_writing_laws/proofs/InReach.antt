-- No field and no stub of a placed valid link is out of reach.
--
-- A field's place, what it refers to and what it subtracts are near the base, and its addend is small, so they are close to each
-- other. Where multiples are asked for, section, offset and target are such.
use Rattle.std.proofs.Common.{◌≡◌, ℕ, ◌+◌, ◌%◌, ◌^◌, ◌<◌, ◌==◌, ◌&&◌, nat_le, Bool, true, false, refl, sym, ap, subst, ◌∙◌, arith, inl, inr, Option, Some, None}
use Rattle.std.specs.Prelude.{Contains, is_some}
use Rattle.std.proofs.lemmas.Bool.{and_parts, or_cases, or_left, eqb-true, true≢false}
use Rattle.std.proofs.lemmas.List.Elements.{All-contains}
use Rattle.std.specs.FinMap.{empty}
use Rattle.macho_model.specs.declared.placed.Counts.{Counts}
use Rattle.macho_model.specs.declared.placed.Stub.{Stub}
use Rattle.macho_model.specs.declared.targets.Site.{Site}
use Rattle.macho_model.specs.declared.targets.Site.TheVariants as site
use Rattle.macho_model.specs.declared.targets.Target.{Target}
use Rattle.macho_model.specs.declared.targets.Target.TheVariants as target
use Rattle.macho_model.specs.Links.{Link, SectionId, section_id, header_at, placed_exponent, carried_of}
use Rattle.macho_model.specs.Targets.{is_defined, is_import}
use Rattle.macho_model.specs.Fields.{Field, fields_of, content_of}
use Rattle.macho_model.specs.Words.{scale_of}
use Rattle.macho_model.specs.Rows.{defined_or_import}
use Rattle.macho_model.specs.Placement.{Placed, id_of}
use Rattle.macho_model.specs.SlideLaws.{targets_move, subtrahend_moves}
use Rattle.macho_model.specs.Stands.{Kind, Pointer, Difference, Branch, Page, Offset, SlotPage, SlotOffset, SlotDistance, NoKind, kind_of, SectionAt, IsAt, CallIsAt, SubtrahendIsAt}
use Rattle.macho_model.specs.Values.{fits_signed, less, branch_reaches, page_reaches, offset_fits, DoesNotFit, BadRange}
use Rattle.macho_model.proofs.Unrefused.{valid_relocations}
use Rattle.macho_model.specs.Valid.{is_small, is_multiple, stands_at_multiple, field_fits}
use Rattle.macho_image_laws.proofs.Fits.{field_fits_in}
use Rattle.macho_writing_laws.specs.Valid.{ObjectsAreBytes}
use Rattle.macho_writing_laws.proofs.Ranges.{IsValidPlaced, IsNear, section_near, stub_near}
use Rattle.macho_writing_laws.proofs.Reach.{small_cases, AreClose, distance_fits, page_fits, branch_fits, IsScale, is_scale, offset_is_fit}
use Rattle.macho_writing_laws.proofs.Reach as reach
use Rattle.macho_writing_laws.proofs.FieldTargets.{is_plain_kind, field_has, subtrahend_has, plain_addend, import_addend, difference_addend}
use Rattle.macho_writing_laws.proofs.Near.{same_id, base_low, target_near, call_near, load_near, slot_at_near, target_multiple}
use Rattle.macho_writing_laws.proofs.Fixed.{leads_of, field_multiple}
use Rattle.macho_model.proofs.Parts.{aligned_of}
use Rattle.macho_bytes.proofs.Bools.{true_or_false}

-- addresses near the base, with a small addend
close : (l : Link) (counts : Counts) (p : Placed) (x y a : ℕ) → IsValidPlaced l counts p → IsNear p x → IsNear p y → is_small a ≡ true
    → a < 2 ^ 64
    → AreClose p.base x y a
close l counts p x y a h near_x near_y small fits = record {
  low_base = elim (base_low l counts p h) [ inl z ↦ omega (arith, z) | inr z ↦ omega (arith, z) ];
  x_low = near_x.0;
  x_high = near_x.1;
  y_low = near_y.0;
  y_high = near_y.1;
  addend = elim (small_cases a small) [ inl low ↦ inl low | inr high ↦ inr (high, fits) ];
}

no_more : (l : Link) (counts : Counts) (p : Placed) (x y : ℕ) → IsValidPlaced l counts p → IsNear p x → IsNear p y → AreClose p.base x y 0
no_more l counts p x y h near_x near_y = record {
  low_base = elim (base_low l counts p h) [ inl z ↦ omega (arith, z) | inr z ↦ omega (arith, z) ];
  x_low = near_x.0;
  x_high = near_x.1;
  y_low = near_y.0;
  y_high = near_y.1;
  addend = inl (omega arith);
}

page_close : (base x y : ℕ) → AreClose base x y 0 → page_reaches y x ≡ true
page_close base x y h = let same : x + 0 ≡ x = omega arith in sym (ap (page_reaches y) same) ∙ page_fits base x y 0 h

distance_close : (base x y : ℕ) → AreClose base x y 0 → fits_signed 32 (less x y) ≡ true
distance_close base x y h = let same : x + 0 ≡ x = omega arith in sym (ap (λ (n : ℕ). fits_signed 32 (less n y)) same)
    ∙ distance_fits base x y 0 h

-- What is known of a field and its place.
pub record IsFieldAt (l : Link) (p : Placed) (s : SectionId) (f : Field) (address : ℕ) : Type 0 where
  pub one : Contains (carried_of l) s
  pub field : Contains (fields_of l s) f
  pub at : SectionAt p s.file s.section address
  pub near : IsNear p (address + f.offset)

-- of a field of a kind but a pointer the targets move
moves_of : (l : Link) (counts : Counts) (p : Placed) (s : SectionId) (f : Field) (k : Kind) → IsValidPlaced l counts p
    → Contains (carried_of l) s
    → Contains (fields_of l s) f → kind_of f.type (is_some f.subtrahend) ≡ k → (Pointer ≡ k → ⊥) → targets_move f k ≡ true
moves_of l counts p s f k h one field is other =
    elim (field_fits_in l s f (valid_relocations l counts h.valid) one field) [
      | inl pointer ↦ absurd (other (sym pointer.kind ∙ is))
      | inr moves ↦ sym (ap (targets_move f) is) ∙ moves
    ]

defined_only : (t : Target) → is_defined t ≡ true → is_import t ≡ false
defined_only (target.Section file section offset) h = refl
defined_only (target.Common id) h = refl
defined_only (target.Import id) h = absurd (true≢false (sym h))
defined_only target.Base h = refl
defined_only (target.Absolute value) h = absurd (true≢false (sym h))
defined_only target.None h = absurd (true≢false (sym h))

or_import : (t : Target) → is_defined t ≡ true → defined_or_import t ≡ true
or_import t h = or_left (is_defined t) (is_import t) h

-- a subtrahend, where it is
subtrahend_near : (l : Link) (counts : Counts) (p : Placed) (s : SectionId) (f : Field) (t : Option Target) (y : ℕ)
    → IsValidPlaced l counts p
    → Contains (carried_of l) s → Contains (fields_of l s) f → f.subtrahend ≡ t → subtrahend_moves t ≡ true
    → SubtrahendIsAt l p 0 empty t y → IsNear p y
subtrahend_near l counts p s f None y h one field is moves at = absurd at
subtrahend_near l counts p s f (Some t) y h one field is moves at =
    target_near l counts p empty t y h (subtrahend_has l s f t h.objects one field is moves) (defined_only t moves) at

-- a branch's target plus its addend is a multiple of four
call_multiple : (l : Link) (counts : Counts) (p : Placed) (s : SectionId) (f : Field) (x : ℕ) → IsValidPlaced l counts p
    → Contains (carried_of l) s
    → Contains (fields_of l s) f → kind_of f.type (is_some f.subtrahend) ≡ Branch → (t : Target) → f.target ≡ t
    → is_multiple l 4 t f.addend ≡ true
    → defined_or_import t ≡ true → CallIsAt l p 0 empty t x → (x + f.addend) % 4 ≡ 0
call_multiple l counts p s f x h one field kind (target.Import id) is test leads (stub, in_stubs, id_is, x_is) =
    let none = import_addend l s f (valid_relocations l counts h.valid) one field kind (ap is_import is) in
    let four = All-contains (λ (t : Stub). t.address % 4 ≡ 0) p.stubs stub (aligned_of h.placed).stubs in_stubs in
    omega (arith, none, four, x_is)
call_multiple l counts p s f x h one field kind (target.Section file section offset) is test leads at =
    target_multiple l counts p empty (target.Section file section offset) x f.addend 2 h refl (omega arith) test at
call_multiple l counts p s f x h one field kind (target.Common id) is test leads at =
    target_multiple l counts p empty (target.Common id) x f.addend 2 h refl (omega arith) test at
call_multiple l counts p s f x h one field kind target.Base is test leads at = target_multiple l counts p empty target.Base x f.addend
    2 h refl (omega arith) test at
call_multiple l counts p s f x h one field kind (target.Absolute value) is test leads at = absurd (true≢false (sym leads))
call_multiple l counts p s f x h one field kind target.None is test leads at = absurd (true≢false (sym leads))

-- an offset's target plus its addend is a multiple of the scale
offset_reaches : (l : Link) (counts : Counts) (p : Placed) (t : Target) (x addend input m : ℕ) → IsValidPlaced l counts p
    → is_defined t ≡ true → IsScale m
    → m ≡ scale_of input → is_multiple l m t addend ≡ true → IsAt l p 0 empty t x → offset_fits input (x + addend) ≡ true
offset_reaches l counts p t x addend input _ h moves (reach.IsScale.power j le) is test at =
    offset_is_fit (x + addend) input j le is (target_multiple l counts p empty t x addend j h moves le test at)

-- THE field reaches, by its kind
no_misfit : (l : Link) (counts : Counts) (p : Placed) (s : SectionId) (f : Field) (address : ℕ) → IsValidPlaced l counts p
    → ObjectsAreBytes l → IsFieldAt l p s f address
    → (k : Kind) → kind_of f.type (is_some f.subtrahend) ≡ k → field_fits l s f k ≡ true
    → DoesNotFit l p s f (address + f.offset) (content_of l s f.relocation) k → ⊥
no_misfit l counts p s f address h bytes w Pointer is fits bad = bad
no_misfit l counts p s f address h bytes w Difference is fits (x, y, at_x, at_y, wide, bad) =
    let moves = and_parts (is_defined f.target) (subtrahend_moves f.subtrahend)
    (moves_of l counts p s f Difference h w.one w.field is (λ e. cc)) in
    let small : is_small f.addend ≡ true = elim (or_cases (f.width == 8) (is_small f.addend) fits) [
      | inl eight ↦ absurd (omega (arith, eqb-true f.width 8 eight, wide))
      | inr small ↦ small
    ] in
    let near_x = target_near l counts p empty f.target x h (field_has l s f h.objects w.one w.field (or_import f.target moves.0))
    (defined_only f.target moves.0) at_x in
    let near_y = subtrahend_near l counts p s f f.subtrahend y h w.one w.field refl moves.1 at_y in
    true_or_false (fits_signed 32 (less (x + f.addend) y))
    (distance_fits p.base x y f.addend
    (close l counts p x y f.addend h near_x near_y small (difference_addend l s f h.objects bytes w.one w.field is wide))) bad
no_misfit l counts p s f address h bytes w Branch is fits (x, at, bad) =
    let leads = moves_of l counts p s f Branch h w.one w.field is (λ e. cc) in
    let first = and_parts (is_small f.addend && stands_at_multiple l s 4 f) (is_multiple l 4 f.target f.addend) fits in
    let second = and_parts (is_small f.addend) (stands_at_multiple l s 4 f) first.0 in
    let place = and_parts (nat_le 4 (2 ^ placed_exponent l s)) (f.offset % 4 == 0) second.1 in
    let section = field_multiple l counts p s f address 2 h w.at place.0 in
    let near_x = call_near l counts p empty f.target x h (field_has l s f h.objects w.one w.field leads) at in
    true_or_false (branch_reaches (address + f.offset) (x + f.addend))
    (branch_fits p.base x (address + f.offset) f.addend
    (close l counts p x (address + f.offset) f.addend h near_x w.near second.0 (plain_addend l s f w.field (ap is_plain_kind is)))
    (call_multiple l counts p s f x h w.one w.field is f.target refl first.1 leads at)
    (omega (arith, section, eqb-true (f.offset % 4) 0 place.1))) bad
no_misfit l counts p s f address h bytes w Page is fits (x, at, bad) =
    let moves = moves_of l counts p s f Page h w.one w.field is (λ e. cc) in
    let near_x = target_near l counts p empty f.target x h (field_has l s f h.objects w.one w.field (or_import f.target moves))
    (defined_only f.target moves) at in
    true_or_false (page_reaches (address + f.offset) (x + f.addend))
    (page_fits p.base x (address + f.offset) f.addend
    (close l counts p x (address + f.offset) f.addend h near_x w.near fits (plain_addend l s f w.field (ap is_plain_kind is)))) bad
no_misfit l counts p s f address h bytes w Offset is fits (x, at, bad) =
    let moves = moves_of l counts p s f Offset h w.one w.field is (λ e. cc) in
    let both = and_parts (is_small f.addend) (is_multiple l (scale_of (content_of l s f.relocation)) f.target f.addend) fits in
    true_or_false (offset_fits (content_of l s f.relocation) (x + f.addend))
    (offset_reaches l counts p f.target x f.addend (content_of l s f.relocation) (scale_of (content_of l s f.relocation)) h moves
    (is_scale (content_of l s f.relocation)) refl both.1 at) bad
no_misfit l counts p s f address h bytes w SlotPage is fits (x, at, bad) =
    let leads = moves_of l counts p s f SlotPage h w.one w.field is (λ e. cc) in
    let near_x = load_near l counts p empty f.target x h (field_has l s f h.objects w.one w.field leads) at in
    true_or_false (page_reaches (address + f.offset) x)
    (page_close p.base x (address + f.offset) (no_more l counts p x (address + f.offset) h near_x w.near)) bad
no_misfit l counts p s f address h bytes w SlotOffset is fits bad = bad
no_misfit l counts p s f address h bytes w SlotDistance is fits (x, at, bad) =
    let near_x = slot_at_near l counts p f.target x h at in
    true_or_false (fits_signed 32 (less x (address + f.offset)))
    (distance_close p.base x (address + f.offset) (no_more l counts p x (address + f.offset) h near_x w.near)) bad
no_misfit l counts p s f address h bytes w NoKind is fits bad = bad

-- THE ranges
pub no_bad_range : (l : Link) (counts : Counts) (p : Placed) (at : Site) → IsValidPlaced l counts p → ObjectsAreBytes l → BadRange l p at
    → ⊥
no_bad_range l counts p (site.Field file section relocation) h bytes (f, address, (one, field, is), at, bad) =
    let s : SectionId = section_id file section in
    let inside = (leads_of l counts p h).inside (section_id file section) f one field in
    let q = at.0 in
    let near = section_near l counts p q h at.1 in
    let size : (header_at l (id_of q)).size ≡ (header_at l (section_id file section)).size = ap (λ (t : SectionId). (header_at l t).size)
    (same_id q file section at.2 at.3) in
    let fits = All-contains (λ (g : Field). field_fits l (section_id file section) g (kind_of g.type (is_some g.subtrahend)) ≡ true)
    (fields_of l (section_id file section)) f
    (h.valid.fields (section_id file section) one) field in
    no_misfit l counts p (section_id file section) f address h bytes
    (record { one = one; field = field; at = at; near = (omega (arith, near.0, at.4), omega (arith, near.1, at.4, size, inside)) })
    (kind_of f.type (is_some f.subtrahend)) refl fits
    (subst (λ (r : ℕ). DoesNotFit l p (section_id file section) f (address + f.offset) (content_of l (section_id file section) r)
    (kind_of f.type (is_some f.subtrahend))) (sym is) bad)
no_bad_range l counts p (site.Slot index) h bytes bad = bad
no_bad_range l counts p (site.Stub index) h bytes (stub, x, number, at, bad) =
    let near_x = slot_at_near l counts p (target.Import stub.import) x h at in
    let near_y = stub_near l counts p stub h (index, number.0, number.1) in
    true_or_false (page_reaches stub.address x) (page_close p.base x stub.address (no_more l counts p x stub.address h near_x near_y)) bad
