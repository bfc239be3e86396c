-- Tests of lists that may be empty, and places in tables.
--
-- A list of length 0 is empty. Where a table has no element that passes, the first place that passes is its length.
use Rattle.std.proofs.Common.{◌≡◌, ℕ, ◌+◌, ◌==◌, ◌||◌, ◌&&◌, not, Bool, true, false, cond, Some, None, List, [], ◌∷◌, ◌++◌, filter, length-append, length, ltb, refl, sym, ap, ◌∙◌, arith, ◌≤◌}
use Rattle.std.specs.List.{position, position_or_len}
use Rattle.std.proofs.lemmas.Bool.{eq-eqb, eqb-true, ne_eqb, eqb-false, ltb-false}
use mir.Val.{bool_byte}
use Rattle.macho_model.specs.Segments.{TEXT, DATA_CONST, DATA, list_if, one_if}
use Rattle.macho_records.specs.declared.segments.SegmentName.{SegmentName}
use Rattle.macho_layout.specs.Plans.{Planning}
use Rattle.macho_layout.specs.Keys.{padded}
use Rattle.macho_layout.specs.Names.{is_other, section_segments, mapped_names, has_data_const, has_data}
use Rattle.std.proofs.lemmas.List.Sums.{prefix_len-le-length}

pub or_same : (a b r : Bool) → a ≡ true → r ≡ b → r ≡ (not a || b)
or_same a b r e f = f ∙ sym (ap (λ (x : Bool). not x || b) e)

pub and_same : (a b r : Bool) → a ≡ false → r ≡ b → not r ≡ (not a && not b)
and_same a b r e f = ap not f ∙ sym (ap (λ (x : Bool). not x && not b) e)

pub is_zero : (len n : ℕ) (r : Bool) → r ≡ (len == 0) → r ≡ true → len ≡ n → (n == 0) ≡ true
is_zero len n r e t f = eq-eqb n 0 (omega (arith, f, eqb-true len 0 (sym e ∙ t)))

pub is_some_length : (len n : ℕ) (r : Bool) → r ≡ (len == 0) → r ≡ false → len ≡ n → (n == 0) ≡ false
is_some_length len n r e t f = ne_eqb n 0 (λ z. eqb-false len 0 (sym e ∙ t) (f ∙ z))

pub place_some : {X : Type 0} (p : X → Bool) (xs : List X) (i : ℕ) → Some i ≡ position p xs → i ≡ position_or_len p xs
place_some p xs i e = by (ltb (position_or_len p xs) (length xs)) e
  where
    by : (b : Bool) → Some i ≡ cond b (Some (position_or_len p xs)) None → i ≡ position_or_len p xs
    by true h = cc
    by false h = cc

pub place_none : {X : Type 0} (p : X → Bool) (xs : List X) → None ≡ position p xs → length xs ≡ position_or_len p xs
place_none p xs e = by (ltb (position_or_len p xs) (length xs)) refl e
  where
    by : (b : Bool) → ltb (position_or_len p xs) (length xs) ≡ b → None ≡ cond b (Some (position_or_len p xs)) None → length xs
        ≡ position_or_len p xs
    by true is h = cc
    by false is h = omega (arith, ltb-false (position_or_len p xs) (length xs) is, prefix_len-le-length (λ x. not (p x)) xs)

-- a test as a number
pub one_is : (b : Bool) → bool_byte b ≡ one_if b
one_is true = refl
one_is false = refl

pub length-list_if : {X : Type 0} (b : Bool) (x : X) → length (list_if b (x ∷ [])) ≡ one_if b
length-list_if true x = refl
length-list_if false x = refl

-- how many segments are mapped from the file
pub count_of_names : (p : Planning) → length (mapped_names p) ≡ 1 + one_if (has_data_const p) + one_if (has_data p) + length
    (filter is_other (section_segments p))
unfolding mapped_names
count_of_names p =
    let a : List SegmentName = padded TEXT ∷ [] in
    let b : List SegmentName = list_if (has_data_const p) (padded DATA_CONST ∷ []) in
    let c : List SegmentName = list_if (has_data p) (padded DATA ∷ []) in
    let d : List SegmentName = filter is_other (section_segments p) in
    omega (
      arith,
      length-append (a ++ b ++ c) d,
      length-append (a ++ b) c,
      length-append a b,
      length-list_if (has_data_const p) (padded DATA_CONST),
      length-list_if (has_data p) (padded DATA),
    )

pub one_small : (b : Bool) → bool_byte b ≤ 1
one_small true = omega arith
one_small false = omega arith
