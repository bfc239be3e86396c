-- Parts and ranges of a file: what stands in a range, and what two files have in common there.
use Rattle.std.proofs.Common.{◌≡◌, ℕ, suc, ◌+◌, ◌-◌, ◌<◌, ◌≤◌, inl, inr, ◌==◌, Bool, true, false, List, [], ◌∷◌, ◌++◌, map, length, get_or, take, drop, slice_range, slice_index, refl, sym, ap, subst, ◌∙◌, arith, eqb-true, All}
use Rattle.std.proofs.lemmas.Bool.Decides.{nat_tests}
use Rattle.std.proofs.lemmas.List.Edits.{length-between, get_or-between}
use Rattle.std.proofs.lemmas.List.Elements.{All-nil, All-cons}
use Rattle.macho_bytes.specs.Texts.{Part, end_of, Stands}
use Rattle.macho_model.specs.Zeros.{Span}
use Rattle.macho_placed_laws.specs.Parts.{part_now}
use Rattle.macho_promise_laws.proofs.Exactly.{Fills, FillRanges}
use Rattle.macho_bytes.proofs.Comparing.{no_elements}

empty_slice : (b : List ℕ) (o size : ℕ) → size ≡ 0 → slice_range b o (o + size) ≡ []
empty_slice b o size none =
    let nothing : (o + size) - o ≡ 0 = omega (arith, none) in
    ap (λ (k : ℕ). take k (drop o b)) nothing

-- what stands in a range is the text; an empty range holds none
pub text_in : (b : List ℕ) (q : Part) (o size : ℕ) → Stands b q → (1 ≤ length q.text → q.at ≡ o) → length q.text ≡ size
    → slice_range b o (o + size) ≡ q.text
text_in b q o size stands place long = by (size == 0) refl
  where
    by : (z : Bool) → (size == 0) ≡ z → slice_range b o (o + size) ≡ q.text
    by true e =
        let none : size ≡ 0 = eqb-true size 0 e in
        empty_slice b o size none ∙ sym (no_elements q.text (omega (arith, long, none)))
    by false e =
        let at : q.at ≡ o = place (grind (arith, nat_tests)) in
        ap (slice_range b o) (omega (arith, at, long)) ∙ ap (λ (k : ℕ). slice_range b k (end_of q)) (sym at) ∙ stands.same

-- the part's length stays
pub length_now : (b c : List ℕ) (q : Part) → Stands b q → length c ≡ length b → length (slice_range c q.at (end_of q)) ≡ length q.text
length_now b c q stands same = omega (arith, length-between c q.at (end_of q), stands.within, same)

-- two files in which the same part stands have the same bytes in its range
pub slices_same : (b c d : List ℕ) (q : Part) (o size : ℕ) → Stands b q → length c ≡ length b → Stands d (part_now c q)
    → (1 ≤ length q.text → q.at ≡ o) → length q.text ≡ size → slice_range d o (o + size) ≡ slice_range c o (o + size)
slices_same b c d q o size stands same now place long = by (size == 0) refl
  where
    by : (z : Bool) → (size == 0) ≡ z → slice_range d o (o + size) ≡ slice_range c o (o + size)
    by true e = empty_slice d o size (eqb-true size 0 e) ∙ sym (empty_slice c o size (eqb-true size 0 e))
    by false e =
        let at : q.at ≡ o = place (grind (arith, nat_tests)) in
        let end : q.at + length (slice_range c q.at (end_of q)) ≡ o + size = omega (arith, length_now b c q stands same, at, long) in
        let here : slice_range d q.at (q.at + length (slice_range c q.at (end_of q))) ≡ slice_range c q.at (end_of q) = now.same in
        ap (slice_range d o) (sym end) ∙ ap (λ (k : ℕ). slice_range d k (q.at + length (slice_range c q.at (end_of q)))) (sym at) ∙ here
        ∙ ap (slice_range c q.at) (omega (arith, at, long)) ∙ ap (λ (k : ℕ). slice_range c k (o + size)) at

-- and the same byte at each place of it
pub byte_same : (b c d : List ℕ) (q : Part) (i : ℕ) → Stands b q → length c ≡ length b → Stands d (part_now c q) → q.at ≤ i → i < end_of q
    → slice_index d i ≡ slice_index c i
byte_same b c d q i stands same now from to =
    let long = length_now b c q stands same in
    let there : get_or (slice_range d q.at (end_of (part_now c q))) (i - q.at) 0 ≡ slice_index d i =
    get_or-between d q.at (end_of (part_now c q)) (i - q.at) 0 (omega (arith, now.within, long, from, to))
    ∙ ap (λ (k : ℕ). get_or d k 0) (omega (arith, from)) in
    let here : get_or (slice_range c q.at (end_of q)) (i - q.at) 0 ≡ slice_index c i =
    get_or-between c q.at (end_of q) (i - q.at) 0 (omega (arith, stands.within, same, from, to))
    ∙ ap (λ (k : ℕ). get_or c k 0) (omega (arith, from)) in
    sym there ∙ ap (λ (t : List ℕ). get_or t (i - q.at) 0) now.same ∙ here

-- parts as they stand later fill the ranges that they filled
pub now_fill : (b c : List ℕ) (parts : List Part) (spans : List Span) → All (Stands b) parts → length c ≡ length b → FillRanges parts spans
    → FillRanges (map (part_now c) parts) spans
now_fill b c [] [] stand same fill = tt
now_fill b c [] (s ∷ spans) stand same fill = absurd fill
now_fill b c (q ∷ parts) [] stand same fill = absurd fill
now_fill b c (q ∷ parts) (s ∷ spans) stand same fill = (
  by (length_now b c q (stand 0 q (omega arith)) same) fill.0,
  now_fill b c parts spans (λ k d lt. stand (suc k) d (omega arith)) same
      fill.1,
)
  where
    by : length (slice_range c q.at (end_of q)) ≡ length q.text → Fills q s → Fills (part_now c q) s
    by long (inl none) = inl (omega (arith, none.0, long), none.1)
    by long (inr is) = inr (is.0, long ∙ is.1)

-- what holds of elements one by one holds of all
abbrev pub Each : {X : Type 0} → (X → Type 0) → List X → Type 0
Each P [] = Unit {0}
Each P (x ∷ xs) = P x × Each P xs

pub each_all : {X : Type 0} (P : X → Type 0) (xs : List X) → Each P xs → All P xs
each_all P [] each = All-nil P
each_all P (x ∷ xs) each = All-cons P x xs each.0 (each_all P xs each.1)
