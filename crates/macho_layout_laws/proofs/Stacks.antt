-- Pieces that stand one behind the other, each at the least multiple of its alignment.
--
-- Each begins at the least multiple behind the one before it, and ends before those behind it begin. The greatest end is that of
-- the last. Where the row begins at a multiple of the first one's alignment, the first stands at its start, which is the least of
-- all places; so the piece around them is from the start to the end.
use Rattle.std.proofs.Common.{◌≡◌, ℕ, zero, suc, ◌+◌, ◌-◌, ◌%◌, ◌^◌, ◌≤◌, List, [], ◌∷◌, map, get_or, fold, min, refl, ap, ◌∙◌, subst, arith}
use Rattle.std.specs.List.{AllByRecursion}
use Rattle.std.proofs.lemmas.Nat.{pow_pos}
use Rattle.macho_model.specs.Lists.{EachNext}
use Rattle.macho_model.specs.Links.{greatest}
use Rattle.macho_model.specs.OutputSections.{around, least}
use Rattle.macho_model.specs.Placement.{Piece, end_of_piece}
use Rattle.macho_model.specs.Order.{BeginsLeast}
use Rattle.macho_stack.specs.Blocks.{Block, StandLeast}
use Rattle.macho_stack.proofs.Multiples.{rounded-same}
use Rattle.macho_stack.proofs.StackRows.{row-rises, row-begins}

abbrev pub piece_block : Piece → Block
piece_block c = record { start = c.start; size = c.size; exponent = c.exponent }

pub stack_next : (n : ℕ) (cs : List Piece) (m : ℕ) → StandLeast n (map piece_block cs) m → EachNext BeginsLeast cs
stack_next n [] m h k x y hx hy = absurd (omega (arith, hx.0))
stack_next n (c ∷ []) m h k x y hx hy = absurd (omega (arith, hy.0))
stack_next n (c ∷ d ∷ cs) m h zero x y hx hy =
    subst (λ (z : Piece). BeginsLeast x z) hy.1 (subst (λ (z : Piece). BeginsLeast z d) hx.1 h.1.0)
stack_next n (c ∷ d ∷ cs) m h (suc k) x y hx hy =
    let e : suc k + 1 ≡ suc (k + 1) = omega arith in
    stack_next (c.start + c.size) (d ∷ cs) m h.1 k x y (omega (arith, hx.0), hx.1)
    (omega (arith, hy.0), subst (λ (i : ℕ). get_or (c ∷ d ∷ cs) i y ≡ y) e hy.1)

pub stack_end : (n : ℕ) (c : Piece) (cs : List Piece) (m : ℕ) → StandLeast n (map piece_block (c ∷ cs)) m → greatest
    (map end_of_piece (c ∷ cs)) ≡ m
stack_end n c [] m h = omega (arith, h.1)
stack_end n c (d ∷ cs) m h =
    omega (arith, stack_end (c.start + c.size) d cs m h.1, row-rises (c.start + c.size) (map piece_block (d ∷ cs)) m h.1)

-- the least of numbers of which none is below the first
fold_low : (n : ℕ) (cs : List Piece) → AllByRecursion (λ c. n ≤ (piece_block c).start) cs → fold min n (map (λ c. c.start) cs) ≡ n
fold_low n [] h = refl
fold_low n (c ∷ cs) h =
    let e : min n c.start ≡ n = omega (arith, h.0) in
    ap (λ (k : ℕ). fold min k (map (λ c. c.start) cs)) e ∙ fold_low n cs h.1

pub around_is : (s : ℕ) (c : Piece) (cs : List Piece) (m : ℕ) → s % 2 ^ c.exponent ≡ 0 → StandLeast s (map piece_block (c ∷ cs)) m
    → around (c ∷ cs) ≡ record { start = s; size = m - s; exponent = greatest (map (λ c. c.exponent) (c ∷ cs)) }
around_is s c cs m whole h =
    let first : c.start ≡ s = h.0 ∙ rounded-same (2 ^ c.exponent) s (pow_pos c.exponent) whole in
    let low : least (map (λ c. c.start) (c ∷ cs)) ≡ s
    = fold_low c.start cs (row-begins piece_block c.start (c.start + c.size) cs m (omega arith) h.1) ∙ first in
    let end : greatest (map end_of_piece (c ∷ cs)) ≡ m = stack_end s c cs m h in
    ap (λ (k : ℕ). record {
      start = k;
      size = greatest (map end_of_piece (c ∷ cs)) - k;
      exponent = greatest
          (map (λ c. c.exponent) (c ∷ cs));
    }) low
    ∙ ap (λ (k : ℕ). record { start = s; size = k - s; exponent = greatest (map (λ c. c.exponent) (c ∷ cs)) }) end
