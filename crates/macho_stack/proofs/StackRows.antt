-- Blocks that stand least.
--
-- By recursion on the blocks: the end is not below the start, each block begins at the start or later and ends at the end
-- or before, and a block ends before the next ones begin. A block behind the last one makes the row longer; two rows, of
-- which one begins where the other ends, are one. A row moves with a multiple of its greatest alignment. It is no longer
-- than what its blocks cost.
use Rattle.std.proofs.Common.{◌≡◌, ℕ, ◌+◌, ◌%◌, ◌^◌, ◌≤◌, List, [], ◌∷◌, ◌++◌, map, AllPairs, sum_by, refl, sym, ap, ◌∙◌, subst, arith}
use Rattle.std.specs.List.{AllByRecursion}
use Rattle.std.proofs.lemmas.Nat.{pow_pos}
use Rattle.std.proofs.lemmas.List.Elements.{All-from_recursion}
use Rattle.std.proofs.lemmas.List.Sums.{sum_by-cons}
use Rattle.macho_bytes.specs.Numbers.{rounded_up}
use Rattle.macho_stack.specs.Blocks.{Block, StandLeast}
use Rattle.macho_stack.specs.Costs.{block_cost}
use Rattle.macho_stack.proofs.Multiples.{rounded-multiple, rounded-shift, multiple-weaker}
use Rattle.macho_bytes.proofs.Pairs.{pairs_cons}
use Rattle.macho_bytes.proofs.Rounding.{rounded-above, rounded-near}

-- the end is not below the start
pub row-rises : (n : ℕ) (bs : List Block) (m : ℕ) → StandLeast n bs m → n ≤ m
row-rises n [] m h = omega arith
row-rises n (b ∷ bs) m h = omega (arith, h.0, rounded-above (2 ^ b.exponent) n (pow_pos b.exponent), row-rises (b.start + b.size) bs m h.1)

-- each block ends at the end or before
pub row-ends : {X : Type 0} (f : X → Block) (n : ℕ) (xs : List X) (m : ℕ) → StandLeast n (map f xs) m → AllByRecursion
    (λ x. (f x).start + (f x).size ≤ m) xs
row-ends f n [] m h = tt
row-ends f n (x ∷ xs) m h = (row-rises ((f x).start + (f x).size) (map f xs) m h.1, row-ends f ((f x).start + (f x).size) xs m h.1)

-- each block begins at a place below the start or later
pub row-begins : {X : Type 0} (f : X → Block) (low n : ℕ) (xs : List X) (m : ℕ) → low ≤ n → StandLeast n (map f xs) m → AllByRecursion
    (λ x. low ≤ (f x).start) xs
row-begins f low n [] m below h = tt
row-begins f low n (x ∷ xs) m below h =
    let here : low ≤ (f x).start = omega (arith, h.0, rounded-above (2 ^ (f x).exponent) n (pow_pos (f x).exponent)) in
    (here, row-begins f low ((f x).start + (f x).size) xs m (omega arith) h.1)

-- each block stands at a multiple of its alignment
pub row-multiples : {X : Type 0} (f : X → Block) (n : ℕ) (xs : List X) (m : ℕ) → StandLeast n (map f xs) m → AllByRecursion
    (λ x. (f x).start % 2 ^ (f x).exponent ≡ 0) xs
row-multiples f n [] m h = tt
row-multiples f n (x ∷ xs) m h = (
  ap (λ (k : ℕ). k % 2 ^ (f x).exponent) h.0 ∙ rounded-multiple (2 ^ (f x).exponent) n (pow_pos (f x).exponent),
  row-multiples f
      ((f x).start + (f x).size) xs m h.1,
)

-- a block ends before those behind it begin
pub row-order : {X : Type 0} (f : X → Block) (n : ℕ) (xs : List X) (m : ℕ) → StandLeast n (map f xs) m → AllPairs
    (λ x y. (f x).start + (f x).size ≤ (f y).start) xs
row-order f n [] m h = λ i j d before within. absurd (omega arith)
row-order f n (x ∷ xs) m h =
    pairs_cons (λ x y. (f x).start + (f x).size ≤ (f y).start) x xs
    (All-from_recursion (λ y. (f x).start + (f x).size ≤ (f y).start) xs
    (row-begins f ((f x).start + (f x).size) ((f x).start + (f x).size) xs m (omega arith) h.1))
    (row-order f ((f x).start + (f x).size) xs m h.1)

-- one block more
pub row-push : (n : ℕ) (bs : List Block) (m : ℕ) (b : Block) → StandLeast n bs m → b.start ≡ rounded_up (2 ^ b.exponent) m → StandLeast n
    (bs ++ b ∷ []) (b.start + b.size)
row-push n [] m b h least = (least ∙ ap (rounded_up (2 ^ b.exponent)) (sym h), refl)
row-push n (x ∷ bs) m b h least = (h.0, row-push (x.start + x.size) bs m b h.1 least)

-- a row behind a row
pub row-append : (n : ℕ) (bs cs : List Block) (m k : ℕ) → StandLeast n bs m → StandLeast m cs k → StandLeast n (bs ++ cs) k
row-append n [] cs m k h next = subst (λ (i : ℕ). StandLeast i cs k) (sym h) next
row-append n (x ∷ bs) cs m k h next = (h.0, row-append (x.start + x.size) bs cs m k h.1 next)

-- a block moved by so many places
abbrev pub moved : ℕ → Block → Block
moved s b = record { start = s + b.start; size = b.size; exponent = b.exponent }

-- a row behind a multiple of its greatest alignment
pub row-moves : (s e n : ℕ) (bs : List Block) (m : ℕ) → s % 2 ^ e ≡ 0 → AllByRecursion (λ b. b.exponent ≤ e) bs → StandLeast n bs m
    → StandLeast (s + n) (map (moved s) bs) (s + m)
row-moves s e n [] m whole small h = ap (λ (i : ℕ). s + i) h
row-moves s e n (b ∷ bs) m whole small h =
    let k : ℕ = 2 ^ b.exponent in
    let at : s + b.start ≡ rounded_up (2 ^ b.exponent) (s + n)
    = ap (λ (i : ℕ). s + i) h.0 ∙ sym (rounded-shift (2 ^ b.exponent) s n (pow_pos b.exponent)
    (multiple-weaker b.exponent e s small.0 whole)) in
    let rest = row-moves s e (b.start + b.size) bs m whole small.1 h.1 in
    (at, subst (λ (i : ℕ). StandLeast i (map (moved s) bs) (s + m)) (omega arith) rest)

-- a row is no longer than what its blocks cost
pub row-within : {X : Type 0} (f : X → Block) (n : ℕ) (xs : List X) (m : ℕ) → StandLeast n (map f xs) m → m ≤ n + sum_by
    (λ x. block_cost (f x).size (f x).exponent) xs
row-within f n [] m h = omega arith
row-within f n (x ∷ xs) m h =
    omega (
      arith,
      h.0,
      rounded-near (2 ^ (f x).exponent) n (pow_pos (f x).exponent),
      row-within f
          ((f x).start + (f x).size) xs m h.1,
      sum_by-cons (λ y. block_cost (f y).size (f y).exponent) x xs,
    )
