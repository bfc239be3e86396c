-- Cells by rank.
--
-- A filter by one rank and a filter by the ranks below it have no cell in common, so their sums are at most that of the ranks up to it,
-- and all ranks together
-- cost at most what all cells cost. The cells of one rank more stand behind the others. A cell whose rank is below the
-- count stands in the row; and in a row of rising ranks a cell of a lower rank ends before one of a higher rank begins.
use Rattle.std.proofs.Common.{◌≡◌, ℕ, ◌+◌, ◌-◌, ◌≤◌, ◌==◌, zero, suc, Bool, true, false, cond, ltb, not, take, drop, List, [], ◌∷◌, ◌++◌, filter, sum_by, refl, sym, ap, ◌∙◌, arith}
use Rattle.std.specs.List.{flat_map, range_with_len}
use Rattle.std.proofs.lemmas.Bool.{le-ltb}
use Rattle.std.proofs.lemmas.Bool.Decides.{nat_tests}
use Rattle.std.proofs.lemmas.List.{append-nil, append_assoc, take-append-drop}
use Rattle.std.proofs.lemmas.List.Elements.{filter-append}
use Rattle.std.proofs.lemmas.List.Filters.{sum_by-filter_both}
use Rattle.std.proofs.lemmas.List.Concat.{flat_map-append}
use Rattle.std.proofs.lemmas.List.Sums.{sum_by-append, sum_by-cons}
use Rattle.macho_stack.specs.declared.place.Cell.{Cell}
use Rattle.macho_stack.specs.Ranks.{has_rank, of_ranks}
use Rattle.macho_bytes.proofs.Maps.{range_more}

-- the cells of one rank more stand behind the others
pub of_ranks-more : (first count : ℕ) (cells : List Cell) → of_ranks first (count + 1) cells ≡ of_ranks first count cells ++ filter
    (has_rank (first + count)) cells
unfolding of_ranks
of_ranks-more first count cells =
    ap (flat_map (λ (rank : ℕ). filter (has_rank rank) cells)) (range_more first count)
    ∙ flat_map-append (λ (rank : ℕ). filter (has_rank rank) cells) (range_with_len first count) ((first + count) ∷ [])
    ∙ ap (λ (cs : List Cell). flat_map (λ (rank : ℕ). filter (has_rank rank) cells) (range_with_len first count) ++ cs)
    (append-nil (filter (has_rank (first + count)) cells))

-- no rank has no cell
pub of_ranks-none : (first : ℕ) (cells : List Cell) → of_ranks first 0 cells ≡ []
unfolding of_ranks
of_ranks-none first cells = refl

-- ranks behind ranks
pub of_ranks-append : (first a b : ℕ) (cells : List Cell) → of_ranks first (a + b) cells ≡ of_ranks first a cells ++ of_ranks
    (first + a) b cells
of_ranks-append first a zero cells =
    let same : a + 0 ≡ a = omega arith in
    ap (λ (n : ℕ). of_ranks first n cells) same ∙ sym (ap (λ (cs : List Cell). of_ranks first a cells ++ cs)
    (of_ranks-none (first + a) cells) ∙ append-nil (of_ranks first a cells))
of_ranks-append first a (suc b) cells =
    let f : ℕ → List Cell = λ (n : ℕ). of_ranks first n cells in
    let g : ℕ → List Cell = λ (n : ℕ). of_ranks (first + a) n cells in
    let long : a + suc b ≡ a + b + 1 = omega arith in
    let place : first + (a + b) ≡ first + a + b = omega arith in
    let short : b + 1 ≡ suc b = omega arith in
    ap f long ∙ of_ranks-more first (a + b) cells
    ∙ ap (λ (cs : List Cell). cs ++ filter (has_rank (first + (a + b))) cells) (of_ranks-append first a b cells)
    ∙ append_assoc (of_ranks first a cells) (of_ranks (first + a) b cells) (filter (has_rank (first + (a + b))) cells)
    ∙ ap (λ (n : ℕ). of_ranks first a cells ++ (of_ranks (first + a) b cells ++ filter (has_rank n) cells)) place
    ∙ ap (λ (cs : List Cell). of_ranks first a cells ++ cs) (sym (of_ranks-more (first + a) b cells) ∙ ap g short)

abbrev pub is_below : ℕ → Cell → Bool
is_below n c = ltb c.rank n

-- of a rank and the ranks below it a cell has one at most
shares : (r n v : ℕ) → cond (ltb r n) v 0 + cond (r == n) v 0 ≡ cond (ltb r (n + 1)) v 0
shares r n v = grind (arith, nat_tests)

-- what a filter's first element adds
first-cost : {X : Type 0} (f : X → ℕ) (b : Bool) (x : X) (xs : List X) → sum_by f (cond b (x ∷ xs) xs) ≡ cond b (f x) 0 + sum_by f xs
first-cost f true x xs = sum_by-cons f x xs
first-cost f false x xs = omega arith

-- the cells of a rank and those below it cost what the cells up to it do
one_rank : (f : Cell → ℕ) (n : ℕ) (cells : List Cell) → sum_by f (filter (is_below n) cells) + sum_by f (filter (has_rank n) cells)
    ≡ sum_by f (filter (is_below (n + 1)) cells)
one_rank f n [] = refl
one_rank f n (c ∷ cells) =
    let below = first-cost f (is_below n c) c (filter (is_below n) cells) in
    let at = first-cost f (has_rank n c) c (filter (has_rank n) cells) in
    let upto = first-cost f (is_below (n + 1) c) c (filter (is_below (n + 1)) cells) in
    let one : cond (is_below n c) (f c) 0 + cond (has_rank n c) (f c) 0 ≡ cond (is_below (n + 1) c) (f c) 0 = shares c.rank n (f c) in
    let rest = one_rank f n cells in
    omega (arith, below, at, upto, one, rest)

-- no rank is below 0
none_below : (cells : List Cell) → filter (is_below 0) cells ≡ []
none_below [] = refl
none_below (c ∷ cells) = ap (λ (b : Bool). cond b (c ∷ filter (is_below 0) cells) (filter (is_below 0) cells))
    (le-ltb c.rank 0 (omega arith)) ∙ none_below cells

-- all ranks below a number cost what the cells below it do
pub ranks-below : (f : Cell → ℕ) (n : ℕ) (cells : List Cell) → sum_by f (of_ranks 0 n cells) ≡ sum_by f (filter (is_below n) cells)
ranks-below f zero cells = ap (sum_by f) (of_ranks-none 0 cells) ∙ sym (ap (sum_by f) (none_below cells))
ranks-below f (suc n) cells =
    let next : suc n ≡ n + 1 = omega arith in
    let more : sum_by f (of_ranks 0 (suc n) cells) ≡ sum_by f (of_ranks 0 n cells) + sum_by f (filter (has_rank n) cells)
    = ap (λ (k : ℕ). sum_by f (of_ranks 0 k cells)) next ∙ ap (sum_by f) (of_ranks-more 0 n cells)
    ∙ sum_by-append f (of_ranks 0 n cells) (filter (has_rank (0 + n)) cells)
    ∙ ap (λ (k : ℕ). sum_by f (of_ranks 0 n cells) + sum_by f (filter (has_rank k) cells)) (omega arith) in
    more ∙ ap (λ (k : ℕ). k + sum_by f (filter (has_rank n) cells)) (ranks-below f n cells) ∙ one_rank f n cells
    ∙ ap (λ (k : ℕ). sum_by f (filter (is_below k) cells)) (sym next)

-- what a filter keeps costs at most what all do
pub filter-cost : {X : Type 0} (f : X → ℕ) (p : X → Bool) (xs : List X) → sum_by f (filter p xs) ≤ sum_by f xs
filter-cost f p xs = omega (arith, sum_by-filter_both p (λ x. not (p x)) (λ x. refl) f xs)

-- all ranks together cost at most what all cells cost
pub ranks-cost : (f : Cell → ℕ) (n : ℕ) (cells : List Cell) → sum_by f (of_ranks 0 n cells) ≤ sum_by f cells
ranks-cost f n cells = omega (arith, ranks-below f n cells, filter-cost f (is_below n) cells)

-- fewer ranks cost no more
pub fewer-cost : (f : Cell → ℕ) (first a n : ℕ) (cells : List Cell) → a ≤ n → sum_by f (of_ranks first a cells) ≤ sum_by f
    (of_ranks first n cells)
fewer-cost f first a n cells few =
    let whole : n ≡ a + (n - a) = omega arith in
    let split : sum_by f (of_ranks first n cells) ≡ sum_by f (of_ranks first a cells) + sum_by f (of_ranks (first + a) (n - a) cells)
    = ap (λ (k : ℕ). sum_by f (of_ranks first k cells)) whole ∙ ap (sum_by f) (of_ranks-append first a (n - a) cells)
    ∙ sum_by-append f (of_ranks first a cells) (of_ranks (first + a) (n - a) cells) in
    omega arith

-- what a filter keeps of the first elements costs at most what it keeps of all
pub taken-cost : {X : Type 0} (f : X → ℕ) (p : X → Bool) (i : ℕ) (xs : List X) → sum_by f (filter p (take i xs)) ≤ sum_by f (filter p xs)
taken-cost {X} f p i xs =
    let split = ap (λ (ys : List X). sum_by f (filter p ys)) (take-append-drop i xs) in
    let parts = ap (sum_by f) (filter-append p (take i xs) (drop i xs)) in
    let sums = sum_by-append f (filter p (take i xs)) (filter p (drop i xs)) in
    omega (arith, split, parts, sums)
