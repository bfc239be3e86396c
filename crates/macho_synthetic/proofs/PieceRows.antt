-- Pieces in a row: each begins at the least multiple of its alignment behind the one before.
--
-- A piece that begins so stands at most its alignment less 1 behind that end. So a row of pieces ends, from the end in front of it on,
-- within the sum of their sizes and of what their alignments may cost. The piece around them has at most that size, and its alignment
-- costs at most what theirs do together.
use Rattle.std.proofs.Common.{◌≡◌, ℕ, suc, ◌+◌, ◌*◌, ◌-◌, ◌^◌, ◌<◌, ◌≤◌, ◌⊎◌, inl, inr, max, List, [], ◌∷◌, ◌++◌, map, get_or, refl, sym, ap, subst, ◌∙◌, arith}
use Rattle.std.specs.Prelude.{Contains, sum_by, fold, min}
use Rattle.std.proofs.lemmas.Bool.{cases_lt}
use Rattle.std.proofs.lemmas.List.{map-append, get_or_append_left, length-append}
use Rattle.std.proofs.lemmas.List.Sums.{sum_by-cons}
use Rattle.std.proofs.lemmas.Nat.{pow_pos}
use Rattle.std.proofs.Math.Nat.{mod-lt}
use Rattle.macho_bytes.specs.Numbers.{rounded_up}
use Rattle.macho_bytes.proofs.Members.{contains_cases, contains_first, contains_later, nil_contains, map_contains, contains_map}
use Rattle.macho_model.specs.Lists.{EachNext}
use Rattle.macho_model.specs.Links.{greatest}
use Rattle.macho_model.specs.OutputSections.{least, around}
use Rattle.macho_model.specs.Placement.{Piece, end_of_piece}
use Rattle.macho_model.specs.Order.{BeginsLeast}
use Rattle.macho_image_laws.proofs.TemplateRange.{greatest_above}
use Rattle.macho_bytes.proofs.Rounding.{rounded-above, rounded-near}

pub power_some : (e : ℕ) → 0 < 2 ^ e
power_some e = pow_pos e

-- what a piece may take, with its alignment
abbrev pub cost_of : Piece → ℕ
cost_of d = d.size + (2 ^ d.exponent - 1)

-- pieces one behind the other, by recursion
abbrev pub Row : Piece → List Piece → Type 0
Row c [] = Unit {0}
Row c (d ∷ ds) = BeginsLeast c d × Row d ds

pub row_by_next : (c : Piece) (ds : List Piece) → EachNext BeginsLeast (c ∷ ds) → Row c ds
row_by_next c [] next = tt
row_by_next c (d ∷ ds) next = (
  next 0 c d (omega arith, refl) (omega arith, refl),
  row_by_next d ds (λ k x y at_x at_y.
      let more : suc k + 1 ≡ suc (k + 1) = omega arith in
      next (suc k) x y (omega (arith, at_x.0), at_x.1)
      (omega (arith, at_y.0), ap (λ (n : ℕ). get_or (c ∷ d ∷ ds) n y) more ∙ at_y.1)),
)

-- the front of a row
pub next_front : (xs ys : List Piece) → EachNext BeginsLeast (xs ++ ys) → EachNext BeginsLeast xs
next_front xs ys next = λ k x y at_x at_y.
    next k x y (omega (arith, at_x.0, length-append xs ys), get_or_append_left xs ys x k at_x.0 ∙ at_x.1)
    (omega (arith, at_y.0, length-append xs ys), get_or_append_left xs ys y (k + 1) at_y.0 ∙ at_y.1)

pub mapped_front : {X : Type 0} (c : Piece) (f : X → Piece) (xs ys : List X) → EachNext BeginsLeast (c ∷ map f (xs ++ ys))
    → EachNext BeginsLeast (c ∷ map f xs)
mapped_front c f xs ys next =
    next_front (c ∷ map f xs) (map f ys) (subst (λ (ps : List Piece). EachNext BeginsLeast (c ∷ ps)) (map-append f xs ys) next)

-- THE bounds of a row
pub row_bounds : (c : Piece) (ds : List Piece) (d : Piece) → Row c ds → Contains ds d
    → (end_of_piece c ≤ d.start) × (end_of_piece d ≤ end_of_piece c + sum_by cost_of ds)
row_bounds c [] d row has = absurd (nil_contains d has)
row_bounds c (x ∷ ds) d row has = by (contains_cases x ds d has) (λ later. row_bounds x ds d row.1 later)
  where
    from : end_of_piece c ≤ x.start
    from = omega (arith, row.0, rounded-above (2 ^ x.exponent) (end_of_piece c) (power_some x.exponent))

    to : x.start ≤ end_of_piece c + (2 ^ x.exponent - 1)
    to = omega (arith, row.0, rounded-near (2 ^ x.exponent) (end_of_piece c) (power_some x.exponent))

    sum : sum_by cost_of (x ∷ ds) ≡ cost_of x + sum_by cost_of ds
    sum = sum_by-cons cost_of x ds

    by : (x ≡ d) ⊎ Contains ds d → (Contains ds d → (end_of_piece x ≤ d.start) × (end_of_piece d ≤ end_of_piece x + sum_by cost_of ds))
        → (end_of_piece c ≤ d.start) × (end_of_piece d ≤ end_of_piece c + sum_by cost_of (x ∷ ds))
    by (inl same) again =
        subst (λ (y : Piece). (end_of_piece c ≤ y.start) × (end_of_piece y ≤ end_of_piece c + sum_by cost_of (x ∷ ds))) same
        (from, omega (arith, to, sum))
    by (inr later) again =
        let rest = again later in
        (omega (arith, from, rest.0), omega (arith, to, sum, rest.1))

pub greatest_to : (ns : List ℕ) (b : ℕ) → ((n : ℕ) → Contains ns n → n ≤ b) → greatest ns ≤ b
greatest_to [] b each = omega arith
greatest_to (m ∷ ns) b each =
    omega (arith, each m (contains_first m ns), greatest_to ns b (λ n has. each n (contains_later m ns n has)))

folded_below : (a : ℕ) (ns : List ℕ) (n : ℕ) → (n ≡ a) ⊎ Contains ns n → fold min a ns ≤ n
folded_below a [] n (inl same) = omega (arith, same)
folded_below a [] n (inr has) = absurd (nil_contains n has)
folded_below a (m ∷ ns) n (inl same) =
    let rest = folded_below (min a m) ns (min a m) (inl refl) in omega (arith, rest, same)
folded_below a (m ∷ ns) n (inr has) = elim (contains_cases m ns n has) [
  | inl same ↦ let rest = folded_below (min a m) ns (min a m) (inl refl) in omega (arith, rest, same)
  | inr later ↦ folded_below (min a m) ns n (inr later)
]

folded_from : (a : ℕ) (ns : List ℕ) (b : ℕ) → b ≤ a → ((n : ℕ) → Contains ns n → b ≤ n) → b ≤ fold min a ns
folded_from a [] b low each = low
folded_from a (m ∷ ns) b low each =
    folded_from (min a m) ns b (omega (arith, low, each m (contains_first m ns))) (λ n has. each n (contains_later m ns n has))

pub least_below : (ns : List ℕ) (n : ℕ) → Contains ns n → least ns ≤ n
least_below [] n has = absurd (nil_contains n has)
least_below (m ∷ ns) n has = by (contains_cases m ns n has)
  where
    by : (m ≡ n) ⊎ Contains ns n → fold min m ns ≤ n
    by (inl same) = folded_below m ns n (inl (sym same))
    by (inr later) = folded_below m ns n (inr later)

pub least_from : (m : ℕ) (ns : List ℕ) (b : ℕ) → ((n : ℕ) → Contains (m ∷ ns) n → b ≤ n) → b ≤ least (m ∷ ns)
least_from m ns b each = folded_from m ns b (each m (contains_first m ns)) (λ n has. each n (contains_later m ns n has))

-- the greatest alignment costs at most what all do
abbrev pub align_cost : Piece → ℕ
align_cost d = 2 ^ d.exponent - 1

greater : (a b x y : ℕ) → 2 ^ a ≤ x → 2 ^ b ≤ y → 2 ^ max a b ≤ x + y
greater a b x y ax by = elim (cases_lt a b) [
  | inl less ↦ let is : max a b ≡ b = omega (arith, less) in omega (arith, ap (λ (n : ℕ). 2 ^ n) is, by)
  | inr le ↦ let is : max a b ≡ a = omega (arith, le) in omega (arith, ap (λ (n : ℕ). 2 ^ n) is, ax)
]

pub greatest_cost : (ds : List Piece) → 2 ^ greatest (map (λ c. c.exponent) ds) ≤ 1 + sum_by align_cost ds
greatest_cost [] = omega arith
greatest_cost (d ∷ ds) =
    let some = power_some d.exponent in
    let rest = greatest_cost ds in
    let more = power_some (greatest (map (λ c. c.exponent) ds)) in
    let whole : 2 ^ max d.exponent (greatest (map (λ c. c.exponent) ds)) ≤ 1 + (align_cost d + sum_by align_cost ds) =
    either d.exponent (greatest (map (λ c. c.exponent) ds)) (sum_by align_cost ds) some rest in
    omega (arith, whole, sum_by-cons align_cost d ds)
  where
    either : (a b s : ℕ) → 0 < 2 ^ a → 2 ^ b ≤ 1 + s → 2 ^ max a b ≤ 1 + ((2 ^ a - 1) + s)
    either a b s some rest = elim (cases_lt a b) [
      | inl less ↦ let is : max a b ≡ b = omega (arith, less) in omega (arith, ap (λ (n : ℕ). 2 ^ n) is, rest)
      | inr le ↦ let is : max a b ≡ a = omega (arith, le) in omega (arith, ap (λ (n : ℕ). 2 ^ n) is, some)
    ]

-- a piece with all that its alignment may cost: in front of it, and in front of the piece around
abbrev pub full_cost : Piece → ℕ
full_cost d = d.size + 2 * (2 ^ d.exponent - 1)

costs_join : (ds : List Piece) → sum_by cost_of ds + sum_by align_cost ds ≡ sum_by full_cost ds
costs_join [] = refl
costs_join (d ∷ ds) =
    omega (arith, costs_join ds, sum_by-cons cost_of d ds, sum_by-cons align_cost d ds, sum_by-cons full_cost d ds)

-- THE piece around pieces in a row
pub around_cost : (ds : List Piece) → EachNext BeginsLeast ds → cost_of (around ds) ≤ sum_by full_cost ds
around_cost [] next = omega arith
around_cost (c ∷ ds) next =
    omega (arith, size, greatest_cost (c ∷ ds), power_some (greatest (map (λ d. d.exponent) (c ∷ ds))), costs_join (c ∷ ds))
  where
    row : Row c ds
    row = row_by_next c ds next

    sum : sum_by cost_of (c ∷ ds) ≡ cost_of c + sum_by cost_of ds
    sum = sum_by-cons cost_of c ds

    bounds : (d : Piece) → Contains (c ∷ ds) d → (c.start ≤ d.start) × (end_of_piece d ≤ c.start + sum_by cost_of (c ∷ ds))
    bounds d has = by (contains_cases c ds d has)
      where
        by : (c ≡ d) ⊎ Contains ds d → (c.start ≤ d.start) × (end_of_piece d ≤ c.start + sum_by cost_of (c ∷ ds))
        by (inl same) = subst (λ (x : Piece). (c.start ≤ x.start) × (end_of_piece x ≤ c.start + sum_by cost_of (c ∷ ds))) same
            (omega arith, omega (arith, sum))
        by (inr later) = let at = row_bounds c ds d row later in (omega (arith, at.0), omega (arith, at.1, sum))

    ends : greatest (map end_of_piece (c ∷ ds)) ≤ c.start + sum_by cost_of (c ∷ ds)
    ends = greatest_to (map end_of_piece (c ∷ ds)) (c.start + sum_by cost_of (c ∷ ds)) (λ n has.
        let made = map_contains end_of_piece (c ∷ ds) n has in omega (arith, made.2, (bounds made.0 made.1).1))

    starts : c.start ≤ least (map (λ d. d.start) (c ∷ ds))
    starts = least_from c.start (map (λ d. d.start) ds) c.start (λ n has.
        let made = map_contains (λ (d : Piece). d.start) (c ∷ ds) n has in omega (arith, made.2, (bounds made.0 made.1).0))

    size : greatest (map end_of_piece (c ∷ ds)) - least (map (λ d. d.start) (c ∷ ds)) ≤ sum_by cost_of (c ∷ ds)
    size = omega (arith, ends, starts)

-- a piece lies in the piece around
pub inside_around : (ds : List Piece) (d : Piece) → Contains ds d
    → ((around ds).start ≤ d.start) × (end_of_piece d ≤ end_of_piece (around ds))
inside_around ds d has =
    let low = least_below (map (λ c. c.start) ds) d.start (contains_map (λ (c : Piece). c.start) ds d has) in
    let high = greatest_above (map end_of_piece ds) (end_of_piece d) (contains_map end_of_piece ds d has) in
    (low, omega (arith, low, high))
