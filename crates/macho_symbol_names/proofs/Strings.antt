-- Ends of strings. A string ends at the first NUL from its place on. So all places up to that one, and it, have one end;
-- and a string that has no NUL in a block ends where the one does that begins at the next.
use Rattle.std.proofs.Common.{◌≡◌, ℕ, ◌+◌, ◌-◌, ◌<◌, ◌≤◌, ◌==◌, true, false, List, length, get_or, drop, take, slice_range, ap, sym, ◌∙◌, inl, inr, ◌⊎◌, arith}
use Rattle.std.specs.List.{position_or_len}
use Rattle.std.proofs.lemmas.Bool.{cases_lt}
use Rattle.std.proofs.lemmas.List.{get_or-take, get_or-drop, length-take, length-drop, take_all}
use Rattle.std.proofs.lemmas.List.Sums.{position_or_len_is, passes_at_first, fails_before_first}
use Rattle.macho_bytes.specs.Texts.{name_of}
use Rattle.macho_symbol_names.specs.Notes.{end_at}

abbrev long : List ℕ → ℕ
long xs = length (name_of xs)

-- the length of a string, and what stands before its end and there
long_is : (xs : List ℕ) (i : ℕ) → i ≤ length xs → ((k : ℕ) → k < i → (get_or xs k 0 == 0) ≡ false)
    → (i < length xs → (get_or xs i 0 == 0) ≡ true) → long xs ≡ i
long_is xs i within before at =
    let first : position_or_len (λ b. b == 0) xs ≡ i = position_or_len_is (λ b. b == 0) xs i 0 within before at in
    omega (arith, first, length-take (position_or_len (λ b. b == 0) xs) xs)

long_within : (xs : List ℕ) → long xs ≤ length xs
long_within xs = omega (arith, length-take (position_or_len (λ b. b == 0) xs) xs)

before_end : (xs : List ℕ) (k : ℕ) → k < long xs → (get_or xs k 0 == 0) ≡ false
before_end xs k h = fails_before_first (λ b. b == 0) xs k 0 (omega (arith, h, length-take (position_or_len (λ b. b == 0) xs) xs))

at_end : (xs : List ℕ) → long xs < length xs → (get_or xs (long xs) 0 == 0) ≡ true
at_end xs h =
    let first : long xs ≡ position_or_len (λ b. b == 0) xs = omega (arith, h, length-take (position_or_len (λ b. b == 0) xs) xs) in
    ap (λ k. get_or xs k 0 == 0) first
    ∙ passes_at_first (λ b. b == 0) xs 0 (omega (arith, h, first))

-- a byte behind two places
behind : (xs : List ℕ) (a b i j : ℕ) → a + i ≡ b + j → get_or (drop a xs) i 0 ≡ get_or (drop b xs) j 0
behind xs a b i j same = get_or-drop a xs i 0 ∙ ap (λ k. get_or xs k 0) same ∙ sym (get_or-drop b xs j 0)

-- all places up to an end have that end
pub later : (xs : List ℕ) (a b : ℕ) → a ≤ b → b ≤ end_at xs a → b ≤ length xs → end_at xs b ≡ end_at xs a
unfolding end_at
later xs a b after before within =
    let e = long (drop a xs) in
    let inside = long_within (drop a xs) in
    let is : long (drop b xs) ≡ a + e - b =
    long_is (drop b xs) (a + e - b) (omega (arith, inside, length-drop a xs, length-drop b xs))
    (λ k h. ap (λ x. x == 0) (behind xs b a k (b - a + k) (omega arith)) ∙ before_end (drop a xs) (b - a + k) (omega (arith, h)))
    (λ h. ap (λ x. x == 0) (behind xs b a (a + e - b) e (omega arith))
    ∙ at_end (drop a xs) (omega (arith, h, length-drop a xs, length-drop b xs))) in
    omega (arith, is)

-- a string that ends in a block
pub ends_inside : (xs : List ℕ) (a b : ℕ) → a ≤ b → b ≤ length xs → a + long (slice_range xs a b) < b
    → end_at xs a ≡ a + long (slice_range xs a b)
unfolding end_at
ends_inside xs a b after within ends =
    let w = long (slice_range xs a b) in
    let size : length (slice_range xs a b) ≡ b - a = omega (arith, length-take (b - a) (drop a xs), length-drop a xs) in
    let is : long (drop a xs) ≡ w = long_is (drop a xs) w (omega (arith, length-drop a xs))
    (λ k h. ap (λ x. x == 0) (sym (get_or-take (b - a) (drop a xs) k 0 (omega (arith, h, ends)))) ∙ before_end (slice_range xs a b) k h)
    (λ h. ap (λ x. x == 0) (sym (get_or-take (b - a) (drop a xs) w 0 (omega (arith, ends))))
    ∙ at_end (slice_range xs a b) (omega (arith, ends, size))) in
    ap (λ n. a + n) is

-- one that doesn't goes on in the next
pub ends_behind : (xs : List ℕ) (a b : ℕ) → a ≤ b → b ≤ length xs → b ≤ a + long (slice_range xs a b) → end_at xs a ≡ end_at xs b
unfolding end_at
ends_behind xs a b after within goes_on =
    let e = long (drop b xs) in
    let inside = long_within (drop b xs) in
    let is : long (drop a xs) ≡ b - a + e =
    long_is (drop a xs) (b - a + e) (omega (arith, inside, length-drop a xs, length-drop b xs))
    (λ k h. before k h (cases_lt k (b - a)))
    (λ h. ap (λ x. x == 0) (behind xs a b (b - a + e) e (omega arith))
    ∙ at_end (drop b xs) (omega (arith, h, length-drop a xs, length-drop b xs))) in
    omega (arith, is)
  where
    before : (k : ℕ) → k < b - a + long (drop b xs) → (k < b - a) ⊎ (b - a ≤ k) → (get_or (drop a xs) k 0 == 0) ≡ false
    before k h (inl less) = ap (λ x. x == 0) (sym (get_or-take (b - a) (drop a xs) k 0 less))
        ∙ before_end (slice_range xs a b) k (omega (arith, less, goes_on))
    before k h (inr more) = ap (λ x. x == 0) (behind xs a b k (k - (b - a)) (omega (arith, more)))
        ∙ before_end (drop b xs) (k - (b - a)) (omega (arith, h, more))

-- an end is in the table, behind its place
pub end_within : (xs : List ℕ) (a : ℕ) → a ≤ length xs → end_at xs a ≤ length xs
unfolding end_at
end_within xs a within = omega (arith, long_within (drop a xs), length-drop a xs)

pub end_from : (xs : List ℕ) (a : ℕ) → a ≤ end_at xs a
unfolding end_at
end_from xs a = omega arith

-- a string stands from its place to its end
pub string_stands : (xs : List ℕ) (a n : ℕ) → n ≡ end_at xs a - a → slice_range xs a (a + n) ≡ name_of (drop a xs)
unfolding end_at
string_stands xs a n is =
    let size : a + n - a ≡ long (drop a xs) = omega (arith, is) in
    ap (λ k. take k (drop a xs)) size ∙ front (drop a xs) (cases_lt (position_or_len (λ b. b == 0) (drop a xs)) (length (drop a xs)))
  where
    front : (ys : List ℕ) → (position_or_len (λ b. b == 0) ys < length ys) ⊎ (length ys ≤ position_or_len (λ b. b == 0) ys)
        → take (long ys) ys ≡ name_of ys
    front ys (inl less) = ap (λ k. take k ys) (omega (arith, less, length-take (position_or_len (λ b. b == 0) ys) ys))
    front ys (inr more) = take_all (long ys) ys (omega (arith, more, length-take (position_or_len (λ b. b == 0) ys) ys))
        ∙ sym (take_all (position_or_len (λ b. b == 0) ys) ys more)
