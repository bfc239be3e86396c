-- Sums over the parts of a list that are told apart by keys.
--
-- What passes the test of one key and what passes that of another are apart; so the sums over both are at most the sum over what
-- passes a test that each of them implies.
use Rattle.std.proofs.Common.{◌≡◌, ℕ, ◌+◌, ◌≤◌, ◌&&◌, not, Bool, true, false, cond, List, [], ◌∷◌, map, filter, refl, sym, ap, ◌∙◌, arith}
use Rattle.std.specs.Prelude.{Contains, sum_by}
use Rattle.std.proofs.lemmas.List.Sums.{sum_by-cons}
use Rattle.macho_bytes.proofs.Members.{all_contains, contains_first, contains_later}
use Rattle.macho_bytes.proofs.Orders.{EachLater}
use Rattle.macho_bytes.proofs.Bools.{and_left, and_right}

-- sums over maps and parts
pub sum_map : {X Y : Type 0} (g : Y → ℕ) (f : X → Y) (xs : List X) → sum_by g (map f xs) ≡ sum_by (λ x. g (f x)) xs
sum_map g f [] = refl
sum_map g f (x ∷ xs) = sum_by-cons g (f x) (map f xs) ∙ ap (λ (n : ℕ). g (f x) + n) (sum_map g f xs) ∙ sym (sum_by-cons (λ y. g (f y)) x xs)

-- what passes one of two tests, or a third where they exclude each other
split_sum : {X : Type 0} (cost : X → ℕ) (one rest all : X → Bool) (xs : List X) → ((x : X) → one x ≡ true → all x ≡ true)
    → ((x : X) → rest x ≡ true → (all x ≡ true) × (one x ≡ false))
    → sum_by cost (filter one xs) + sum_by cost (filter rest xs) ≤ sum_by cost (filter all xs)
split_sum cost one rest all [] both other = omega arith
split_sum {X = X} cost one rest all (x ∷ xs) both other =
    by (one x) (rest x) (all x) (both x) (other x) (split_sum cost one rest all xs both other)
  where
    kept : (b : Bool) (ys : List X) → sum_by cost (cond b (x ∷ ys) ys) ≡ cond b (cost x) 0 + sum_by cost ys
    kept true ys = sum_by-cons cost x ys
    kept false ys = omega arith

    by : (a b c : Bool) → (a ≡ true → c ≡ true) → (b ≡ true → (c ≡ true) × (a ≡ false))
        → sum_by cost (filter one xs) + sum_by cost (filter rest xs) ≤ sum_by cost (filter all xs)
        → sum_by cost (cond a (x ∷ filter one xs) (filter one xs)) + sum_by cost (cond b (x ∷ filter rest xs) (filter rest xs))
        ≤ sum_by cost (cond c (x ∷ filter all xs) (filter all xs))
    by a b c p q ih =
        omega (arith, kept a (filter one xs), kept b (filter rest xs), kept c (filter all xs), ih, weigh a b c p q)
      where
        weigh : (a b c : Bool) → (a ≡ true → c ≡ true) → (b ≡ true → (c ≡ true) × (a ≡ false))
            → cond a (cost x) 0 + cond b (cost x) 0 ≤ cond c (cost x) 0
        weigh true true c p q = let clash = (q refl).1 in cc
        weigh true false c p q = rw (p refl) (omega arith)
        weigh false true c p q = rw ((q refl).0) (omega arith)
        weigh false false c p q = omega arith

-- parts that are told apart by keys
pub parts_sum : {X K : Type 0} (cost : X → ℕ) (same : X → K → Bool) (keys : List K) (xs : List X) (all : X → Bool)
    → EachLater (λ j k. (x : X) → same x j ≡ true → same x k ≡ true → ⊥) keys
    → ((k : K) (x : X) → Contains keys k → same x k ≡ true → all x ≡ true)
    → sum_by (λ k. sum_by cost (filter (λ x. same x k) xs)) keys ≤ sum_by cost (filter all xs)
parts_sum cost same [] xs all apart each = omega arith
parts_sum {X = X} {K = K} cost same (k ∷ keys) xs all apart each =
    let rest : X → Bool = λ x. all x && not (same x k) in
    let later = parts_sum cost same keys xs rest apart.1
    (λ j x has is. left j x has is (each j x (contains_later k keys j has) is)) in
    let split = split_sum cost (λ x. same x k) rest all xs (λ x is. each k x (contains_first k keys) is)
    (λ x is. (and_left _ _ is, not_it (same x k) (and_right (all x) _ is))) in
    omega (arith, later, split, sum_by-cons (λ j. sum_by cost (filter (λ x. same x j) xs)) k keys)
  where
    not_it : (b : Bool) → not b ≡ true → b ≡ false
    not_it true e = cc
    not_it false e = refl

    left : (j : K) (x : X) → Contains keys j → same x j ≡ true → all x ≡ true → (all x && not (same x k)) ≡ true
    left j x has is in_all = by (same x k) refl
      where
        by : (b : Bool) → same x k ≡ b → (all x && not (same x k)) ≡ true
        by true e = absurd (all_contains (λ (i : K). (y : X) → same y k ≡ true → same y i ≡ true → ⊥) keys j apart.0 has x e is)
        by false e = rw (in_all, e) refl
