-- A list that is made of the numbers below one which pass a test.
--
-- One number more appends its element where it passes. So an element is that of such a number, each such number has its
-- element there, and what holds of all these elements holds of the list.
use Rattle.std.proofs.Common.{◌≡◌, ℕ, zero, suc, ◌+◌, ◌<◌, true, false, Bool, List, [], ◌∷◌, ◌++◌, map, filter, All, Contains, refl, sym, ap, subst, ◌∙◌, arith, inl, inr, ◌⊎◌, cond}
use Rattle.std.specs.List.{range_with_len}
use Rattle.std.proofs.lemmas.Bool.{cases_lt}
use Rattle.std.proofs.lemmas.List.Elements.{filter-append, Contains-append_left, Contains-append_right, Contains-append_cases, Contains-push_cases, All-weaker, All-contains_itself}
use Rattle.std.proofs.lemmas.List.{map-append}
use Rattle.macho_bytes.proofs.Maps.{range_push}
use Rattle.macho_bytes.proofs.Members.{nil_contains}

-- one element where a test holds, else none
abbrev pub one_if : {X : Type 0} → Bool → X → List X
one_if true x = x ∷ []
one_if false x = []

abbrev pub chosen : {X : Type 0} → (ℕ → X) → (ℕ → Bool) → ℕ → List X
chosen f test n = map f (filter test (range_with_len 0 n))

filtered_one : {X : Type 0} (f : ℕ → X) (test : ℕ → Bool) (n : ℕ) → map f (filter test (n ∷ [])) ≡ one_if (test n) (f n)
filtered_one f test n = elim (test n) as (λ (b : Bool). map f (cond b (n ∷ []) []) ≡ one_if b (f n)) [ true ↦ refl | false ↦ refl ]

pub chosen_more : {X : Type 0} (f : ℕ → X) (test : ℕ → Bool) (n : ℕ) → chosen f test (n + 1) ≡ chosen f test n ++ one_if (test n) (f n)
chosen_more f test n =
    ap (λ (t : List ℕ). map f (filter test t)) (range_push n) ∙ ap (map f) (filter-append test (range_with_len 0 n) (n ∷ []))
    ∙ map-append f (filter test (range_with_len 0 n)) (filter test (n ∷ []))
    ∙ ap (λ (t : List _). chosen f test n ++ t) (filtered_one f test n)

below_last : (r n : ℕ) → r < suc n → (r < n) ⊎ (r ≡ n)
below_last r n lt = elim (cases_lt r n) [ inl less ↦ inl less | inr last ↦ inr (omega arith) ]

pub chosen_member : {X : Type 0} (f : ℕ → X) (test : ℕ → Bool) (n r : ℕ) → r < n → test r ≡ true → Contains (chosen f test n) (f r)
chosen_member f test zero r lt passes = absurd (omega arith)
chosen_member f test (suc n) r lt passes =
    let next : suc n ≡ n + 1 = omega arith in
    let more : chosen f test (suc n) ≡ chosen f test n ++ one_if (test n) (f n) = ap (chosen f test) next ∙ chosen_more f test n in
    subst (λ (t : List _). Contains t (f r)) (sym more)
    (elim (below_last r n lt) [
      | inl less ↦ Contains-append_left (chosen f test n) (one_if (test n) (f n)) (f r) (chosen_member f test n r less passes)
      | inr last ↦
          Contains-append_right (chosen f test n) (one_if (test n) (f n)) (f r)
          (subst (λ (b : Bool). Contains (one_if b (f n)) (f r)) (sym (ap test (sym last) ∙ passes)) (0, omega arith, ap f (sym last)))
    ])

-- an element is that of a number that passes
pub record IsChosen {X : Type 0} (f : ℕ → X) (test : ℕ → Bool) (n : ℕ) (x : X) : Type 0 where
  pub number : ℕ
  pub below : number < n
  pub passes : test number ≡ true
  pub is : f number ≡ x

one_of : {X : Type 0} (b : Bool) (y x : X) → Contains (one_if b y) x → (b ≡ true) × (y ≡ x)
one_of true y x h = (refl, elim (Contains-push_cases [] y x h) [ inl before ↦ absurd (nil_contains x before) | inr is ↦ is ])
one_of false y x h = absurd (nil_contains x h)

pub chosen_of : {X : Type 0} (f : ℕ → X) (test : ℕ → Bool) (n : ℕ) (x : X) → Contains (chosen f test n) x → IsChosen f test n x
chosen_of f test zero x h = absurd (nil_contains x h)
chosen_of f test (suc n) x h =
    let next : suc n ≡ n + 1 = omega arith in
    let more : chosen f test (suc n) ≡ chosen f test n ++ one_if (test n) (f n) = ap (chosen f test) next ∙ chosen_more f test n in
    elim (Contains-append_cases (chosen f test n) (one_if (test n) (f n)) x (subst (λ (t : List _). Contains t x) more h)) [
      | inl before ↦
          let c = chosen_of f test n x before in record { number = c.number; below = omega (arith, c.below); passes = c.passes; is = c.is }
      | inr last ↦ let o = one_of (test n) (f n) x last in record { number = n; below = omega arith; passes = o.0; is = o.1 }
    ]

-- what holds of each such number's element
pub chosen_all : {X : Type 0} (P : X → Type 0) (f : ℕ → X) (test : ℕ → Bool) (n : ℕ) → ((r : ℕ) → r < n → test r ≡ true → P (f r))
    → All P (chosen f test n)
chosen_all P f test n each =
    All-weaker (Contains (chosen f test n)) P (λ x h. let c = chosen_of f test n x h in subst P c.is (each c.number c.below c.passes))
    (chosen f test n) (All-contains_itself (chosen f test n))
