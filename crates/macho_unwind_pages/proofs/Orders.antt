-- Numbers in an order, each once, are known by which they are.
--
-- Let a test be a strict total order. A list rises if each number comes before all behind it. Putting a number in its place
-- keeps a list rising and adds that number alone, so the numbers of a list in order rise and are the same numbers. Two
-- rising lists of the same numbers are one: their first numbers are equal, since otherwise the one that comes before the
-- other would be missing in the other list; and what follows is again two rising lists of the same numbers.
use Rattle.std.proofs.Common.{◌≡◌, ◌≢◌, ℕ, zero, suc, ◌<◌, ◌≤◌, ◌==◌, ◌||◌, Bool, true, false, nat_lt, List, [], ◌∷◌, ◌++◌, length, get_or, refl, sym, ap, subst, ◌∙◌, arith, rules, inl, inr, append_assoc}
use Rattle.std.specs.List.{AllPairs, list_any}
use Rattle.std.proofs.lemmas.Bool.{cases_Bool, eqb-true, eqb-false, eq-eqb, ne_eqb, cases_eq}
use Rattle.std.proofs.lemmas.Bool.Decides.{nat_tests}
use Rattle.macho_unwind_pages.specs.Orders.{put_in_order, in_order}
use Rattle.macho_bytes.proofs.Bools.{or_swap}

-- a test that puts numbers in an order
pub record IsStrict (before : ℕ → ℕ → Bool) : Type 0 where
  pub one_way : (x y : ℕ) → before x y ≡ true → before y x ≡ false
  pub chain : (x y z : ℕ) → before x y ≡ true → before y z ≡ true → before x z ≡ true
  pub total : (x y : ℕ) → before x y ≡ false → before y x ≡ false → x ≡ y

-- a number comes before all of a list
abbrev pub Above : (ℕ → ℕ → Bool) → ℕ → List ℕ → Type 0
Above before x [] = Unit {0}
Above before x (y ∷ ys) = (before x y ≡ true) × Above before x ys

-- each number of a list comes before all that stand behind it
abbrev pub Rises : (ℕ → ℕ → Bool) → List ℕ → Type 0
Rises before [] = Unit {0}
Rises before (x ∷ xs) = Above before x xs × Rises before xs

-- whether a number stands in a list
abbrev pub has : ℕ → List ℕ → Bool
has x xs = list_any (λ y. x == y) xs

-- the order of numbers is strict
pub nat_lt-strict : IsStrict nat_lt
nat_lt-strict = record {
  one_way = λ x y h. grind (arith, nat_tests);
  chain = λ x y z h k. grind (arith, nat_tests);
  total = λ x y h k. grind (arith, nat_tests);
}

-- what comes before a number comes before all that the number comes before
pub above_weaker : (before : ℕ → ℕ → Bool) (x y : ℕ) (zs : List ℕ) → IsStrict before → before x y ≡ true
    → Above before y zs → Above before x zs
above_weaker before x y [] s h above = tt
above_weaker before x y (z ∷ zs) s h above = (s.chain x y z h above.0, above_weaker before x y zs s h above.1)

-- what comes before itself
not_itself : (before : ℕ → ℕ → Bool) (x : ℕ) → IsStrict before → before x x ≡ true → ⊥
not_itself before x s h = let k = s.one_way x x h in absurd (cc)

absent : (before : ℕ → ℕ → Bool) (x : ℕ) (zs : List ℕ) → IsStrict before → Above before x zs → has x zs ≡ false
absent before x [] s above = refl
absent before x (z ∷ zs) s above =
    let differs : (x == z) ≡ false = ne_eqb x z (λ e. not_itself before x s (subst (λ w. before x w ≡ true) (sym e) above.0)) in
    rw differs (absent before x zs s above.1)

-- the same first number
first_same : (before : ℕ → ℕ → Bool) (x y : ℕ) (ys : List ℕ) → IsStrict before → Above before y ys → has x (y ∷ ys) ≡ true
    → before x y ≡ false
first_same before x y ys s above here =
    elim (cases_Bool (before x y)) [
      | inl h ↦
          let no = absent before x (y ∷ ys) s (h, above_weaker before x y ys s h above) in
          absurd (cc)
      | inr h ↦ h
    ]

has_first : (x : ℕ) (xs : List ℕ) → has x (x ∷ xs) ≡ true
has_first x xs = rw (eq-eqb x x refl) refl

tails_same : (before : ℕ → ℕ → Bool) (x : ℕ) (xs ys : List ℕ) → IsStrict before → Above before x xs → Above before x ys
    → ((z : ℕ) → has z (x ∷ xs) ≡ has z (x ∷ ys)) → (z : ℕ) → has z xs ≡ has z ys
tails_same before x xs ys s first second same z =
    elim (cases_eq x z) [
      | inl e ↦ subst (λ w. has w xs ≡ has w ys) e (absent before x xs s first ∙ sym (absent before x ys s second))
      | inr n ↦ rw (ne_eqb z x (λ e. n (sym e))) at (same z)
    ]

pub unique : (before : ℕ → ℕ → Bool) (xs ys : List ℕ) → IsStrict before → Rises before xs → Rises before ys
    → ((z : ℕ) → has z xs ≡ has z ys) → xs ≡ ys
unique before [] [] s first second same = refl
unique before [] (y ∷ ys) s first second same = let e = same y ∙ has_first y ys in absurd (cc)
unique before (x ∷ xs) [] s first second same = let e = sym (same x) ∙ has_first x xs in absurd (cc)
unique before (x ∷ xs) (y ∷ ys) s first second same =
    let there = first_same before x y ys s second.0 (sym (same x) ∙ has_first x xs) in
    let back = first_same before y x xs s first.0 (same y ∙ has_first y ys) in
    let head : x ≡ y = s.total x y there back in
    let above : Above before x ys = subst (λ w. Above before w ys) (sym head) second.0 in
    let same_x : (z : ℕ) → has z (x ∷ xs) ≡ has z (x ∷ ys) = subst (λ w. (z : ℕ) → has z (x ∷ xs) ≡ has z (w ∷ ys)) (sym head) same in
    ap (λ w. w ∷ xs) head ∙ ap (λ l. y ∷ l) (unique before xs ys s first.1 second.1 (tails_same before x xs ys s first.0 above same_x))

-- putting a number in its place
pub has-put : (before : ℕ → ℕ → Bool) (x z : ℕ) (ys : List ℕ) → has z (put_in_order before x ys) ≡ ((z == x) || has z ys)
unfolding put_in_order
has-put before x z [] = refl
has-put before x z (y ∷ ys) =
    elim (cases_Bool (x == y)) [
      | inl e ↦ rw e (twice (eqb-true x y e))
      | inr n ↦ rw n (elim (cases_Bool (before x y)) [
        | inl h ↦ rw h refl
        | inr h ↦ rw h (ap (λ b. (z == y) || b) (has-put before x z ys) ∙ or_swap (z == y) (z == x) (has z ys))
      ])
    ]
  where
    again : (a b : Bool) → (a || b) ≡ (a || (a || b))
    again true b = refl
    again false b = refl

    twice : x ≡ y → ((z == y) || has z ys) ≡ ((z == x) || ((z == y) || has z ys))
    twice e = subst (λ w. ((z == y) || has z ys) ≡ ((z == w) || ((z == y) || has z ys))) (sym e) (again (z == y) (has z ys))

above-put : (before : ℕ → ℕ → Bool) (w x : ℕ) (ys : List ℕ) → before w x ≡ true → Above before w ys
    → Above before w (put_in_order before x ys)
unfolding put_in_order
above-put before w x [] h above = (h, tt)
above-put before w x (y ∷ ys) h above =
    elim (cases_Bool (x == y)) [
      | inl e ↦ rw e above
      | inr n ↦ rw n (elim (cases_Bool (before x y)) [
        | inl k ↦ rw k (h, above)
        | inr k ↦ rw k (above.0, above-put before w x ys h above.1)
      ])
    ]

pub rises-put : (before : ℕ → ℕ → Bool) (x : ℕ) (ys : List ℕ) → IsStrict before → Rises before ys → Rises before (put_in_order before x ys)
unfolding put_in_order
rises-put before x [] s rises = (tt, tt)
rises-put before x (y ∷ ys) s rises =
    elim (cases_Bool (x == y)) [
      | inl e ↦ rw e rises
      | inr n ↦ rw n (elim (cases_Bool (before x y)) [
        | inl k ↦ rw k ((k, above_weaker before x y ys s k rises.0), rises)
        | inr k ↦ rw k (above-put before y x ys (other k (eqb-false x y n)) rises.0, rises-put before x ys s rises.1)
      ])
    ]
  where
    other : before x y ≡ false → (x ≡ y → ⊥) → before y x ≡ true
    other k differ = elim (cases_Bool (before y x)) [ inl h ↦ h | inr h ↦ absurd (differ (s.total x y k h)) ]

pub length-put : (before : ℕ → ℕ → Bool) (x : ℕ) (ys : List ℕ) → length ys ≤ length (put_in_order before x ys)
unfolding put_in_order
length-put before x [] = omega arith
length-put before x (y ∷ ys) =
    elim (cases_Bool (x == y)) [
      | inl e ↦ rw e (omega arith)
      | inr n ↦ rw n (elim (cases_Bool (before x y)) [
        | inl k ↦ rw k (omega arith)
        | inr k ↦ rw k (omega (arith, length-put before x ys))
      ])
    ]

-- the numbers of a list in order
pub rises-in_order : (before : ℕ → ℕ → Bool) (xs : List ℕ) → IsStrict before → Rises before (in_order before xs)
unfolding in_order
rises-in_order before [] s = tt
rises-in_order before (x ∷ xs) s = rises-put before x (in_order before xs) s (rises-in_order before xs s)

-- a list in order has the numbers of the list
pub has-in_order : (before : ℕ → ℕ → Bool) (z : ℕ) (xs : List ℕ) → has z (in_order before xs) ≡ has z xs
unfolding in_order
has-in_order before z [] = refl
has-in_order before z (x ∷ xs) = has-put before x z (in_order before xs) ∙ ap (λ b. (z == x) || b) (has-in_order before z xs)

-- a rising list with the numbers of a list is that list in order
pub in_order-unique : (before : ℕ → ℕ → Bool) (xs ys : List ℕ) → IsStrict before → Rises before ys → ((z : ℕ) → has z ys ≡ has z xs)
    → ys ≡ in_order before xs
in_order-unique before xs ys s rises same =
    unique before ys (in_order before xs) s rises (rises-in_order before xs s) (λ z. same z ∙ sym (has-in_order before z xs))

has-append : (z : ℕ) (xs : List ℕ) (x : ℕ) → has z (xs ++ x ∷ []) ≡ ((z == x) || has z xs)
has-append z [] x = refl
has-append z (y ∷ xs) x = ap (λ b. (z == y) || b) (has-append z xs x) ∙ or_swap (z == y) (z == x) (has z xs)

-- one number more at the end of the list
pub in_order-more : (before : ℕ → ℕ → Bool) (xs : List ℕ) (x : ℕ) → IsStrict before
    → in_order before (xs ++ x ∷ []) ≡ put_in_order before x (in_order before xs)
in_order-more before xs x s =
    sym (in_order-unique before (xs ++ x ∷ []) (put_in_order before x (in_order before xs)) s
    (rises-put before x (in_order before xs) s (rises-in_order before xs s))
    (λ z. has-put before x z (in_order before xs) ∙ ap (λ b. (z == x) || b) (has-in_order before z xs) ∙ sym (has-append z xs x)))

-- more numbers are no fewer in order
pub length-in_order : (before : ℕ → ℕ → Bool) (xs zs : List ℕ) → IsStrict before
    → length (in_order before xs) ≤ length (in_order before (xs ++ zs))
length-in_order before xs [] s =
    let e : in_order before (xs ++ []) ≡ in_order before xs = ap (in_order before) (search rules) in
    omega (arith, ap length e)
length-in_order before xs (z ∷ zs) s =
    let more = length-in_order before (xs ++ z ∷ []) zs s in
    let here = ap length (in_order-more before xs z s) in
    let e : in_order before ((xs ++ z ∷ []) ++ zs) ≡ in_order before (xs ++ z ∷ zs) = ap (in_order before) (append_assoc xs (z ∷ []) zs) in
    omega (arith, more, here, ap length e, length-put before z (in_order before xs))

above_at : (before : ℕ → ℕ → Bool) (x : ℕ) (ys : List ℕ) (j d : ℕ) → Above before x ys → j < length ys → before x (get_or ys j d) ≡ true
above_at before x [] j d above within = absurd (omega arith)
above_at before x (y ∷ ys) zero d above within = above.0
above_at before x (y ∷ ys) (suc j) d above within = above_at before x ys j d above.1 (omega arith)

-- rising numbers are distinct
pub rises_once : (before : ℕ → ℕ → Bool) (xs : List ℕ) → IsStrict before → Rises before xs → AllPairs (λ a b. a ≢ b) xs
rises_once before [] s rises i j d low within same = omega arith
rises_once before (x ∷ xs) s rises i zero d low within same = omega arith
rises_once before (x ∷ xs) s rises zero (suc j) d low within same =
    not_itself before x s (subst (λ w. before x w ≡ true) (sym same) (above_at before x xs j d rises.0 (omega arith)))
rises_once before (x ∷ xs) s rises (suc i) (suc j) d low within same = rises_once before xs s rises.1 i j d (omega arith) (omega arith) same
