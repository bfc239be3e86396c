-- The ids of entries are those that they name, and where they name the numbers below n, these are the ids.
--
-- Numbers in order are the numbers of the list, by the test whether one stands in it, and they rise. The list of named ids
-- has an id where an entry names it. The numbers from 0 on rise too, and a rising list is known by which numbers it has.
use Rattle.std.proofs.Common.{◌≡◌, ℕ, zero, suc, ◌<◌, ◌==◌, ◌||◌, nat_lt, Bool, true, false, Option, None, Some, List, [], ◌∷◌, length, get_or, Contains, refl, sym, ap, subst, ◌∙◌, arith, inl, inr}
use Rattle.std.specs.List.{AllPairs, range_with_len}
use Rattle.std.proofs.lemmas.Bool.{cases_eq, eq-eqb, ne_eqb, lt-ltb}
use Rattle.std.proofs.lemmas.Bool.Decides.{nat_tests}
use Rattle.std.proofs.lemmas.List.FromFn.{length-range_with_len, get_or-range_with_len}
use Rattle.macho_unwind_pages.specs.declared.entries.UnwindInput.{UnwindInput}
use Rattle.macho_unwind_pages.specs.Entries.{ids_of}
use Rattle.macho_unwind_pages.specs.steps.Entries.{named_by, named_ids}
use Rattle.macho_unwind_pages.specs.Laws.{Names, IdsAreNamed, IdsAreNumbers}
use Rattle.macho_unwind_pages.proofs.Orders.{Above, Rises, has, nat_lt-strict, rises-in_order, has-in_order, in_order-unique}

-- a number that stands in a list, by the test and by its place
pub has_there : (x : ℕ) (xs : List ℕ) → has x xs ≡ true → Contains xs x
has_there x [] h = absurd (cc)
has_there x (y ∷ ys) h =
    elim (cases_eq x y) [
      | inl e ↦ (0, omega arith, sym e)
      | inr n ↦ let rest = has_there x ys (rw (ne_eqb x y n) at h) in (suc rest.0, omega (arith, rest.1), rest.2)
    ]

pub there_has : (x : ℕ) (xs : List ℕ) → Contains xs x → has x xs ≡ true
there_has x [] there = absurd (omega (arith, there.1))
there_has x (y ∷ ys) (zero, within, is) = rw (eq-eqb x y (sym is)) refl
there_has x (y ∷ ys) (suc k, within, is) = rw (there_has x ys (k, omega arith, is)) (or_true (x == y))
  where
    or_true : (b : Bool) → (b || true) ≡ true
    or_true true = refl
    or_true false = refl

-- rising numbers, pair by pair
above_all : (x : ℕ) (ys : List ℕ) (j d : ℕ) → Above nat_lt x ys → j < length ys → x < get_or ys j d
above_all x [] j d above within = absurd (omega arith)
above_all x (y ∷ ys) zero d above within = let test : nat_lt x y ≡ true = above.0 in grind (arith, nat_tests)
above_all x (y ∷ ys) (suc j) d above within = above_all x ys j d above.1 (omega arith)

rising : (xs : List ℕ) → Rises nat_lt xs → AllPairs (λ a b. a < b) xs
rising [] rises i j d low within = absurd (omega arith)
rising (x ∷ xs) rises zero zero d low within = absurd (omega arith)
rising (x ∷ xs) rises zero (suc j) d low within = above_all x xs j d rises.0 (omega arith)
rising (x ∷ xs) rises (suc i) zero d low within = absurd (omega arith)
rising (x ∷ xs) rises (suc i) (suc j) d low within = rising xs rises.1 i j d (omega arith) (omega arith)

-- and back
rises_of : (xs : List ℕ) → AllPairs (λ a b. a < b) xs → Rises nat_lt xs
rises_of [] pairs = tt
rises_of (x ∷ xs) pairs = (
  first xs (λ j d h. pairs 0 (suc j) d (omega arith) (omega arith)),
  rises_of xs
      (λ i j d low h. pairs (suc i) (suc j) d (omega arith) (omega arith)),
)
  where
    first : (ys : List ℕ) → ((j d : ℕ) → j < length ys → x < get_or ys j d) → Above nat_lt x ys
    first [] each = tt
    first (y ∷ ys) each = (lt-ltb x y (each 0 y (omega arith)), first ys (λ j d h. each (suc j) d (omega arith)))

-- the named ids are those that entries name
named_there : (entries : List UnwindInput) (id : ℕ) → Contains (named_ids entries) id → Names entries id
unfolding named_ids
named_there [] id there = absurd (omega (arith, there.1))
named_there (e ∷ entries) id there = by_personality e.personality refl (named_there entries id) there
  where
    later : Names entries id → Names (e ∷ entries) id
    later n = (n.0, (suc n.1.0, omega (arith, n.1.1), n.1.2), n.2)

    by_personality : (p : Option ℕ) → e.personality ≡ p → (Contains (named_ids entries) id → Names entries id)
        → Contains (named_by p (named_ids entries)) id → Names (e ∷ entries) id
    by_personality None is rest there = later (rest there)
    by_personality (Some other) is rest (zero, within, same) = (e, (0, omega arith, refl), is ∙ ap (λ (n : ℕ). Some n) same)
    by_personality (Some other) is rest (suc k, within, same) = later (rest (k, omega arith, same))

there_named : (entries : List UnwindInput) (id : ℕ) → Names entries id → Contains (named_ids entries) id
unfolding named_ids
there_named [] id n = absurd (omega (arith, n.1.1))
there_named (x ∷ entries) id (e, (zero, within, same), is) =
    let own : x.personality ≡ Some id = ap (λ (f : UnwindInput). f.personality) same ∙ is in
    subst (λ (p : Option ℕ). Contains (named_by p (named_ids entries)) id) (sym own) (0, omega arith, refl)
there_named (x ∷ entries) id (e, (suc k, within, same), is) = behind x.personality (there_named entries id (e, (k, omega arith, same), is))
  where
    behind : (p : Option ℕ) → Contains (named_ids entries) id → Contains (named_by p (named_ids entries)) id
    behind None there = there
    behind (Some other) there = (suc there.0, omega (arith, there.1), there.2)

pub ids_named : IdsAreNamed
ids_named entries = record {
  rising = rising (ids_of entries) (rises-in_order nat_lt (named_ids entries) nat_lt-strict);
  named = λ id. (
    λ there. named_there entries id
        (has_there id (named_ids entries) (sym (has-in_order nat_lt id (named_ids entries)) ∙ there_has id (ids_of entries) there)),
    λ named. has_there id (ids_of entries)
        (has-in_order nat_lt id (named_ids entries) ∙ there_has id (named_ids entries) (there_named entries id named)),
  );
}

-- two tests that are true together are equal
same_test : (a b : Bool) → (a ≡ true → b ≡ true) → (b ≡ true → a ≡ true) → a ≡ b
same_test true b there back = sym (there refl)
same_test false true there back = back refl
same_test false false there back = refl

pub ids_numbers : IdsAreNumbers
ids_numbers entries n each =
    sym (in_order-unique nat_lt (named_ids entries) (range_with_len 0 n) nat_lt-strict
    (rises_of (range_with_len 0 n) (λ i j d low within. omega (
      arith,
      low,
      within,
      length-range_with_len 0 n,
      get_or-range_with_len 0 n i d (omega (arith, low, within, length-range_with_len 0 n)),
      get_or-range_with_len 0 n j d (omega (arith, within, length-range_with_len 0 n)),
    )))
    (λ id. same_test (has id (range_with_len 0 n)) (has id (named_ids entries))
    (λ h. there_has id (named_ids entries) (there_named entries id ((each id).0 (below id (has_there id (range_with_len 0 n) h)))))
    (λ h. there_has id (range_with_len 0 n) (in_range id ((each id).1 (named_there entries id (has_there id (named_ids entries) h)))))))
  where
    below : (id : ℕ) → Contains (range_with_len 0 n) id → id < n
    below id there =
        let short : there.0 < n = omega (arith, there.1, length-range_with_len 0 n) in
        omega (arith, short, there.2, get_or-range_with_len 0 n there.0 id short)

    in_range : (id : ℕ) → id < n → Contains (range_with_len 0 n) id
    in_range id lt = (id, omega (arith, lt, length-range_with_len 0 n), omega (arith, get_or-range_with_len 0 n id id lt))
