-- A list of linked members that grows by places in order.
-- All in it stand before the next place, so with the member there it rises still. A member that stands before the place behind is one from
-- before, or the one there; it is in the list if it is linked.
-- Behind the last member of an archive comes the first place of the next. No linked member of the archive is left, so that whatever stands
-- before this place is in the list. Behind the last input no member is left at all: these are the members that are linked, in order.
use Rattle.std.proofs.Common.{◌≡◌, ℕ, ◌<◌, ◌≤◌, ◌+◌, ◌⊎◌, inl, inr, List, [], ◌∷◌, ◌++◌, get_or, refl, sym, subst, arith, Contains}
use Rattle.std.proofs.lemmas.List.Elements.{Contains-append_left, Contains-push, Contains-push_cases}
use Rattle.std.proofs.lemmas.List.Quantifiers.{all_pairs_push}
use Rattle.std.proofs.lemmas.List.{get_or_default}
use Rattle.std.proofs.lemmas.Bool.{cases_lt}
use Rattle.macho_members.specs.Inputs.{Input}
use Rattle.macho_members.specs.Needs.{IsNeeded, IsBefore, AreNeeded}
use Rattle.macho_members.specs.steps.Taken.{AreListed}

-- one of the first m, and one more
earlier : (G : Type 0) (n m : ℕ) → n < m + 1 → (n < m → G) → (n ≡ m → G) → G
earlier G n m h less same = by (cases_lt n m)
  where
    by : (n < m) ⊎ (m ≤ n) → G
    by (inl low) = less low
    by (inr high) = same (omega (arith, high, h))

-- no place stands before the first
pub none_listed : (inputs : List Input) → AreListed inputs 0 0 []
none_listed inputs = record {
  kept = λ j n there. absurd (omega (arith, there.1));
  before = λ j n there. absurd (omega (arith, there.1));
  all = λ j n before needed. absurd (none j n before);
  rising = λ i j d low h. absurd (omega (arith, h));
}
  where
    none : (j n : ℕ) → IsBefore (j, n) (0, 0) → ⊥
    none j n (inl h) = omega (arith, h)
    none j n (inr h) = omega (arith, h.1)

-- what stood before a place stands before the one behind
later : (j n a b : ℕ) → IsBefore (j, n) (a, b) → IsBefore (j, n) (a, b + 1)
later j n a b (inl h) = inl h
later j n a b (inr h) = inr (h.0, omega (arith, h.1))

-- a member that is linked
pub add_listed : (inputs : List Input) (a b : ℕ) (places : List (ℕ × ℕ)) → IsNeeded inputs a b → AreListed inputs a b places
    → AreListed inputs a (b + 1) (places ++ (a, b) ∷ [])
add_listed inputs a b places needed was = record {
  kept = λ j n there. kept_of j n (Contains-push_cases places (a, b) (j, n) there);
  before = λ j n there. before_of j n (Contains-push_cases places (a, b) (j, n) there);
  all = all_of;
  rising = all_pairs_push IsBefore places (a, b) was.rising
      (λ k d low. was.before (get_or places k d).0 (get_or places k d).1 (k, low, get_or_default places k (get_or places k d) d low));
}
  where
    kept_of : (j n : ℕ) → Contains places (j, n) ⊎ (◌≡◌ {A = ℕ × ℕ} (a, b) (j, n)) → IsNeeded inputs j n
    kept_of j n (inl there) = was.kept j n there
    kept_of j n (inr e) = subst (λ (p : ℕ × ℕ). IsNeeded inputs p.0 p.1) e needed

    before_of : (j n : ℕ) → Contains places (j, n) ⊎ (◌≡◌ {A = ℕ × ℕ} (a, b) (j, n)) → IsBefore (j, n) (a, b + 1)
    before_of j n (inl there) = later j n a b (was.before j n there)
    before_of j n (inr e) = subst (λ (p : ℕ × ℕ). IsBefore p (a, b + 1)) e (inr (refl, omega arith))

    all_of : (j n : ℕ) → IsBefore (j, n) (a, b + 1) → IsNeeded inputs j n → Contains (places ++ (a, b) ∷ []) (j, n)
    all_of j n (inl h) is = Contains-append_left places ((a, b) ∷ []) (j, n) (was.all j n (inl h) is)
    all_of j n (inr h) is = earlier (Contains (places ++ (a, b) ∷ []) (j, n)) n b h.1
        (λ low. Contains-append_left places ((a, b) ∷ []) (j, n) (was.all j n (inr (h.0, low)) is))
        (λ e. subst (λ k. Contains (places ++ (a, b) ∷ []) (k, n)) (sym h.0)
        (subst (λ k. Contains (places ++ (a, b) ∷ []) (a, k)) (sym e) (Contains-push places (a, b))))

-- and one that isn't
pub skip_listed : (inputs : List Input) (a b : ℕ) (places : List (ℕ × ℕ)) → (IsNeeded inputs a b → ⊥) → AreListed inputs a b places
    → AreListed inputs a (b + 1) places
skip_listed inputs a b places free was = record {
  kept = was.kept;
  before = λ j n there. later j n a b (was.before j n there);
  all = all_of;
  rising = was.rising;
}
  where
    all_of : (j n : ℕ) → IsBefore (j, n) (a, b + 1) → IsNeeded inputs j n → Contains places (j, n)
    all_of j n (inl h) is = was.all j n (inl h) is
    all_of j n (inr h) is = earlier (Contains places (j, n)) n b h.1 (λ low. was.all j n (inr (h.0, low)) is)
        (λ e. absurd (free (subst (λ k. IsNeeded inputs k b) h.0 (subst (IsNeeded inputs j) e is))))

-- behind the last member of an archive
pub next_listed : (inputs : List Input) (a b : ℕ) (places : List (ℕ × ℕ)) → ((n : ℕ) → IsNeeded inputs a n → n < b)
    → AreListed inputs a b places → AreListed inputs (a + 1) 0 places
next_listed inputs a b places inside was = record {
  kept = was.kept;
  before = λ j n there. before_of j n (was.before j n there);
  all = all_of;
  rising = was.rising;
}
  where
    before_of : (j n : ℕ) → IsBefore (j, n) (a, b) → IsBefore (j, n) (a + 1, 0)
    before_of j n (inl h) = inl (omega (arith, h))
    before_of j n (inr h) = inl (omega (arith, h.0))

    all_of : (j n : ℕ) → IsBefore (j, n) (a + 1, 0) → IsNeeded inputs j n → Contains places (j, n)
    all_of j n (inr h) is = absurd (omega (arith, h.1))
    all_of j n (inl h) is = earlier (Contains places (j, n)) j a h (λ low. was.all j n (inl low) is)
        (λ e. was.all j n (inr (e, inside n (subst (λ k. IsNeeded inputs k n) e is))) is)

-- behind the last input
pub all_listed : (inputs : List Input) (a : ℕ) (places : List (ℕ × ℕ)) → ((i m : ℕ) → IsNeeded inputs i m → i < a)
    → AreListed inputs a 0 places → AreNeeded inputs places
all_listed inputs a places inside was = record {
  needed = was.kept;
  all = λ i m is. was.all i m (inl (inside i m is)) is;
  rising = was.rising;
}
