-- First places of names in a list that grows.
--
-- The first place of what passes a test stays where there is one. Else it is the place of the new element where that passes,
-- and there is none where it doesn't. A table that finds the first places of a list is so that of the list with a name more:
-- as it is where it has the name, else with the name at the place behind the others.
use Rattle.std.proofs.Common.{◌≡◌, ℕ, ◌+◌, ◌<◌, ◌≤◌, ◌==◌, nat_lt, Bool, true, false, cond, List, [], ◌∷◌, ◌++◌, take, length, get_or, refl, sym, ap, ◌∙◌, arith, inl, inr, Option, Some, None, Bor, Vec, Global, is_some}
use Rattle.std.specs.Str.{bytes_eq}
use Rattle.std.specs.List.{position, position_or_len}
use Rattle.std.proofs.lemmas.Bool.{cases_lt}
use Rattle.std.proofs.lemmas.Bool.Decides.{nat_tests}
use Rattle.std.proofs.lemmas.List.{length_push, take_more, map-append}
use Rattle.std.proofs.lemmas.List.Folds.{position_or_len_push}
use Rattle.std.proofs.lemmas.List.Sums.{prefix_len-le-length}
use Rattle.std.proofs.lemmas.Slice.Eq.{bytes_eq-Decides}
use Rattle.macho_linkedit.specs.Imports.{texts}
use Rattle.macho_linkedit.specs.Libraries.{same_text, FindsPlaces}

-- the numbers alone
numbers : (n L : ℕ) (b : Bool) → n ≤ L
    → cond (nat_lt (cond (n == L) (L + cond b 0 1) n) (L + 1)) (Some (cond (n == L) (L + cond b 0 1) n)) None
    ≡ cond (nat_lt n L) (Some n) (cond b (Some L) None)
numbers n L true le =
    elim (cases_lt n L) [
      | inl less ↦
          let apart : (n == L) ≡ false = grind (arith, nat_tests) in
          let below : nat_lt n L ≡ true = grind (arith, nat_tests) in
          let inside : nat_lt n (L + 1) ≡ true = grind (arith, nat_tests) in
          rw (apart, below, inside) refl
      | inr past ↦
          let same : (n == L) ≡ true = grind (arith, nat_tests) in
          let below : nat_lt n L ≡ false = grind (arith, nat_tests) in
          let inside : nat_lt (L + 0) (L + 1) ≡ true = grind (arith, nat_tests) in
          rw (same, below, inside) (ap (λ (m : ℕ). Some m) (omega arith))
    ]
numbers n L false le =
    elim (cases_lt n L) [
      | inl less ↦
          let apart : (n == L) ≡ false = grind (arith, nat_tests) in
          let below : nat_lt n L ≡ true = grind (arith, nat_tests) in
          let inside : nat_lt n (L + 1) ≡ true = grind (arith, nat_tests) in
          rw (apart, below, inside) refl
      | inr past ↦
          let same : (n == L) ≡ true = grind (arith, nat_tests) in
          let below : nat_lt n L ≡ false = grind (arith, nat_tests) in
          let inside : nat_lt (L + 1) (L + 1) ≡ false = grind (arith, nat_tests) in
          rw (same, below, inside) refl
    ]

pub position_push : {X : Type 0} (p : X → Bool) (xs : List X) (y : X)
    → position p (xs ++ y ∷ []) ≡ cond (nat_lt (position_or_len p xs) (length xs)) (Some (position_or_len p xs))
    (cond (p y) (Some (length xs)) None)
position_push p xs y =
    ap (λ (m : ℕ). cond (nat_lt m (length (xs ++ y ∷ []))) (Some m) None) (position_or_len_push p xs y)
    ∙ ap (λ (m : ℕ). cond (nat_lt (cond (position_or_len p xs == length xs) (length xs + cond (p y) 0 1) (position_or_len p xs)) m)
    (Some (cond (position_or_len p xs == length xs) (length xs + cond (p y) 0 1) (position_or_len p xs))) None) (length_push xs y)
    ∙ numbers (position_or_len p xs) (length xs) (p y) (prefix_len-le-length _ xs)

-- one that is there
pub places_kept : (xs : List (List ℕ)) (find : Bor (List ℕ) → Option ℕ) (name : Bor (List ℕ)) → FindsPlaces xs find → is_some
    (find name) ≡ true
    → FindsPlaces (xs ++ name.now ∷ []) find
places_kept xs find name old there = record {
  each = λ q. old.each q ∙ sym
      (position_push (bytes_eq q.now) xs name.now ∙ by q (bytes_eq q.now name.now) refl);
}
  where
    found : (n L : ℕ) → is_some (cond (nat_lt n L) (Some n) None) ≡ true → nat_lt n L ≡ true
    found n L h = by (nat_lt n L) refl h
      where
        by : (b : Bool) → nat_lt n L ≡ b → is_some (cond b (Some n) None) ≡ true → b ≡ true
        by true e h = refl
        by false e h = absurd cc

    by : (q : Bor (List ℕ)) (b : Bool) → bytes_eq q.now name.now ≡ b
        → cond (nat_lt (position_or_len (bytes_eq q.now) xs) (length xs)) (Some (position_or_len (bytes_eq q.now) xs))
        (cond b (Some (length xs)) None)
        ≡ position (bytes_eq q.now) xs
    by q false e = refl
    by q true e =
        let same : q.now ≡ name.now = (bytes_eq-Decides q.now name.now).0 e in
        let some : is_some (position (bytes_eq q.now) xs) ≡ true = ap (λ (x : List ℕ). is_some (position (bytes_eq x) xs)) same
        ∙ ap is_some (sym (old.each name)) ∙ there in
        let inside = found (position_or_len (bytes_eq q.now) xs) (length xs) some in
        rw inside refl

-- and one that is new
pub places_more : (xs : List (List ℕ)) (old new : Bor (List ℕ) → Option ℕ) (name : Bor (List ℕ)) (n : ℕ) → FindsPlaces xs old → is_some
    (old name) ≡ false
    → n ≡ length xs → ((q : Bor (List ℕ)) → new q ≡ cond (same_text name q) (Some n) (old q)) → FindsPlaces (xs ++ name.now ∷ []) new
places_more xs old new name n known fresh is update = record {
  each = λ q. update q ∙ sym (position_push (bytes_eq q.now) xs name.now ∙ by q (bytes_eq q.now name.now) refl (same_text name q) refl);
}
  where
    outside : (k L : ℕ) → is_some (cond (nat_lt k L) (Some k) None) ≡ false → nat_lt k L ≡ false
    outside k L h = here (nat_lt k L) refl h
      where
        here : (b : Bool) → nat_lt k L ≡ b → is_some (cond b (Some k) None) ≡ false → b ≡ false
        here true e h = absurd cc
        here false e h = refl

    by : (q : Bor (List ℕ)) (b : Bool) → bytes_eq q.now name.now ≡ b → (t : Bool) → same_text name q ≡ t
        → cond (nat_lt (position_or_len (bytes_eq q.now) xs) (length xs)) (Some (position_or_len (bytes_eq q.now) xs))
        (cond b (Some (length xs)) None)
        ≡ cond t (Some n) (old q)
    by q false e false f = sym (known.each q)
    by q true e true f =
        let same : q.now ≡ name.now = (bytes_eq-Decides q.now name.now).0 e in
        let none : is_some (position (bytes_eq q.now) xs) ≡ false = ap (λ (x : List ℕ). is_some (position (bytes_eq x) xs)) same
        ∙ ap is_some (sym (known.each name)) ∙ fresh in
        let past = outside (position_or_len (bytes_eq q.now) xs) (length xs) none in
        rw past (ap (λ (m : ℕ). Some m) (sym is))
    by q true e false f = absurd (differ ((bytes_eq-Decides name.now q.now).1 (sym ((bytes_eq-Decides q.now name.now).0 e))) f)
      where
        differ : {b : Bool} → b ≡ true → b ≡ false → ⊥
        differ x y = cc
    by q false e true f = absurd (differ ((bytes_eq-Decides q.now name.now).1 (sym ((bytes_eq-Decides name.now q.now).0 f))) e)
      where
        differ : {b : Bool} → b ≡ true → b ≡ false → ⊥
        differ x y = cc

-- the texts of one element more
pub texts_more : (xs : List (Vec ℕ Global)) (i : ℕ) (x : Vec ℕ Global) → i < length xs → x ≡ get_or xs i x → texts
    (take (i + 1) xs) ≡ texts (take i xs) ++ x.items ∷ []
texts_more xs i x lt is =
    ap texts (take_more xs i x lt ∙ ap (λ (y : Vec ℕ Global). take i xs ++ y ∷ []) (sym is)) ∙ map-append (λ (y : Vec ℕ Global). y.items)
    (take i xs) (x ∷ [])

-- what a look-up that found something says, and one that found nothing
pub place_some : (xs : List (List ℕ)) (find : Bor (List ℕ) → Option ℕ) (q : Bor (List ℕ)) (n : ℕ) → FindsPlaces xs find → Some n ≡ find q
    → (n ≡ position_or_len (bytes_eq q.now) xs) × (n < length xs)
place_some xs find q n known is = by (nat_lt (position_or_len (bytes_eq q.now) xs) (length xs)) refl (is ∙ known.each q)
  where
    by : (b : Bool) → nat_lt (position_or_len (bytes_eq q.now) xs) (length xs) ≡ b
        → Some n ≡ cond b (Some (position_or_len (bytes_eq q.now) xs)) None → (n ≡ position_or_len (bytes_eq q.now) xs) × (n < length xs)
    by true below is = let same : n ≡ position_or_len (bytes_eq q.now) xs = cc in (same, grind (arith, nat_tests))
    by false below is = absurd cc

pub place_none : (xs : List (List ℕ)) (find : Bor (List ℕ) → Option ℕ) (q : Bor (List ℕ)) → FindsPlaces xs find → None ≡ find q
    → length xs ≡ position_or_len (bytes_eq q.now) xs
place_none xs find q known is = by (nat_lt (position_or_len (bytes_eq q.now) xs) (length xs)) refl (is ∙ known.each q)
  where
    by : (b : Bool) → nat_lt (position_or_len (bytes_eq q.now) xs) (length xs) ≡ b
        → None ≡ cond b (Some (position_or_len (bytes_eq q.now) xs)) None → length xs ≡ position_or_len (bytes_eq q.now) xs
    by true below is = absurd cc
    by false below is =
        let least : position_or_len (bytes_eq q.now) xs ≤ length xs = prefix_len-le-length _ xs in
        let most : length xs ≤ position_or_len (bytes_eq q.now) xs = grind (arith, nat_tests) in
        omega arith
