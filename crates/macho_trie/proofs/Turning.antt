-- Lists with the last element first, and pairs of elements.
--
-- Turned round, a list of values of a function has the values and nothing else. What is true of each two elements of a
-- list stays so with more elements behind it, if it is true of each old one with each new one, and of each two new ones.
use Rattle.std.proofs.Common.{◌≡◌, zero, suc, List, [], ◌∷◌, ◌++◌, length, get_or, map, Contains, append-nil}
use Rattle.std.proofs.Common.{refl, sym, subst, ◌∙◌, arith, append_assoc, inl, inr}
use Rattle.std.specs.List.{AllPairs}
use Rattle.std.proofs.lemmas.List.{get_or_append_left, length-append, get_or_push}
use Rattle.std.proofs.lemmas.List.Elements.{Contains-get_or, Contains-append_left, Contains-push, Contains-push_cases, Contains-append_cases}
use Rattle.std.proofs.lemmas.List.Quantifiers.{all_pairs_push}
use Rattle.macho_trie.specs.steps.Walking.{last_first}
use Rattle.macho_bytes.proofs.Members.{contains_first, contains_behind}
use Rattle.macho_bytes.proofs.Pairs.{pairs_tail}

-- the values of a list turned round
pub turned : {X Y : Type 0} (f : X → Y) (xs : List X) (x : X) → Contains xs x → Contains (last_first (map f xs)) (f x)
unfolding last_first
turned f [] x (k, within, is) = absurd (omega arith)
turned {X} {Y} f (y ∷ xs) x (zero, within, is) =
    let P : X → Type 0 = λ z. Contains (last_first (map f xs) ++ f y ∷ []) (f z) in
    subst P is (Contains-push (last_first (map f xs)) (f y))
turned f (y ∷ xs) x (suc k, within, is) = Contains-append_left (last_first (map f xs)) (f y ∷ []) (f x) (turned f xs x (k, omega arith, is))

pub turned_from : {X Y : Type 0} (f : X → Y) (xs : List X) (y : Y) → Contains (last_first (map f xs)) y
    → (x : X) × Contains xs x × (f x ≡ y)
unfolding last_first
turned_from f [] y (k, within, is) = absurd (omega arith)
turned_from f (x ∷ xs) y c =
    elim (Contains-push_cases (last_first (map f xs)) (f x) y c) [
      | inl front ↦
          let deeper = turned_from f xs y front in
          (deeper.0, contains_behind x deeper.0 xs deeper.1, deeper.2)
      | inr same ↦ (x, contains_first x xs, same)
    ]

pub pair_of_first : {X : Type 0} (R : X → X → Type 0) (x y : X) (xs : List X) → AllPairs R (x ∷ xs) → Contains xs y → R x y
pair_of_first {X} R x y xs a (k, within, is) =
    let P : X → Type 0 = λ z. R x z in
    subst P is (a 0 (suc k) y (omega arith) (omega (arith, within)))

-- pairs of the elements but the last, and of another with the last
pub pairs_before : {X : Type 0} (R : X → X → Type 0) (xs : List X) (y : X) → AllPairs R (xs ++ y ∷ []) → AllPairs R xs
pairs_before {X} R xs y a i j d before within =
    let P : X → Type 0 = λ z. R z (get_or xs j d) in
    let Q : X → Type 0 = λ z. R (get_or (xs ++ y ∷ []) i d) z in
    subst P (get_or_append_left xs (y ∷ []) d i (omega arith))
    (subst Q (get_or_append_left xs (y ∷ []) d j within) (a i j d before (omega (arith, length-append xs (y ∷ [])))))

pub pair_of_last : {X : Type 0} (R : X → X → Type 0) (xs : List X) (x y : X) → AllPairs R (xs ++ y ∷ []) → Contains xs x → R x y
pair_of_last {X} R xs x y a (k, within, is) =
    let P : X → Type 0 = λ z. R z y in
    let Q : X → Type 0 = λ z. R (get_or (xs ++ y ∷ []) k x) z in
    subst P (get_or_append_left xs (y ∷ []) x k within ∙ is)
    (subst Q (get_or_push xs y x (length xs) refl) (a k (length xs) x within (omega (arith, length-append xs (y ∷ [])))))

-- old elements, and behind them the values of a list turned round
pub pairs_turned : {X Y : Type 0} (R : Y → Y → Type 0) (f : X → Y) (old : List Y) (xs : List X) → AllPairs R old
    → ((y : Y) (x : X) → Contains old y → Contains xs x → R y (f x)) → AllPairs (λ u v. R (f v) (f u)) xs
    → AllPairs R (old ++ last_first (map f xs))
unfolding last_first
pairs_turned {X} {Y} R f old [] a across within =
    let P : List Y → Type 0 = λ l. AllPairs R l in
    subst P (sym (append-nil old)) a
pairs_turned {X} {Y} R f old (x ∷ xs) a across within =
    let P : List Y → Type 0 = λ l. AllPairs R l in
    let before : AllPairs R (old ++ last_first (map f xs))
    = pairs_turned R f old xs a (λ y z c d. across y z c (contains_behind x z xs d)) (pairs_tail (λ u v. R (f v) (f u)) x xs within) in
    subst P (append_assoc old (last_first (map f xs)) (f x ∷ []))
    (all_pairs_push R (old ++ last_first (map f xs)) (f x) before
    (λ k d h. each (get_or (old ++ last_first (map f xs)) k d) (Contains-get_or (old ++ last_first (map f xs)) k d h)))
  where
    each : (y : Y) → Contains (old ++ last_first (map f xs)) y → R y (f x)
    each y c =
        elim (Contains-append_cases old (last_first (map f xs)) y c) [
          | inl front ↦ across y x front (contains_first x xs)
          | inr back ↦
              let from = turned_from f xs y back in
              let Q : Y → Type 0 = λ z. R z (f x) in
              subst Q from.2 (pair_of_first (λ u v. R (f v) (f u)) x from.0 xs within from.1)
        ]
