-- The search ends. All members are listed by archive, and each that is there is in that list: in the row of its archive, which stands
-- behind the rows of the archives before. The members that are taken are among them, and none is taken twice, so that there are at most
-- as many as all.
-- Each turn of the search looks up one name. Either no member is taken, and there is one name less; or one is, so that one member less can
-- be taken. Then the names may be more, but they are fewer than 2^64. So the number of members that are left, times 2^64, with the
-- number of names, goes down.
use Rattle.std.proofs.Common.{◌≡◌, ℕ, ◌<◌, ◌≤◌, ◌+◌, ◌-◌, ◌*◌, ◌^◌, ◌⊎◌, inl, inr, subst, Bor, zero, suc, List, [], ◌∷◌, ◌++◌, Bool, true, false, ◌||◌, length, refl, sym, ap, ◌∙◌, arith}
use Rattle.std.specs.List.{IsDistinct}
use Rattle.std.proofs.lemmas.Bool.{cases_lt}
use Rattle.std.proofs.lemmas.List.Folds.{list_any-append}
use Rattle.std.proofs.lemmas.Map.Made.{length-le_from_is_member}
use Rattle.macho_bytes.proofs.Bools.{or_first, or_second}
use Rattle.macho_members.specs.declared.inputs.MemberPlace.{MemberPlace}
use Rattle.macho_members.specs.Inputs.{Input, members_of, members_at}
use Rattle.macho_members.specs.steps.Held.{place_eq, held, IsGrown}
use Rattle.macho_members.specs.Views.{texts}
use Rattle.std.proofs.lemmas.List.{map-append}
use Rattle.macho_members.proofs.Places.{at, same_self, place_laws}

-- the places of some members of an archive
abbrev pub row : ℕ → ℕ → List MemberPlace
row k zero = []
row k (suc n) = at k n ∷ row k n

-- the places of all members
abbrev pub all_places : ℕ → List Input → List MemberPlace
all_places k [] = []
all_places k (x ∷ xs) = row k (length (members_of x)) ++ all_places (k + 1) xs

in_row : (k n m : ℕ) → m < n → held (row k n) k m ≡ true
in_row k zero m h = absurd (omega (arith, h))
in_row k (suc n) m h = by (λ low. in_row k n m low) (cases_lt m n)
  where
    by : (m < n → held (row k n) k m ≡ true) → (m < n) ⊎ (n ≤ m) → (place_eq (at k m) (at k n) || held (row k n) k m) ≡ true
    by earlier (inl low) = or_second (place_eq (at k m) (at k n)) (held (row k n) k m) (earlier low)
    by earlier (inr high) = or_first (place_eq (at k m) (at k n)) (held (row k n) k m)
        (ap (λ j. place_eq (at k m) (at k j)) (omega (arith, high, h)) ∙ same_self (at k m))

-- a member that is there is among them
pub in_places : (k : ℕ) (inputs : List Input) (i m : ℕ) → m < length (members_at inputs i) → held (all_places k inputs) (k + i) m ≡ true
in_places k [] i m h = absurd (omega (arith, h))
in_places k (x ∷ xs) zero m h =
    list_any-append (place_eq (at (k + 0) m)) (row k (length (members_of x))) (all_places (k + 1) xs)
    ∙ or_first _ _ (ap (λ j. held (row k (length (members_of x))) j m) (omega arith) ∙ in_row k (length (members_of x)) m h)
in_places k (x ∷ xs) (suc i) m h =
    list_any-append (place_eq (at (k + suc i) m)) (row k (length (members_of x))) (all_places (k + 1) xs)
    ∙ or_second _ _ (ap (λ j. held (all_places (k + 1) xs) j m) (omega arith) ∙ in_places (k + 1) xs i m h)

-- so that many are taken at most
pub taken_within : (inputs : List Input) (keys : List MemberPlace) → IsDistinct place_eq keys
    → ((i m : ℕ) → held keys i m ≡ true → m < length (members_at inputs i)) → length keys ≤ length (all_places 0 inputs)
taken_within inputs keys distinct inside =
    length-le_from_is_member place_laws keys (all_places 0 inputs) distinct
    (λ q there. ap (λ j. held (all_places 0 inputs) j q.member) (omega arith)
    ∙ in_places 0 inputs q.archive q.member (inside q.archive q.member there))

-- a name is looked up: there is one name less, or one member less to take and as many names as there may be
pub fewer_left : (n : ℕ) (old new : List MemberPlace) (names rest next : List (Bor (List ℕ))) → length new ≤ n
    → length rest + 1 ≡ length names → length next < 2 ^ 64 → IsGrown old new rest next
    → (n - length new) * 2 ^ 64 + length next < (n - length old) * 2 ^ 64 + length names
fewer_left n old new names rest next within popped small (inl grown) = omega (arith, within, popped, small, grown.0)
fewer_left n old new names rest next within popped small (inr same) =
    let e : length new ≡ length old = ap length same.0 in
    let f : length next ≡ length rest = ap length same.1 in
    omega (arith, popped, e, f)

-- no member is taken twice
pub distinct_still : (old new : List MemberPlace) (names rest : List (Bor (List ℕ))) → IsDistinct place_eq old → IsGrown old new names rest
    → IsDistinct place_eq new
distinct_still old new names rest distinct (inl grown) = grown.1
distinct_still old new names rest distinct (inr same) = subst (IsDistinct place_eq) (sym same.0) distinct

-- the last of several names by its bytes
pub texts_last : (names front : List (Bor (List ℕ))) (q : Bor (List ℕ)) → names ≡ front ++ q ∷ [] → texts names ≡ texts front ++ q.now ∷ []
texts_last names front q e = ap texts e ∙ map-append (λ n. n.now) front (q ∷ [])
