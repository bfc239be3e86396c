-- How far the search for members has come.
use Rattle.std.specs.Prelude.{◌≡◌, ℕ, ◌<◌, ◌⊎◌, List, Bool, true, Option, Some, length, Contains}
use Rattle.std.specs.List.{AllPairs}
use Rattle.std.specs.Borrow.{Bor}
use Rattle.macho_members.specs.declared.inputs.MemberPlace.{MemberPlace}
use Rattle.macho_members.specs.Inputs.{Input, members_at, whole_at}
use Rattle.macho_members.specs.Needs.{Brings, MemberUses, ObjectUses, IsNeeded, IsBefore}

-- a table finds with a name the member that it brings
pub record FindsBrought (inputs : List Input) (find : Bor (List ℕ) → Option (Option MemberPlace)) : Type 0 where
  pub brings : (q : Bor (List ℕ)) (p : MemberPlace) → find q ≡ Some (Some p) → Brings inputs q.now p.archive p.member
  pub all : (q : Bor (List ℕ)) (i m : ℕ) → Brings inputs q.now i m → (p : MemberPlace) × (find q ≡ Some (Some p))

-- a name has yet to be looked up, or the member that it brings is taken
abbrev pub IsSeen : List Input → (ℕ → ℕ → Bool) → List (List ℕ) → List ℕ → Type 0
IsSeen inputs taken names name = Contains names name ⊎ ((i m : ℕ) → Brings inputs name i m → taken i m ≡ true)

-- some members are taken, beside those of whole archives, and some names have yet to be looked up
pub record AreUnderway (inputs : List Input) (taken : ℕ → ℕ → Bool) (names : List (List ℕ)) : Type 0 where
  pub inside : (i m : ℕ) → taken i m ≡ true → m < length (members_at inputs i)
  pub needed : (i m : ℕ) → taken i m ≡ true → IsNeeded inputs i m
  pub asked : (name : List ℕ) → Contains names name → (i m : ℕ) → Brings inputs name i m → IsNeeded inputs i m
  pub of_objects : (name : List ℕ) → ObjectUses inputs name → IsSeen inputs taken names name
  pub of_wholes : (j n : ℕ) (name : List ℕ) → n < length (whole_at inputs j) → MemberUses inputs j n name
      → IsSeen inputs taken names name
  pub of_taken : (j n : ℕ) (name : List ℕ) → taken j n ≡ true → MemberUses inputs j n name → IsSeen inputs taken names name

-- the members of whole archives, and with them those that are taken, are all that are linked
pub record AreTaken (inputs : List Input) (taken : ℕ → ℕ → Bool) : Type 0 where
  pub needed : (i m : ℕ) → (m < length (whole_at inputs i)) ⊎ (taken i m ≡ true) → IsNeeded inputs i m
  pub all : (i m : ℕ) → IsNeeded inputs i m → (m < length (whole_at inputs i)) ⊎ (taken i m ≡ true)
  pub inside : (i m : ℕ) → IsNeeded inputs i m → m < length (members_at inputs i)

-- a list of the members that are linked and stand before a place
pub record AreListed (inputs : List Input) (i m : ℕ) (places : List (ℕ × ℕ)) : Type 0 where
  pub kept : (j n : ℕ) → Contains places (j, n) → IsNeeded inputs j n
  pub before : (j n : ℕ) → Contains places (j, n) → IsBefore (j, n) (i, m)
  pub all : (j n : ℕ) → IsBefore (j, n) (i, m) → IsNeeded inputs j n → Contains places (j, n)
  pub rising : AllPairs IsBefore places
