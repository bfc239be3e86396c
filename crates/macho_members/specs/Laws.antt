-- Laws of the members that are linked.
use Rattle.std.specs.Prelude.{◌≡◌, ℕ, ◌<◌, List, Bool, true, length}
use Rattle.macho_members.specs.Inputs.{Input, whole_at}
use Rattle.macho_members.specs.Needs.{Brings, MemberUses, ObjectUses, IsNeeded, AreNeeded}

-- A set of members that keeps the three rules.
pub record IsClosed (inputs : List Input) (set : ℕ → ℕ → Bool) : Type 0 where
  pub whole : (i m : ℕ) → m < length (whole_at inputs i) → set i m ≡ true
  pub by_object : (i m : ℕ) (name : List ℕ) → ObjectUses inputs name → Brings inputs name i m → set i m ≡ true
  pub by_member : (i m j n : ℕ) (name : List ℕ) → set j n ≡ true → MemberUses inputs j n name → Brings inputs name i m → set i m ≡ true

-- Each set that keeps the rules has all members that are linked.
abbrev pub NeedsAreLeast : Type 0
NeedsAreLeast = (inputs : List Input) (set : ℕ → ℕ → Bool) → IsClosed inputs set → (i m : ℕ) → IsNeeded inputs i m → set i m ≡ true

-- A name brings one member at most.
abbrev pub BringsOne : Type 0
BringsOne =
    (inputs : List Input) (name : List ℕ) (i m j n : ℕ) → Brings inputs name i m → Brings inputs name j n → (i ≡ j) × (m ≡ n)

-- There is one list of the members that are linked.
abbrev pub NeededAreOne : Type 0
NeededAreOne = (inputs : List Input) (xs ys : List (ℕ × ℕ)) → AreNeeded inputs xs → AreNeeded inputs ys → xs ≡ ys
