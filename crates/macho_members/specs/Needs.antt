-- Which members of archives are linked. They are the least set with three rules: each member of a whole archive is in it, and so is the
-- member that decides a name which an object or a member of the set uses.
use Rattle.std.specs.Prelude.{◌≡◌, ℕ, ◌<◌, ◌⊎◌, List, Bool, false, length, Contains, ◌||◌}
use Rattle.std.specs.List.{list_any, position_or_len, AllPairs}
use Rattle.macho_members.specs.Inputs.{Names, Input, defines, offers, members_at, member_at, whole_at, objects_of, wholes_of}

-- Whether a name is settled before any look into an archive: an object defines it, or a member that is linked in any case.
unfoldable pub is_settled : List Input → List ℕ → Bool
is_settled inputs name = list_any (defines name) (objects_of inputs) || list_any (defines name) (wholes_of inputs)

-- The first library or archive that offers a name, by its number; the number of all inputs, where none does.
unfoldable pub decider_of : List Input → List ℕ → ℕ
decider_of inputs name = position_or_len (offers name) inputs

-- A name that is not settled is decided by an archive, and this is its first member that defines the name.
pub record Brings (inputs : List Input) (name : List ℕ) (archive member : ℕ) : Type 0 where
  pub free : is_settled inputs name ≡ false
  pub decides : archive ≡ decider_of inputs name
  pub first : member ≡ position_or_len (defines name) (members_at inputs archive)
  pub inside : member < length (members_at inputs archive)

-- a member of an archive uses a name
abbrev pub MemberUses : List Input → ℕ → ℕ → List ℕ → Type 0
MemberUses inputs archive member name = Contains (member_at inputs archive member).used name

-- an object uses a name
abbrev pub ObjectUses : List Input → List ℕ → Type 0
ObjectUses inputs name = (o : Names) × Contains (objects_of inputs) o × Contains o.used name

-- The members that are linked, by the numbers of the archive and of the member in it.
pub data IsNeeded (inputs : List Input) : ℕ → ℕ → Type 0 where
  whole : (i m : ℕ) → m < length (whole_at inputs i) → IsNeeded inputs i m
  by_object : (i m : ℕ) (name : List ℕ) → ObjectUses inputs name → Brings inputs name i m → IsNeeded inputs i m
  by_member : (i m j n : ℕ) (name : List ℕ) → IsNeeded inputs j n → MemberUses inputs j n name → Brings inputs name i m
      → IsNeeded inputs i m

-- one member stands before another: in an earlier archive, or earlier in the same
abbrev pub IsBefore : ℕ × ℕ → ℕ × ℕ → Type 0
IsBefore p q = (p.0 < q.0) ⊎ ((p.0 ≡ q.0) × (p.1 < q.1))

-- A list of the members that are linked: these and no others, each once, in the order of archives and members.
pub record AreNeeded (inputs : List Input) (members : List (ℕ × ℕ)) : Type 0 where
  pub needed : (i m : ℕ) → Contains members (i, m) → IsNeeded inputs i m
  pub all : (i m : ℕ) → IsNeeded inputs i m → Contains members (i, m)
  pub rising : AllPairs IsBefore members
