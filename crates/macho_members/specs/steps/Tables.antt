-- What a table of names finds: with each name the member that it brings, or that it brings none.
use Rattle.std.specs.Prelude.{◌≡◌, ℕ, List, [], ◌∷◌, Bool, true, false, Option, Some, None, cond, map}
use Rattle.std.specs.Option.{option_or}
use Rattle.std.specs.List.{enumerate_from}
use Rattle.std.specs.Str.{bytes_eq}
use Rattle.std.specs.Borrow.{Bor}
use Rattle.macho_members.specs.declared.inputs.ObjectNames.{ObjectNames}
use Rattle.macho_members.specs.declared.inputs.MemberPlace.{MemberPlace}
use Rattle.macho_members.specs.declared.inputs.Asked.{Asked}
use Rattle.macho_members.specs.declared.inputs.Asked.TheVariants.{Object, Library, Archive}

-- names are the same by their bytes
abbrev pub same_text : Bor (List ℕ) → Bor (List ℕ) → Bool
same_text x y = bytes_eq x.now y.now

-- what is known of each name
abbrev pub Known : Type 0
Known = List ℕ → Option (Option MemberPlace)

-- one name is known
unfoldable pub named : Option MemberPlace → List ℕ → Known
named place name q = cond (bytes_eq name q) (Some place) None

-- the first of several that knows a name
unfoldable pub first_of : List Known → Known
first_of [] q = None
first_of (f ∷ fs) q = option_or (f q) (first_of fs q)

-- what was known before comes first
abbrev pub behind : Known → Known → Known
behind f g q = option_or (f q) (g q)

-- a table finds what is known
pub record Finds (find : Bor (List ℕ) → Option (Option MemberPlace)) (known : Known) : Type 0 where
  pub each : (q : Bor (List ℕ)) → find q ≡ known q.now

-- the names that a member defines bring it
abbrev pub member_known : ℕ → ℕ × ObjectNames → Known
member_known archive (member, names) =
    first_of (map (λ n. named (Some (record { archive = archive; member = member })) n.now) names.defined.now)

-- the names that a member defines bring nothing
abbrev pub none_known : ObjectNames → Known
none_known names = first_of (map (λ n. named None n.now) names.defined.now)

-- the names that an input settles bring nothing: those that an object defines, and the members of a whole archive
abbrev pub settled_by : Asked → Known
settled_by (Object names) = none_known names
settled_by (Library _) = first_of []
settled_by (Archive true members) = first_of (map none_known members.now)
settled_by (Archive false _) = first_of []

-- the names that a library offers bring nothing, and those that the members of an archive define bring these
abbrev pub offered_by : ℕ × Asked → Known
offered_by (_, Object _) = first_of []
offered_by (_, Library names) = first_of (map (λ n. named None n.now) names.now)
offered_by (number, Archive _ members) = first_of (map (member_known number) (enumerate_from 0 members.now))

-- what the inputs settle, and then what they offer
abbrev pub known_by : List Asked → Known
known_by inputs = behind (first_of (map settled_by inputs)) (first_of (map offered_by (enumerate_from 0 inputs)))
