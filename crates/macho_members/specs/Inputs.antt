-- What a link is asked to take, as far as names go: objects, libraries and archives, in their order.
use Rattle.std.specs.Prelude.{ℕ, List, [], ◌∷◌, Bool, true, false, map, get_or}
use Rattle.std.specs.List.{list_any, flat_map}
use Rattle.std.specs.Str.{bytes_eq}

-- The names of an object, or of a member of an archive: those it uses and leaves to others, and those it defines.
pub record Names : Type 0 where
  pub used : List (List ℕ)
  pub defined : List (List ℕ)

-- An input: an object, a library by the names that it offers, or an archive by its members. Of an archive that is `whole`
-- each member is linked (`-all_load`, `-force_load`).
pub data Input : Type 0 where
  object : Names → Input
  library : List (List ℕ) → Input
  archive : Bool → List Names → Input

-- whether a name is among others
abbrev pub is_among : List (List ℕ) → List ℕ → Bool
is_among names name = list_any (bytes_eq name) names

-- whether an object or a member defines a name
abbrev pub defines : List ℕ → Names → Bool
defines name n = is_among n.defined name

-- the members of an input: only an archive has some
abbrev pub members_of : Input → List Names
members_of (object _) = []
members_of (library _) = []
members_of (archive _ members) = members

-- the members that are linked, whatever names are used
abbrev pub whole_of : Input → List Names
whole_of (object _) = []
whole_of (library _) = []
whole_of (archive true members) = members
whole_of (archive false _) = []

-- the object that an input is
abbrev pub object_of : Input → List Names
object_of (object names) = names ∷ []
object_of (library _) = []
object_of (archive _ _) = []

-- whether an input is a library that offers a name, or an archive with a member that defines it
abbrev pub offers : List ℕ → Input → Bool
offers name (object _) = false
offers name (library offered) = is_among offered name
offers name (archive _ members) = list_any (defines name) members

-- the members of an input by its number
abbrev pub members_at : List Input → ℕ → List Names
members_at inputs i = get_or (map members_of inputs) i []

-- a member by the numbers of its archive and of its place there; one of no names, where there is none
abbrev pub member_at : List Input → ℕ → ℕ → Names
member_at inputs i m = get_or (members_at inputs i) m (record { used = []; defined = [] })

-- of the members of an input, the ones that are linked whatever names are used
abbrev pub whole_at : List Input → ℕ → List Names
whole_at inputs i = get_or (map whole_of inputs) i []

-- the objects
abbrev pub objects_of : List Input → List Names
objects_of inputs = flat_map object_of inputs

-- the members of all archives that are linked whole
abbrev pub wholes_of : List Input → List Names
wholes_of inputs = flat_map whole_of inputs
