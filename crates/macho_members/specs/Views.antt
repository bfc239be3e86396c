-- What the arguments and the answer of the call stand for.
use Rattle.std.specs.Prelude.{ℕ, List, map}
use Rattle.std.specs.Borrow.{Bor}
use Rattle.macho_members.specs.declared.inputs.ObjectNames.{ObjectNames}
use Rattle.macho_members.specs.declared.inputs.MemberPlace.{MemberPlace}
use Rattle.macho_members.specs.declared.inputs.Asked.{Asked}
use Rattle.macho_members.specs.declared.inputs.Asked.TheVariants.{Object, Library, Archive}
use Rattle.macho_members.specs.Inputs.{Names, Input}
use Rattle.macho_members.specs.Inputs as asked

-- names by their bytes
abbrev pub texts : List (Bor (List ℕ)) → List (List ℕ)
texts names = map (λ n. n.now) names

-- the names of an object or a member
abbrev pub names_of : ObjectNames → Names
names_of o = record { used = texts o.used.now; defined = texts o.defined.now }

-- an input
abbrev pub input_of : Asked → Input
input_of (Object names) = asked.Input.object (names_of names)
input_of (Library offered) = asked.Input.library (texts offered.now)
input_of (Archive whole members) = asked.Input.archive whole (map names_of members.now)

-- the inputs, in their order
abbrev pub inputs_of : List Asked → List Input
inputs_of inputs = map input_of inputs

-- the numbers of the archive and of the member in it
abbrev pub place_of : MemberPlace → ℕ × ℕ
place_of p = (p.archive, p.member)

-- the places in their order
abbrev pub places_of : List MemberPlace → List (ℕ × ℕ)
places_of places = map place_of places
