-- Links that differ in libraries alone that are alike: in a library and its text stub, say.
use Rattle.std.specs.Prelude.{◌≡◌, ◌⊎◌}
use Rattle.std.specs.List.{AllZip}
use Rattle.macho_model.specs.Links.{Link, Input, Dylib, Stub}
use Rattle.macho_promise.specs.Inputs.{IsStubInput}
use Rattle.macho_tbd.specs.Answer.{AreAlike, IsStubOf}

-- two inputs are the same, or libraries that are alike: they have one install name, and offer the same names
abbrev pub AreAlikeInputs : Input → Input → Type 0
AreAlikeInputs x y = (x ≡ y) ⊎ AreAlike x y

-- all but the inputs of two links is equal
abbrev pub AreEqualElse : Link → Link → Type 0
AreEqualElse l m = m ≡ record l { inputs = m.inputs }

-- Two links are equal but for their inputs, and these are alike, each at its place.
pub record AreAlikeLinks (l m : Link) : Type 0 where
  pub inputs : AllZip AreAlikeInputs l.inputs m.inputs
  pub rest : AreEqualElse l m

-- an input is the text stub of a dynamic library: the stated text, with what it says by the grammar of stubs
abbrev pub StandsFor : Input → Input → Type 0
StandsFor (Stub text says) (Dylib b) = IsStubOf b text × IsStubInput text says
StandsFor x y = ⊥

-- Two links are equal but for some inputs: where the first holds a library, the second holds its stub.
pub record HoldsStubs (l m : Link) : Type 0 where
  pub inputs : AllZip (λ x y. (x ≡ y) ⊎ StandsFor y x) l.inputs m.inputs
  pub rest : AreEqualElse l m
