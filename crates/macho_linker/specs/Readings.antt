-- What the text of a stub says.
use Rattle.std.specs.Prelude.{◌≡◌, ℕ, List}
use Rattle.macho_model.specs.Links.{StubReading}
use Rattle.macho_promise.specs.Inputs.{IsStubInput}

-- A text is a stub that says one thing: by the grammar of stubs there is no other reading. (`∥ .. ∥₁` is that there is a proof,
-- whichever it is.)
abbrev pub SaysOneThing : List ℕ → Type 0
SaysOneThing text = (says : StubReading) × (∥ IsStubInput text says ∥₁ × ((other : StubReading) → IsStubInput text other → says ≡ other))
