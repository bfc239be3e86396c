-- Parts of the definitions of `Stands`, by names that proofs use.
use Rattle.std.specs.Prelude.{◌≡◌, ℕ, ◌+◌, Contains, ◌<◌, List}
use Rattle.macho_model.specs.declared.placed.Stub.{Stub}
use Rattle.macho_model.specs.Placement.{Placed, common_of}
use Rattle.macho_model.specs.declared.placed.PlacedCommon.{PlacedCommon}
use Rattle.macho_records.specs.Symbols.{common_size_of}
use Rattle.macho_model.specs.Links.{Link, SectionId}
use Rattle.macho_model.specs.Resolution.{entry_at}
use Rattle.macho_model.specs.Memory.{Choice, Holds}
use Rattle.macho_model.specs.Fields.{Field}
use Rattle.macho_model.specs.Stands.{Kind, Says}

abbrev pub StubAt : Placed → ℕ → ℕ → ℕ → Type 0
StubAt p s id x = (stub : Stub) × Contains p.stubs stub × (stub.import ≡ id) × (x ≡ stub.address + s)

-- a chosen common is zeros over its size
abbrev pub CommonStands : Link → List ℕ → ℕ → Choice → PlacedCommon → Type 0
CommonStands l b s choice c = (i : ℕ) → i < common_size_of (entry_at l (common_of l c.id)) → Holds b s choice (c.address + i + s) 0

-- what a field says, by what is seen of it
abbrev pub SaysOf : Link → Placed → ℕ → Choice → SectionId → Field → (place word input : ℕ) → Kind → Type 0
SaysOf l p s choice id f place word input kind = Says l p s choice id f (record { place = place; word = word; input = input }) kind
