-- What is filled: sections and stubs as parts of the file, each at its place.
use Rattle.std.specs.Prelude.{◌≡◌, ℕ, ◌≤◌, List, [], ◌∷◌, length}
use Rattle.macho_bytes.specs.Texts.{Part, end_of}
use Rattle.macho_model.specs.declared.placed.PlacedSection.{PlacedSection}
use Rattle.macho_model.specs.declared.placed.Stub.{Stub}
use Rattle.macho_model.specs.Links.{Link}
use Rattle.macho_model.specs.Placement.{Placed}
use Rattle.macho_model.specs.Addresses.{offset_in_file}
use Rattle.macho_promise.specs.Filled.{IsFilled, StubIsSet}
use Rattle.macho_placed_laws.specs.Parts.{written}
use Rattle.macho_model.specs.Spans.{filled_sections}

-- parts are those of some things, one by one
abbrev pub ArePartsOf : {X : Type 0} → (X → Part → Type 0) → List X → List Part → Type 0
ArePartsOf IsPart [] [] = Unit {0}
ArePartsOf IsPart [] (part ∷ parts) = ⊥
ArePartsOf IsPart (x ∷ xs) [] = ⊥
ArePartsOf IsPart (x ∷ xs) (part ∷ parts) = IsPart x part × ArePartsOf IsPart xs parts

-- A section is filled at its place in a file of n bytes; an empty part stands anywhere.
pub record IsSectionPart (l : Link) (p : Placed) (n : ℕ) (q : PlacedSection) (part : Part) : Type 0 where
  pub place : 1 ≤ length part.text → part.at ≡ offset_in_file p q.address
  pub ends : end_of part ≤ n
  pub filled : IsFilled l p q part.text

-- A stub is set at its place.
pub record IsStubPart (p : Placed) (n : ℕ) (s : Stub) (part : Part) : Type 0 where
  pub place : part.at ≡ offset_in_file p s.address
  pub ends : end_of part ≤ n
  pub set : StubIsSet p s part.text

-- Each section that has bytes was filled, and nothing else changed.
pub record SectionsAreFilled (l : Link) (p : Placed) (old new : List ℕ) : Type 0 where
  pub parts : List Part
  pub each : ArePartsOf (IsSectionPart l p (length old)) (filled_sections l p) parts
  pub same : new ≡ written parts old

-- Each stub was set, and nothing else changed.
pub record StubsAreFilled (p : Placed) (old new : List ℕ) : Type 0 where
  pub parts : List Part
  pub each : ArePartsOf (IsStubPart p (length old)) p.stubs parts
  pub same : new ≡ written parts old

-- Sections, then stubs.
pub record ContentsAreFilled (l : Link) (p : Placed) (old new : List ℕ) : Type 0 where
  pub between : List ℕ
  pub sections : SectionsAreFilled l p old between
  pub long : length between ≡ length old
  pub stubs : StubsAreFilled p between new
