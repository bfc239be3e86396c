-- The stubs of a placement in an image: what a walk over them rests on, and what it tells.
use Rattle.std.specs.Prelude.{◌≡◌, ℕ, ◌+◌, ◌≤◌, true, List, All, Contains}
use Rattle.macho_records.specs.Numbers.{le_at}
use Rattle.macho_model.specs.declared.placed.Counts.{Counts}
use Rattle.macho_model.specs.declared.placed.PlacedSegment.{PlacedSegment}
use Rattle.macho_model.specs.declared.placed.Stub.{Stub}
use Rattle.macho_model.specs.Lists.{IsNumber}
use Rattle.macho_model.specs.Links.{Link}
use Rattle.macho_model.specs.Segments.{TEXT}
use Rattle.macho_model.specs.Placement.{Placed, IsPlaced, is_segment_named}
use Rattle.macho_verify_laws.specs.InFile.{StubSays}
use Rattle.macho_image_rules.specs.Segments.{SegmentsAre}
use Rattle.macho_image_rules.specs.Commons.{LiesMapped}
use Rattle.macho_image_rules.specs.declared.stubs.StubWords.{StubWords}

-- the three words that stand one behind the other
abbrev pub words_in : List ℕ → StubWords
words_in bytes = record { adrp = le_at 4 bytes 0; ldr = le_at 4 bytes 4; br = le_at 4 bytes 8 }

-- There is a `__TEXT`, and each holds the 12 bytes of a placed stub in its file part.
pub record StubLies (b : List ℕ) (p : Placed) (stub : Stub) : Type 0 where
  pub some : (s : PlacedSegment) × Contains p.segments s × (is_segment_named TEXT s ≡ true)
  pub each : (s : PlacedSegment) → Contains p.segments s → is_segment_named TEXT s ≡ true → LiesMapped b s stub.address 12
  pub filed : (s : PlacedSegment) → Contains p.segments s → is_segment_named TEXT s ≡ true → stub.address + 12 ≤ s.address + s.file_size

abbrev pub StubsLie : List ℕ → Placed → Type 0
StubsLie b p = All (StubLies b p) p.stubs

-- all stubs of a placed link lie so, where the image's segments are the placement's
abbrev pub PlacedStubsLie : Type 0
PlacedStubsLie = (l : Link) (counts : Counts) (b : List ℕ) (p : Placed) → IsPlaced l counts p → SegmentsAre b p → StubsLie b p

-- The stub of a number goes on through no slot of its import.
pub record IsWrongStub (b : List ℕ) (p : Placed) (number : ℕ) : Type 0 where
  pub stub : Stub
  pub is : IsNumber p.stubs number stub
  pub other : StubSays b p stub → ⊥
