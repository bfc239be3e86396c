-- What follows of a composed image: the contracts of the functions of `src/laws.rt`.
use Rattle.std.specs.Prelude.{◌≡◌, ℕ, ◌%◌, false, List, length, All, Contains}
use Rattle.macho_records.specs.Sections.{is_zerofill}
use Rattle.macho_model.specs.declared.placed.Counts.{Counts}
use Rattle.macho_model.specs.declared.placed.PlacedSection.{PlacedSection}
use Rattle.macho_model.specs.declared.placed.Stub.{Stub}
use Rattle.macho_model.specs.Links.{Link, header_at}
use Rattle.macho_model.specs.WrittenSum.{STUB_SIZE}
use Rattle.macho_model.specs.Segments.{SEGMENT_PAGE}
use Rattle.macho_model.specs.Placement.{Placed, id_of, IsPlaced}
use Rattle.macho_model.specs.Fixups.{ChainIsWhole}
use Rattle.macho_model.specs.Loader.{IsAccepted}
use Rattle.macho_model.specs.Memory.{Choice, BindsAll}
use Rattle.macho_model.specs.Stands.{ImageStands, IsLoadable}
use Rattle.macho_fixups.specs.declared.run.Fixup.{Fixup}
use Rattle.macho_fixups.specs.Runs.{AreFixups, AreSegments}
use Rattle.macho_fixups.specs.Chains.{AreWritten}
use Rattle.macho_promise.specs.FixupsSay.{IsFixupOf, fixup_segments}
use Rattle.macho_promise.specs.Filled.{IsFilled, StubIsSet, bytes_in_file}
use Rattle.macho_model.specs.Valid.{IsValid}
use Rattle.macho_promise.specs.Sound.{IsSound}
use Rattle.macho_image_laws.specs.Composed.{IsComposed}
use Rattle.macho_image_laws.specs.Leads.{TargetsLead, PersonalitiesFit}
use Rattle.macho_model.specs.Grammar.{ObjectsAreRead}

-- A sound link, whose objects are objects, is placed.
pub record IsPlacedLink (l : Link) (counts : Counts) (p : Placed) : Type 0 where
  pub objects : ObjectsAreRead l
  pub sound : IsSound l
  pub personalities : PersonalitiesFit l
  pub placed : IsPlaced l counts p

-- And an image of it is composed of its parts.
pub record IsComposedOf (l : Link) (counts : Counts) (uuid : List ℕ) (b : List ℕ) (p : Placed) : Type 0 where
  pub link : IsPlacedLink l counts p
  pub composed : IsComposed l counts uuid b p

-- the image stands at every slide of whole pages, for every choice that binds all imports
abbrev pub ComposedStands : Type 0
ComposedStands =
    (l : Link) (counts : Counts) (uuid b : List ℕ) (p : Placed) → IsComposedOf l counts uuid b p → (s : ℕ) (choice : Choice)
    → s % SEGMENT_PAGE ≡ 0
    → BindsAll b choice → ImageStands l b p s choice

-- its chain is the slots, and the pointers that need a fixup
abbrev pub ComposedChains : Type 0
ComposedChains = (l : Link) (counts : Counts) (uuid b : List ℕ) (p : Placed) → IsComposedOf l counts uuid b p → ChainIsWhole l b p

-- the loader accepts it
abbrev pub ComposedIsAccepted : Type 0
ComposedIsAccepted = (l : Link) (counts : Counts) (uuid b : List ℕ) (p : Placed) → IsComposedOf l counts uuid b p → IsAccepted b

-- so the image is placed, accepted, and stands in memory
abbrev pub ComposedIsLoadable : Type 0
ComposedIsLoadable = (l : Link) (counts : Counts) (uuid b : List ℕ) (p : Placed) → IsComposedOf l counts uuid b p → IsLoadable l counts b p

-- fields of a sound link lie in their sections, and slots and pointers of the loader lead to what has a place
abbrev pub LinksLead : Type 0
LinksLead = (l : Link) → ObjectsAreRead l → IsSound l → PersonalitiesFit l → TargetsLead l

-- The words of a link's fixups are written over a file.
pub record WordsAreWritten (l : Link) (p : Placed) (fixups : List Fixup) (before now : List ℕ) : Type 0 where
  pub order : AreSegments (fixup_segments p)
  pub run : AreFixups (fixup_segments p) fixups
  pub each : All (IsFixupOf l p) fixups
  pub written : AreWritten (fixup_segments p) fixups (length fixups) before now

-- a section that was filled is filled
abbrev pub SectionsStayFilled : Type 0
SectionsStayFilled =
    (l : Link) (counts : Counts) (p : Placed) (fixups : List Fixup) (before now : List ℕ) (q : PlacedSection) → IsPlacedLink l counts p
    → WordsAreWritten l p fixups before now → Contains p.sections q → is_zerofill (header_at l (id_of q)) ≡ false
    → IsFilled l p q (bytes_in_file before p q.address (header_at l (id_of q)).size)
    → IsFilled l p q (bytes_in_file now p q.address (header_at l (id_of q)).size)

-- a stub that was set is set
abbrev pub StubsStaySet : Type 0
StubsStaySet =
    (l : Link) (counts : Counts) (p : Placed) (fixups : List Fixup) (before now : List ℕ) (stub : Stub) → IsPlacedLink l counts p
    → WordsAreWritten l p fixups before now → Contains p.stubs stub → StubIsSet p stub (bytes_in_file before p stub.address STUB_SIZE)
    → StubIsSet p stub (bytes_in_file now p stub.address STUB_SIZE)

-- a valid link is sound
abbrev pub ValidIsSound : Type 0
ValidIsSound = (l : Link) (counts : Counts) → IsValid l counts → IsSound l × PersonalitiesFit l
