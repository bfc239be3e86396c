-- When the parts of an image stand in a file: of the link and its placement, of the head, of the tables of `__LINKEDIT`, of the
-- content of segments.
use Rattle.std.specs.Prelude.{◌≡◌, ℕ, ◌+◌, ◌-◌, ◌≤◌, ◌^◌, true, List, length, All}
use Rattle.macho_bytes.specs.Texts.{Stands}
use Rattle.macho_model.specs.declared.placed.Counts.{Counts}
use Rattle.macho_model.specs.Links.{Link}
use Rattle.macho_model.specs.Placement.{Placed}
use Rattle.macho_model.specs.Faults.{entry_is_defined}
use Rattle.macho_model.specs.Head.{HeadSays}
use Rattle.macho_model.specs.HeadCommands.{CommandsSay}
use Rattle.macho_model.specs.ImportTable.{ImportTableSays}
use Rattle.macho_model.specs.Made.{InitOffsetsSay}
use Rattle.macho_model.specs.SymbolEntries.{SymbolsSay}
use Rattle.macho_model.specs.Signature.{signature_text}
use Rattle.macho_model.specs.Zeros.{IsZeroElsewhere}
use Rattle.macho_fixups.specs.Runs.{AreSegments}
use Rattle.macho_signature.specs.declared.signature.Signer.{Signer}
use Rattle.macho_signature.specs.Sizes.{signed_by}
use Rattle.macho_promise.specs.FixupsSay.{fixup_segments}
use Rattle.macho_promise.specs.Sizes.{AreCounts}
use Rattle.macho_promise.specs.TrieSays.{TrieSays}
use Rattle.macho_promise.specs.UnwindSays.{UnwindSays}
use Rattle.macho_promise.specs.Promise.{IsLaidOut, IsLinked}
use Rattle.macho_placed_laws.specs.Agreement.{TrieFits, NamesAreWhole}
use Rattle.macho_head.specs.Signing.{IsSignerOf}
use Rattle.macho_image_laws.specs.Composed.{FixupsAreWritten, SectionIsWritten, StubIsWritten}
use Rattle.macho_image_laws.specs.Laws.{IsPlacedLink}
use Rattle.macho_image_laws.specs.Template.{TemplateIsTight}

-- The link is sound, its sizes are known, and its parts have their places.
pub record IsReady (l : Link) (counts : Counts) (p : Placed) : Type 0 where
  pub link : IsPlacedLink l counts p
  pub counted : AreCounts l counts
  pub laid_out : IsLaidOut l counts p
  pub entry : entry_is_defined l ≡ true
  pub segments : AreSegments (fixup_segments p) × All (λ s. s.address + s.size ≤ 2 ^ 64) p.segments
  pub template : TemplateIsTight l p p.template

-- A signature of what stands in front of it ends the file.
pub record IsSealed (l : Link) (b : List ℕ) (p : Placed) : Type 0 where
  pub size : length b ≡ p.linkedit.signature.end
  pub signer : Signer
  pub signs : IsSignerOf l p signer
  pub stands : Stands b
      (record { at = p.linkedit.signature.start; text = signature_text (signed_by signer p.linkedit.signature.start) b })

-- Header and load commands stand in front, are found there, and tell a trie that ends in its range.
pub record HeadStands (l : Link) (counts : Counts) (uuid : List ℕ) (b : List ℕ) (p : Placed) : Type 0 where
  pub text : HeadSays l counts uuid b p
  pub says : CommandsSay l counts uuid b p
  pub fits : TrieFits p says.trie
  pub names : NamesAreWhole l

-- The tables say what they have to.
pub record TablesStand (l : Link) (counts : Counts) (b : List ℕ) (p : Placed) : Type 0 where
  pub fixups : FixupsAreWritten l b p
  pub imports : ImportTableSays l b
  pub exports : TrieSays l b p
  pub symbols : SymbolsSay l counts b p

-- Sections and what the linker makes stand in their ranges, and all else is 0.
pub record ContentStands (l : Link) (b : List ℕ) (p : Placed) : Type 0 where
  pub sections : All (SectionIsWritten l b p) p.sections
  pub stubs : All (StubIsWritten b p) p.stubs
  pub initializers : InitOffsetsSay l b p
  pub unwind : UnwindSays l b p
  pub fits : length unwind.content ≤ p.unwind.end - p.unwind.start
  pub zeros : IsZeroElsewhere l b p (length unwind.content)

-- THE file is whole.
pub record IsWhole (l : Link) (counts : Counts) (uuid : List ℕ) (b : List ℕ) (p : Placed) : Type 0 where
  pub ready : IsReady l counts p
  pub head : HeadStands l counts uuid b p
  pub tables : TablesStand l counts b p
  pub content : ContentStands l b p
  pub sealed : IsSealed l b p

-- and then it is an image as promised
abbrev pub WholeIsLinked : Type 0
WholeIsLinked = (l : Link) (counts : Counts) (uuid b : List ℕ) (p : Placed) → IsWhole l counts uuid b p → IsLinked l counts uuid b p
