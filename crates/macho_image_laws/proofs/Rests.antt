-- What the joint rests on of the crates below, and what is known of a composed image together.
use Rattle.std.specs.Prelude.{◌≡◌, ℕ, ◌+◌, ◌-◌, ◌^◌, ◌<◌, ◌≤◌, true, List, length, slice_index, All, Contains}
use Rattle.macho_records.specs.Sections.{is_zerofill}
use Rattle.macho_records.specs.Symbols.{common_size_of}
use Rattle.macho_model.specs.declared.placed.Counts.{Counts}
use Rattle.macho_model.specs.declared.placed.PlacedSegment.{PlacedSegment}
use Rattle.macho_model.specs.declared.placed.PlacedSection.{PlacedSection}
use Rattle.macho_model.specs.declared.placed.PlacedCommon.{PlacedCommon}
use Rattle.macho_model.specs.Links.{Link, header_at}
use Rattle.macho_model.specs.Resolution.{entry_at}
use Rattle.macho_model.specs.Placement.{Placed, IsPlaced, id_of, common_of}
use Rattle.macho_model.specs.Fixups.{ChainIsWhole}
use Rattle.macho_model.specs.Agreement.{SegmentsAgree}
use Rattle.macho_model.specs.HeldLaws.{TextsAreHeld, ZerosAreHeld, NumbersAreHeld, SlotsMove, ImportSlotsBind, PlainPointersStay}
use Rattle.macho_model.specs.SlideLaws.{FieldsMove, PointersMove, ImportPointersBind}
use Rattle.macho_model.specs.Supported.{RelocationsAreSupported}
use Rattle.macho_fixups.specs.Runs.{AreSegments}
use Rattle.macho_fixups.specs.Laws.{ChainsAreTold}
use Rattle.macho_arm64.specs.Laws.{StubsMove}
use Rattle.macho_promise.specs.FixupsSay.{fixup_segments}
use Rattle.macho_promise.specs.Sound.{IsSound}
use Rattle.macho_image_laws.specs.Composed.{FixupsAreWritten, ImportsAreWritten, IsComposed}
use Rattle.macho_image_laws.specs.Leads.{TargetsLead}

-- laws on memory: `what_no_word_covers_is_held` of macho_model
pub record MemoryLaws : Type 0 where
  pub texts : TextsAreHeld
  pub zeros : ZerosAreHeld
  pub numbers : NumbersAreHeld

-- laws on fields, slots and stubs at every slide: `fields_denote_at_every_slide`, `plain_pointers_stay`,
-- `slots_stand_at_every_slide` of macho_model, `fields_denote` of macho_arm64
pub record SlideLaws : Type 0 where
  pub fields : FieldsMove
  pub pointers : PointersMove
  pub imports : ImportPointersBind
  pub plain : PlainPointersStay
  pub slots : SlotsMove
  pub import_slots : ImportSlotsBind

-- all of them, with `chains_are_told` of macho_fixups
pub record RestsOn : Type 0 where
  pub memory : MemoryLaws
  pub slides : SlideLaws
  pub stubs : StubsMove
  pub chains : ChainsAreTold

-- Of a link and its placement: the placement, relocations, targets and the order of segments.
pub record IsReady (l : Link) (counts : Counts) (p : Placed) : Type 0 where
  pub placed : IsPlaced l counts p
  pub sound : RelocationsAreSupported l
  pub leads : TargetsLead l
  pub order : AreSegments (fixup_segments p)
  pub ends : All (λ (s : PlacedSegment). s.address + s.size ≤ 2 ^ 64) p.segments

-- Of the file: its segments, with room for them, and the chain.
pub record IsJoined (l : Link) (b : List ℕ) (p : Placed) : Type 0 where
  pub agree : SegmentsAgree b p
  pub room : All (λ (s : PlacedSegment). s.file_offset + s.file_size ≤ length b) p.segments
  pub chain : ChainIsWhole l b p
  pub fixups : FixupsAreWritten l b p
  pub imports : ImportsAreWritten l b

-- Bytes of the file are 0 where zeros are placed: in sections that have no bytes of their own, and in commons.
pub record AreZero (l : Link) (b : List ℕ) (p : Placed) : Type 0 where
  pub sections : (q : PlacedSection) (s : PlacedSegment) (a : ℕ) → Contains p.sections q → is_zerofill (header_at l (id_of q)) ≡ true
      → Contains p.segments s
      → s.address ≤ a → a < s.address + s.file_size → q.address ≤ a → a < q.address + (header_at l (id_of q)).size
      → slice_index b (s.file_offset + (a - s.address)) ≡ 0
  pub commons : (c : PlacedCommon) (s : PlacedSegment) (a : ℕ) → Contains p.commons c → Contains p.segments s → s.address ≤ a
      → a < s.address + s.file_size → c.address ≤ a → a < c.address + common_size_of (entry_at l (common_of l c.id))
      → slice_index b (s.file_offset + (a - s.address)) ≡ 0

-- A composed image of a link that leads.
pub record IsLed (l : Link) (counts : Counts) (uuid : List ℕ) (b : List ℕ) (p : Placed) : Type 0 where
  pub placed : IsPlaced l counts p
  pub sound : IsSound l
  pub leads : TargetsLead l
  pub composed : IsComposed l counts uuid b p
