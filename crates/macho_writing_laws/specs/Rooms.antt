-- The words that the loader writes, and the table that tells of them: they stand where they may, and the room that is kept for
-- them suffices.
use Rattle.std.specs.Prelude.{ℕ, ◌+◌, ◌-◌, ◌^◌, ◌≤◌, List, length, Some, All, Contains}
use Rattle.macho_model.specs.declared.placed.Counts.{Counts}
use Rattle.macho_model.specs.declared.placed.PlacedSection.{PlacedSection}
use Rattle.macho_model.specs.declared.targets.Limit.TheVariants as limit
use Rattle.macho_model.specs.Links.{Link}
use Rattle.macho_model.specs.Placement.{Placed}
use Rattle.macho_model.specs.Fixups.{import_entries_of}
use Rattle.macho_model.specs.Images.{import_entry_size}
use Rattle.macho_model.specs.Limits.{PassesLimit}
use Rattle.macho_fixups.specs.declared.run.Fixup.{Fixup}
use Rattle.macho_fixups.specs.declared.imports.ImportEntry.{ImportEntry}
use Rattle.macho_fixups.specs.Runs.{AreSegments}
use Rattle.macho_fixups.specs.Chains.{HaveRoom}
use Rattle.macho_fixups.specs.Tables.{table_room}
use Rattle.macho_fixups.specs.Calls.{FitsTable, all_pages}
use Rattle.macho_promise.specs.FixupsSay.{fixup_segments}
use Rattle.macho_promise.specs.Sizes.{AreCounts}
use Rattle.macho_layout_laws.specs.Laws.{IsWhollyPlaced, NonePasses}
use Rattle.macho_fields.specs.Faults.{IsBadPlace}
use Rattle.macho_linkedit.specs.Runs.{PointersFit, IsRunOf}
use Rattle.macho_linkedit.specs.Imports.{IsImportTable}
use Rattle.macho_writing_laws.specs.Premises.{IsSoundlyPlaced}

-- no pointer that the loader writes stands where no word of a chain may
abbrev pub NoPlaceIsBad : Link → Placed → Type 0
NoPlaceIsBad l p = (q : PlacedSection) (r : ℕ) → Contains p.sections q → IsBadPlace l p q.file q.section r → ⊥

-- then a chain reaches all of them
abbrev pub PointersStand : Type 0
PointersStand =
    (l : Link) (counts : Counts) (p : Placed) → IsSoundlyPlaced l counts p → NoPlaceIsBad l p
    → length (import_entries_of l) ≤ 2 ^ 24 → PointersFit l p

-- the segments rise in memory and in the file, and no address passes 2 ^ 64
abbrev pub SegmentsRise : Type 0
SegmentsRise = (l : Link) (counts : Counts) (p : Placed) → IsWhollyPlaced l counts p → NonePasses l counts p
    → AreSegments (fixup_segments p)

abbrev pub SegmentsEndLow : Type 0
SegmentsEndLow =
    (l : Link) (counts : Counts) (p : Placed) → IsWhollyPlaced l counts p → NonePasses l counts p
    → All (λ s. s.address + s.size ≤ 2 ^ 64) p.segments

-- each word lies in the file, which ends with the signature
abbrev pub WordsHaveRoom : Type 0
WordsHaveRoom =
    (l : Link) (counts : Counts) (p : Placed) (fixups : List Fixup) → IsWhollyPlaced l counts p
    → HaveRoom (fixup_segments p) fixups p.linkedit.signature.end

-- no segment that the loader writes pointers in has more pages than a table tells
abbrev pub PagesAreFew : Link → Counts → Placed → Type 0
PagesAreFew l counts p = (number : ℕ) → PassesLimit l counts limit.Pages number (Some p) → ⊥

-- then the run of a link fits a table
abbrev pub RunsFitTables : Type 0
RunsFitTables =
    (l : Link) (counts : Counts) (p : Placed) (fixups : List Fixup) → IsSoundlyPlaced l counts p → PagesAreFew l counts p
    → IsRunOf l p fixups
    → FitsTable p.base fixups (fixup_segments p)

-- for which the range that is kept has room
abbrev pub TablesHaveRoom : Type 0
TablesHaveRoom =
    (l : Link) (counts : Counts) (p : Placed) (fixups : List Fixup) (format : ℕ) (entries : List ImportEntry) (names : List ℕ)
    → IsSoundlyPlaced l counts p → AreCounts l counts → IsRunOf l p fixups → IsImportTable l format entries names
    → table_room (length entries) (import_entry_size format) (length names) (all_pages fixups (fixup_segments p))
    ≤ p.linkedit.fixups.end - p.linkedit.fixups.start
