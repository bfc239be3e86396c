-- What the writer of the table asks.
use Rattle.std.specs.Prelude.{◌≡◌, ℕ, ◌^◌, ◌<◌, ◌≤◌, ◌⊎◌, List, length, All, sum_by, pos}
use Rattle.macho_model.specs.Images.{IMPORT_FORMAT, IMPORT_ADDEND_FORMAT}
use Rattle.macho_fixups.specs.declared.run.Fixup.{Fixup}
use Rattle.macho_fixups.specs.declared.run.FixupSegment.{FixupSegment}
use Rattle.macho_fixups.specs.declared.imports.ImportEntry.{ImportEntry}
use Rattle.macho_fixups.specs.Runs.{AreFixups, AreSegments, pages_of}

-- the pages of all segments
abbrev pub all_pages : List Fixup → List FixupSegment → ℕ
all_pages fixups segments = sum_by (λ s. pages_of s fixups) segments

-- The entries fit a format.
pub record AreEntries (format : ℕ) (imports : List ImportEntry) : Type 0 where
  pub known : (format ≡ IMPORT_FORMAT) ⊎ (format ≡ IMPORT_ADDEND_FORMAT)
  pub plain : format ≡ IMPORT_FORMAT → All (λ e. e.addend ≡ pos 0) imports
  pub count : length imports ≤ 2 ^ 24
  pub names : All (λ e. e.name_offset < 2 ^ 23) imports

-- What a table needs of its segments.
pub record FitsTable (base : ℕ) (fixups : List Fixup) (segments : List FixupSegment) : Type 0 where
  pub run : AreFixups segments fixups
  pub order : AreSegments segments
  pub count : length segments ≤ 6
  pub pages : All (λ s. pages_of s fixups ≤ 65535) segments
  pub above : All (λ s. (pages_of s fixups ≡ 0) ⊎ (base ≤ s.address)) segments
