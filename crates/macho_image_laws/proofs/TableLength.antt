-- A fixup table ends with its names.
--
-- Its parts stand one behind the other: the header, the starts, the entries and the names, each as long as its definition counts.
use Rattle.std.proofs.Common.{◌≡◌, ℕ, ◌+◌, List, ◌++◌, length, arith}
use Rattle.std.specs.List.{flat_map}
use Rattle.std.proofs.lemmas.List.{length-append}
use Rattle.macho_fixups.specs.declared.run.Fixup.{Fixup}
use Rattle.macho_fixups.specs.declared.run.FixupSegment.{FixupSegment}
use Rattle.macho_fixups.specs.declared.imports.ImportEntry.{ImportEntry}
use Rattle.macho_fixups.specs.Tables.{image_starts_text, entry_text, table_header, names_place, table_text}
use Rattle.macho_fixups.proofs.TableTexts.{header_long}
use Rattle.macho_fixups.proofs.Rows.{starts_long, entries_long}
use Rattle.macho_bytes.specs.Spellings.{spelling}
use Rattle.macho_wire.specs.Spellings.{chained_fixups_header_rows}

pub table_long : (base : ℕ) (fixups : List Fixup) (ss : List FixupSegment) (format : ℕ) (es : List ImportEntry) (names : List ℕ)
    → length (table_text base fixups ss format es names) ≡ names_place fixups ss format es + length names
unfolding table_text
table_long base fixups ss format es names =
    let header = spelling chained_fixups_header_rows (table_header fixups ss format es) in
    let starts = image_starts_text base fixups ss in
    let entries = flat_map (entry_text format) es in
    omega (
      arith,
      length-append header (starts ++ (entries ++ names)),
      length-append starts (entries ++ names),
      length-append entries names,
      header_long (table_header fixups ss format es),
      starts_long base fixups ss,
      entries_long format es,
    )
