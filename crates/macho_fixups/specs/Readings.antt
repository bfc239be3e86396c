-- What the loader reads of a table, wherever in a file it stands (`mach-o/fixup-chains.h`).
use Rattle.std.specs.Prelude.{◌≡◌, ℕ, ◌+◌, ◌<◌, ◌≤◌, ◌↔◌, true, List, length, map, get_or}
use Rattle.std.specs.List.{enumerate_from}
use Rattle.macho_bytes.specs.Texts.{Stands}
use Rattle.std.specs.Int.{w32, cast_unsigned}
use Rattle.macho_bytes.specs.Numbers.{signed}
use Rattle.macho_model.specs.SegmentCommand.{SegmentCommand}
use Rattle.macho_model.specs.Images.{Table, fixups_header, starts_count, page_starts, import_entry, segments_of, base_of}
use Rattle.macho_model.specs.Images as images
use Rattle.macho_model.specs.Chain.{ChainSegment, OnChain}
use Rattle.macho_model.specs.LoadRules.{table_fits}
use Rattle.macho_fixups.specs.declared.run.Fixup.{Fixup}
use Rattle.macho_fixups.specs.declared.run.FixupSegment.{FixupSegment}
use Rattle.macho_fixups.specs.declared.imports.ImportEntry.{ImportEntry}
use Rattle.macho_fixups.specs.Tables.{table_header, table_text, names_place}
use Rattle.macho_fixups.specs.Chains.{starts_in, chain_seen, ChainIsRun, AllStand, IsAddressOf}

-- a segment as chains see it, with the page starts that a table tells of its number
abbrev pub told_segment : List ℕ → Table → ℕ × FixupSegment → ChainSegment
told_segment b t (k, s) = record { address = s.address; file_offset = s.file_offset; file_size = s.file_size; starts = page_starts b t k }

abbrev pub told_segments : List ℕ → Table → List FixupSegment → List ChainSegment
told_segments b t segments = map (told_segment b t) (enumerate_from 0 segments)

-- an entry as the loader sees it; its addend is a number modulo 2 ^ 64
abbrev pub entry_seen : ImportEntry → images.ImportEntry
entry_seen e = record { library = e.library; name_offset = e.name_offset; addend = signed 32 (cast_unsigned w32 e.addend) }

-- The header, the number of segments, the page starts of each, and the names are those given.
pub record IsRead (b : List ℕ) (t : Table) (fixups : List Fixup) (segments : List FixupSegment) (format : ℕ) (imports : List ImportEntry)
    (names : List ℕ)
    : Type 0 where
  pub header : fixups_header b t ≡ table_header fixups segments format imports
  pub count : starts_count b t ≡ length segments
  pub starts : (k : ℕ) (d : FixupSegment) → k < length segments → page_starts b t k ≡ starts_in fixups (get_or segments k d)
  -- so where the words of the run stand too, the chain is the run
  pub told : told_segments b t segments ≡ map (chain_seen fixups) segments
  pub chain : ChainIsRun segments fixups → AllStand segments fixups b → (a : ℕ)
      → OnChain (told_segments b t segments) b a ↔ IsAddressOf fixups a
  pub entries : (k : ℕ) (d : ImportEntry) → k < length imports → import_entry b t k ≡ entry_seen (get_or imports k d)
  pub texts : Stands b (record { at = t.at + names_place fixups segments format imports; text = names })

-- A segment's command has the address and the file part of a segment.
pub record IsCommandOf (c : SegmentCommand) (s : FixupSegment) : Type 0 where
  pub address : c.vmaddr ≡ s.address
  pub file_offset : c.fileoff ≡ s.file_offset
  pub file_size : c.filesize ≡ s.file_size

-- The segments of a file are these, in order.
pub record AreSegmentsOf (b : List ℕ) (segments : List FixupSegment) : Type 0 where
  pub count : length (segments_of b) ≡ length segments
  pub each : (k : ℕ) (c : SegmentCommand) (d : FixupSegment) → k < length segments
      → IsCommandOf (get_or (segments_of b) k c) (get_or segments k d)

-- A table of so many bytes has room in its range of a file that has this base and these segments.
pub record HasTable (b : List ℕ) (t : Table) (base : ℕ) (segments : List FixupSegment) (size : ℕ) : Type 0 where
  pub inside : t.at + t.size ≤ length b
  pub room : size ≤ t.size
  pub begins : base_of b ≡ base
  pub agree : AreSegmentsOf b segments

-- In every file in which the table stands, they are read; and the loader takes it where base and segments are those given.
pub record TableReadsBack (base : ℕ) (fixups : List Fixup) (segments : List FixupSegment) (format : ℕ) (imports : List ImportEntry)
    (names : List ℕ)
    : Type 0 where
  pub read : (b : List ℕ) (t : Table) → Stands b (record { at = t.at; text = table_text base fixups segments format imports names })
      → IsRead b t fixups segments format imports names
  pub taken : (b : List ℕ) (t : Table) → Stands b (record { at = t.at; text = table_text base fixups segments format imports names })
      → HasTable b t base segments (length (table_text base fixups segments format imports names)) → table_fits b t ≡ true
