-- When an image is composed of the parts that a link and a placement of it ask for. What each field says is what the writer of
-- that part hands on, of the final bytes.
use Rattle.std.specs.Prelude.{◌≡◌, ℕ, ◌+◌, ◌-◌, ◌≤◌, false, List, length, All}
use Rattle.macho_bytes.specs.Texts.{Stands}
use Rattle.macho_records.specs.Sections.{is_zerofill}
use Rattle.macho_model.specs.declared.placed.Counts.{Counts}
use Rattle.macho_model.specs.declared.placed.PlacedSection.{PlacedSection}
use Rattle.macho_model.specs.declared.placed.Stub.{Stub}
use Rattle.macho_model.specs.declared.targets.Site.{Site}
use Rattle.macho_model.specs.Links.{Link, header_at}
use Rattle.macho_model.specs.WrittenSum.{STUB_SIZE}
use Rattle.macho_model.specs.Placement.{Placed, id_of}
use Rattle.macho_model.specs.Values.{BadRebase}
use Rattle.macho_model.specs.HeadCommands.{CommandsSay}
use Rattle.macho_model.specs.ImportTable.{ImportTableSays, LibrariesSay, names_text}
use Rattle.macho_model.specs.Zeros.{IsZeroElsewhere}
use Rattle.macho_fixups.specs.declared.imports.ImportEntry.{ImportEntry}
use Rattle.macho_fixups.specs.Runs.{AreFixups, AreSegments}
use Rattle.macho_fixups.specs.Chains.{AllStand, ChainIsRun}
use Rattle.macho_fixups.specs.Tables.{table_text}
use Rattle.macho_fixups.specs.Readings.{TableReadsBack}
use Rattle.macho_commands.specs.Laws.{HasRoom}
use Rattle.macho_promise.specs.FixupsSay.{FixupsSay, fixup_segments}
use Rattle.macho_model.specs.Fixups.{import_format}
use Rattle.macho_promise.specs.Promise.{Agrees}
use Rattle.macho_promise.specs.Filled.{IsFilled, StubIsSet, bytes_in_file}

-- The fixup table and the words of its chains are written: with what their writers promise of the run, and with its room.
pub record FixupsAreWritten (l : Link) (b : List ℕ) (p : Placed) : Type 0 where
  pub say : FixupsSay l b p
  -- chains can hold the run
  pub run : AreFixups (fixup_segments p) say.fixups
  -- the words stand, and their chain is the run
  pub words : AllStand (fixup_segments p) say.fixups b
  pub chain : ChainIsRun (fixup_segments p) say.fixups
  -- the table stands with its entries, and is read back
  pub entries : List ImportEntry
  pub text : Stands b (record {
    at = say.table.at;
    text = table_text p.base say.fixups (fixup_segments p) (import_format l) entries (names_text l);
  })
  pub table : TableReadsBack p.base say.fixups (fixup_segments p) (import_format l) entries (names_text l)
  -- the table lies in the range that is told, and that in the file
  pub room : length (table_text p.base say.fixups (fixup_segments p) (import_format l) entries (names_text l)) ≤ say.table.size
  pub inside : say.table.at + say.table.size ≤ length b
  -- each value that moves has a word
  pub encoded : (at : Site) → BadRebase l p at → ⊥

-- The imports and the libraries that the image names.
pub record ImportsAreWritten (l : Link) (b : List ℕ) : Type 0 where
  pub table : ImportTableSays l b
  pub libraries : LibrariesSay l b

-- a section that has bytes is filled, where it is placed in the file
abbrev pub SectionIsWritten : Link → List ℕ → Placed → PlacedSection → Type 0
SectionIsWritten l b p q =
    is_zerofill (header_at l (id_of q)) ≡ false → IsFilled l p q (bytes_in_file b p q.address (header_at l (id_of q)).size)

abbrev pub StubIsWritten : List ℕ → Placed → Stub → Type 0
StubIsWritten b p stub = StubIsSet p stub (bytes_in_file b p stub.address STUB_SIZE)

-- Sections and stubs are written, unwind information of so many bytes lies in its range, and all else is 0.
pub record ContentIsWritten (l : Link) (b : List ℕ) (p : Placed) : Type 0 where
  pub sections : All (SectionIsWritten l b p) p.sections
  pub stubs : All (StubIsWritten b p) p.stubs
  pub unwind : ℕ
  pub unwind_fits : unwind ≤ p.unwind.end - p.unwind.start
  pub zeros : IsZeroElsewhere l b p unwind

-- The header and the load commands are written, in a file that has room for the segments.
pub record HeadIsWritten (l : Link) (counts : Counts) (uuid : List ℕ) (b : List ℕ) (p : Placed) : Type 0 where
  pub says : CommandsSay l counts uuid b p
  pub room : HasRoom b p
  pub segments : AreSegments (fixup_segments p)

-- THE image is composed of its parts.
pub record IsComposed (l : Link) (counts : Counts) (uuid : List ℕ) (b : List ℕ) (p : Placed) : Type 0 where
  pub head : HeadIsWritten l counts uuid b p
  pub agrees : Agrees l counts b p
  pub fixups : FixupsAreWritten l b p
  pub imports : ImportsAreWritten l b
  pub content : ContentIsWritten l b p
