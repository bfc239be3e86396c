-- The fixup table of a placement, in the range that is kept for it.
use Rattle.std.specs.Prelude.{◌≡◌, ℕ, ◌≤◌, List, length, replicate}
use Rattle.macho_bytes.specs.Texts.{put}
use Rattle.macho_model.specs.Head.{range_size}
use Rattle.macho_model.specs.Images.{import_entry_size}
use Rattle.macho_model.specs.Placement.{Placed}
use Rattle.macho_fixups.specs.declared.run.Fixup.{Fixup}
use Rattle.macho_fixups.specs.Calls.{AreEntries, FitsTable, all_pages}
use Rattle.macho_fixups.specs.Tables.{table_room, table_text}
use Rattle.macho_fixups.specs.Readings.{TableReadsBack}
use Rattle.macho_promise.specs.FixupsSay.{fixup_segments}
use Rattle.macho_linkedit.specs.declared.imports.ImportTable.{ImportTable}

-- the room that a table of a run needs
abbrev pub room_of : Placed → List Fixup → ImportTable → ℕ
room_of p run t =
    table_room (length t.entries.items) (import_entry_size t.format) (length t.names.items) (all_pages run (fixup_segments p))

-- A table of a run and of imports has room in the range that is kept for it, which lies in a file of n bytes.
pub record FitsRange (p : Placed) (run : List Fixup) (t : ImportTable) (n : ℕ) : Type 0 where
  pub fits : FitsTable p.base run (fixup_segments p)
  pub entries : AreEntries t.format t.entries.items
  pub room : room_of p run t ≤ range_size p.linkedit.fixups
  pub inside : p.linkedit.fixups.end ≤ n

-- the table, and its range: the table, and zeros behind it
abbrev pub text_of_table : Placed → List Fixup → ImportTable → List ℕ
text_of_table p run t = table_text p.base run (fixup_segments p) t.format t.entries.items t.names.items

unfoldable pub text_of_range : Placed → List Fixup → ImportTable → List ℕ
text_of_range p run t = put 0 (text_of_table p run t) (replicate (range_size p.linkedit.fixups) 0)

-- THE table is put into its range, and whatever file it stands in tells it.
pub record TableIsPut (p : Placed) (run : List Fixup) (t : ImportTable) (before now : List ℕ) : Type 0 where
  pub put_is : now ≡ put p.linkedit.fixups.start (text_of_range p run t) before
  pub long : length (text_of_range p run t) ≡ range_size p.linkedit.fixups
  pub within : length (text_of_table p run t) ≤ range_size p.linkedit.fixups
  pub reads : TableReadsBack p.base run (fixup_segments p) t.format t.entries.items t.names.items
