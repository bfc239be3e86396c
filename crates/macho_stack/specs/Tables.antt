-- The tables of `__LINKEDIT`.
use Rattle.std.specs.Prelude.{ℕ, ◌+◌, ◌*◌, ◌/◌}
use Rattle.macho_bytes.specs.Numbers.{rounded_up}
use Rattle.macho_model.specs.declared.placed.Counts.{Counts}
use Rattle.macho_model.specs.declared.placed.Linkedit.{Linkedit}
use Rattle.macho_model.specs.declared.placed.Range64.{Range64}
use Rattle.macho_model.specs.WrittenSum.{FIXUP_RECORDS}
use Rattle.macho_model.specs.Rooms.{fixup_room, signature_room}

abbrev pub range_from : ℕ → ℕ → Range64
range_from start size = record { start = start; end = start + size }

-- where each table begins, behind the one before it
abbrev pub symbols_start : Counts → ℕ → ℕ → ℕ
symbols_start counts offset pages = rounded_up 8 (offset + fixup_room counts pages + counts.trie)

abbrev pub signature_start : Counts → ℕ → ℕ → ℕ
signature_start counts offset pages = rounded_up 16 (symbols_start counts offset pages + 16 * counts.symbols + counts.strings)

-- the tables from a file offset on
abbrev pub tables_at : Counts → ℕ → ℕ → Linkedit
tables_at counts offset pages = record {
  fixups = range_from offset (fixup_room counts pages);
  trie = range_from (offset + fixup_room counts pages) counts.trie;
  symtab = range_from (symbols_start counts offset pages) (16 * counts.symbols);
  strtab = range_from (symbols_start counts offset pages + 16 * counts.symbols) counts.strings;
  signature = range_from (signature_start counts offset pages) (signature_room counts (signature_start counts offset pages));
}

-- what the tables cost at most: without rounding, then what rounding may add, then the signature
abbrev pub tables_end : Counts → ℕ → ℕ → ℕ
tables_end counts offset pages =
    offset + FIXUP_RECORDS + counts.import_size * counts.imports + counts.name_bytes + 2 * pages + 14 + counts.trie + 7 + 16 *
    counts.symbols + counts.strings + 15

abbrev pub tables_cost : Counts → ℕ → ℕ → ℕ
tables_cost counts offset pages =
    tables_end counts offset pages + 108 + counts.identifier + 32 * (tables_end counts offset pages / 4096 + 1) + 4096
