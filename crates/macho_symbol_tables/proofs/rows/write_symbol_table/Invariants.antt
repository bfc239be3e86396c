use Rattle.std.proofs.Common.{take, length}
use Rattle.std.specs.Prelude.{map}
use Rattle.std.specs.Option.{option_copied}
use Rattle.macho_model.specs.declared.placed.Counts.{Counts}
use Rattle.macho_model.specs.Links.{Link}
use Rattle.macho_linkedit.specs.TableRows.{row_of}
use Rattle.macho_layout.specs.Placements.{placed_of}
use Rattle.macho_linkedit.specs.Listing.{id_of_symbol}
use Rattle.macho_linkedit.specs.Symbols.{AreRowsWritten}
use Rattle.macho_symbol_tables.specs.Rows.{AreToList}
use Rattle.macho_symbol_tables.proofs.rows.write_symbol_table.Given as goal

-- the rows of the symbols so far are written
abbrev pub invariant-loop-symbol : goal.invariant-loop-symbol
invariant-loop-symbol g l =
    (k : Link) (counts : Counts)
    → AreToList k counts (placed_of l.placement) (g.P.Places.look l.places) l.objects l.listed (option_copied l.lists)
    → AreRowsWritten (length l.listed.symbols.items)
    (map (row_of k counts (placed_of l.placement)) (take l.symbol-index (map id_of_symbol l.listed.symbols.items)))
    l.table l.fn.out l.out
