-- Plain entries are pushed into no others, and then the own ones behind them; the format is 1 exactly where there are none.
use Rattle.std.proofs.Common.{ap, sym, ◌∙◌}
use Rattle.macho_linkedit.proofs.LinkEntries.{format_for, table_is, table_fits}
use Rattle.macho_linkedit.proofs.imports.import_table.Goals as goal
use Rattle.macho_linkedit.proofs.imports.import_table.Goals.{then-is_empty, else-is_empty}

pub returns-clause-fits : goal.returns-clause-fits
returns-clause-fits c =
    table_fits c.args.imports.now c.args.own.now c.args.libraries.now c.add_own.new.entries.items c.in_ok-names.names.items
    c.is_empty.result
    c.if-is_empty.format c.requires
    (record { plain = c.add_plain.new.entries.items; first = c.in_ok-names.ensures; behind = c.in_ok-add_own.ensures })
    c.is_empty.ensures
    (elim c.if-is_empty.branch [
      | then-is_empty w ↦ w.format-is ∙ ap format_for (sym w.if-is_empty.true)
      | else-is_empty w ↦ w.format-is ∙ ap format_for (sym w.if-is_empty.false)
    ])

pub returns-clause-done : goal.returns-clause-done
returns-clause-done c l are =
    table_is l c.args.imports.now c.args.own.now c.args.libraries.now c.add_own.new.entries.items c.in_ok-names.names.items
    c.is_empty.result
    c.if-is_empty.format c.requires
    (record { plain = c.add_plain.new.entries.items; first = c.in_ok-names.ensures; behind = c.in_ok-add_own.ensures })
    c.is_empty.ensures
    (elim c.if-is_empty.branch [
      | then-is_empty w ↦ w.format-is ∙ ap format_for (sym w.if-is_empty.true)
      | else-is_empty w ↦ w.format-is ∙ ap format_for (sym w.if-is_empty.false)
    ])
    are
