use Rattle.std.proofs.Common.{sym, ◌∙◌}
use Rattle.macho_stub.proofs.Dashes.{column_cut}
use Rattle.macho_stub.proofs.reader.first_line.Goals as goal

pub after-requires : goal.after-requires
after-requires c = rw c.key_column-column.ensures
    (column_cut c.args.text.now c.utf8.text (sym c.has_dash.ensures ∙ c.if-not-has_dash.false))
