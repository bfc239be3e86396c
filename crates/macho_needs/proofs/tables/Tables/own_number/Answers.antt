use Rattle.std.proofs.Common.{◌∙◌, ap, position}
use Rattle.macho_model.specs.Fixups.{same_entry}
use Rattle.macho_needs.specs.Tables.{Numbered}
use Rattle.macho_symbols.specs.Entries.{entry_of}
use Rattle.macho_needs.proofs.Mapped.{own_found}
use Rattle.macho_needs.proofs.tables.Tables.own_number.Goals as goal

pub returns : goal.returns
returns c = c.get_index_of.ensures.index ∙ own_found c.self.inside.own.keys c.args.entry
    ∙ ap (λ (t : Numbered). position (same_entry (entry_of c.args.entry)) t.own) c.self.view_is
