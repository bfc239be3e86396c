-- The field begins with `#1/`.
use Rattle.std.proofs.Common.{sym, ◌∙◌}
use Rattle.macho_archive.proofs.LongNames.{wide_named}
use Rattle.macho_archive.proofs.names.name_in.Goals as goal

pub returns-in-Some-clause-found : goal.returns-in-Some-clause-found
returns-in-Some-clause-found c =
    wide_named c.args.stem.now c.args.contents.now c.args.table.now c.in-Some.named (sym c.is_bsd.ensures.found ∙ c.if-is_bsd.true)
    c.in-Some.ensures
