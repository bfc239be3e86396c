use Rattle.std.proofs.Common.{ap, ◌∙◌, arith, not, ◌==◌, get_or, [], ◌<◌, length}
use Rattle.std.proofs.lemmas.List.{get_or_default}
use Rattle.macho_symbols.specs.declared.solved.TheConstants.{UNNUMBERED}
use Rattle.macho_symbols.specs.Kept.{noted_of}
use Rattle.macho_symbol_names.specs.Tables.{names_of}
use Rattle.macho_symbols.proofs.OpenNames.{numbered_is}
use Rattle.macho_symbols.proofs.solved.Solved.is_noted.Goals as goal

pub returns : goal.returns
returns c =
    let s = c.args.self.now in
    let within : c.args.number < length s.numbers.items = omega (arith, c.requires.entry, c.requires.solved.long) in
    ap (λ n. not (n == UNNUMBERED)) (c.index.ensures ∙ get_or_default s.numbers.items c.args.number c.index.result.now 0 within)
    ∙ numbered_is (noted_of s.imports.items) (get_or (names_of s.files.items s.table.entries.items) c.args.number [])
    (get_or s.numbers.items c.args.number 0)
    (c.requires.solved.numbers c.args.number within)
