use Rattle.std.proofs.Common.{◌+◌, length, ap, ◌∙◌, arith}
use Rattle.std.proofs.lemmas.List.{take_rest}
use Rattle.macho_bytes.specs.Texts.{name_of}
use Rattle.macho_symbol_names.specs.Notes.{end_at}
use Rattle.macho_symbol_names.proofs.Strings.{end_within}
use Rattle.macho_symbol_names.proofs.ends.end_of.Goals as goal

pub returns-clause-is : goal.returns-clause-is
unfolding end_at
returns-clause-is c =
    ap (λ name. c.args.at + length name) (c.name_bytes.ensures ∙ ap name_of (take_rest c.args.strings.now c.args.at))

pub returns-clause-to : goal.returns-clause-to
returns-clause-to c = omega (arith, returns-clause-is c, end_within c.args.strings.now c.args.at c.requires)
