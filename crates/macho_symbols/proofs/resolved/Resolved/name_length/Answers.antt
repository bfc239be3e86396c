-- The row of the symbol is that which is kept of it, and its name the symbol's own.
use Rattle.std.proofs.Common.{◌<◌, length, get_or, ap, sym, ◌∙◌, arith}
use Rattle.std.proofs.lemmas.List.{get_or_default}
use Rattle.macho_symbol_names.specs.Kept.{FileRows, no_file, no_row}
use Rattle.macho_symbols.specs.Kept.{ResolvedRows}
use Rattle.macho_symbols.proofs.Targeted.{name_here}
use Rattle.macho_symbols.proofs.resolved.Resolved.name_length.Goals as goal

pub returns : goal.returns
returns c l noted is global =
    let files = c.self.inside.solved.files.items in
    let within : c.args.file < length files = omega (arith, c.requires.0, ap (λ (r : ResolvedRows). length r.files) c.self.view_is) in
    c.name_length.ensures
    ∙ ap (λ (f : FileRows). length (get_or f.rows c.args.symbol no_row).name)
    (c.index.ensures ∙ sym (get_or_default files c.args.file no_file c.index.result.now within))
    ∙ ap (λ (r : ResolvedRows). length (get_or (get_or r.files c.args.file no_file).rows c.args.symbol no_row).name) c.self.view_is
    ∙ ap length (name_here l noted c.args.self.now c.args.file c.args.symbol is c.requires global)
