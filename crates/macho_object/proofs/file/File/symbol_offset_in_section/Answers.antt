use Rattle.std.proofs.Common.{◌≡◌, ◌<◌, false, rules}
use Rattle.macho_model.specs.Objects.{num_symbols}
use Rattle.macho_object.proofs.file.File.symbol_offset_in_section.Goals as goal

pub symbol_offset-requires-clause-fits : goal.symbol_offset-requires-clause-fits
symbol_offset-requires-clause-fits c =
    let kind : c.self.inside.outline.is_dynamic ≡ false = search rules in
    let among : c.args.index < num_symbols c.self.inside.outline.input.now = search rules in
    c.self.invariant.addresses kind c.args.index among
