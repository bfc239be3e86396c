use Rattle.std.proofs.Common.{ap, ◌∙◌}
use Rattle.macho_symbols.specs.Kept.{ResolvedRows}
use Rattle.macho_symbol_names.specs.Events.{event_at}
use Rattle.macho_symbols.specs.Targets.{defines_in}
use Rattle.macho_symbols.proofs.Targeted.{defines_here}
use Rattle.macho_symbols.proofs.resolved.Resolved.defines.Goals as goal

pub returns : goal.returns
returns c l noted is =
    c.defines.ensures
    ∙ ap (λ (r : ResolvedRows). defines_in r.files (event_at r.files c.args.file c.args.symbol)) c.self.view_is
    ∙ defines_here l noted c.args.self.now c.args.file c.args.symbol is c.requires
