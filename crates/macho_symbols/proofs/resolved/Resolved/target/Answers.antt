use Rattle.std.proofs.Common.{ap, ◌∙◌}
use Rattle.macho_symbols.specs.Kept.{ResolvedRows}
use Rattle.macho_symbol_names.specs.Events.{event_at}
use Rattle.macho_symbols.specs.Targets.{target_in}
use Rattle.macho_symbols.proofs.Targeted.{target_here}
use Rattle.macho_symbols.proofs.resolved.Resolved.target.Goals as goal

pub returns : goal.returns
returns c l noted is =
    c.target.ensures ∙ ap (λ (r : ResolvedRows). target_in r.files r.noted (event_at r.files c.args.file c.args.symbol)) c.self.view_is
    ∙ target_here l noted c.args.self.now c.args.file c.args.symbol is c.requires
