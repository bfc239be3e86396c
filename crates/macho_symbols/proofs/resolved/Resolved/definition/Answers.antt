use Rattle.std.proofs.Common.{ap, ◌∙◌}
use Rattle.macho_symbols.specs.Kept.{ResolvedRows}
use Rattle.macho_symbols.specs.Targets.{named_in}
use Rattle.macho_symbols.proofs.Targeted.{named_here}
use Rattle.macho_symbols.proofs.resolved.Resolved.definition.Goals as goal

pub returns : goal.returns
returns c l noted is =
    c.named.ensures ∙ ap (λ (r : ResolvedRows). named_in r.files r.noted c.args.name.now) c.self.view_is
    ∙ named_here l noted c.args.self.now c.args.name.now is
