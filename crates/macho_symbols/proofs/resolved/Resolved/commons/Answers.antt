use Rattle.std.proofs.Common.{ap, ◌∙◌, map}
use Rattle.macho_symbols.specs.Kept.{ResolvedRows}
use Rattle.macho_symbols.specs.Targets.{chosen_in}
use Rattle.macho_symbols.specs.steps.Solved.{common_told}
use Rattle.macho_symbols.proofs.Targeted.{commons_here}
use Rattle.macho_symbols.proofs.resolved.Resolved.commons.Goals as goal

pub returns : goal.returns
returns c l noted is =
    c.deref.ensures.value ∙ c.self.invariant.commons ∙ ap (λ (r : ResolvedRows). map common_told (chosen_in r.files)) c.self.view_is
    ∙ commons_here l noted c.args.self.now is
