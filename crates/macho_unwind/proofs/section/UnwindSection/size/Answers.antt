-- The size that is kept is that of the bytes.
use Rattle.std.proofs.Common.{List, ℕ, length, ap, ◌∙◌}
use Rattle.macho_unwind.proofs.Planned.{planned_long}
use Rattle.macho_unwind.proofs.section.UnwindSection.size.Goals as goal

pub returns : goal.returns
returns c = planned_long c.self.inside.plan c.self.inside.size c.self.invariant ∙ ap (λ (t : List ℕ). length t) c.self.view_is
