-- The table of names holds those of the sections.
use Rattle.std.proofs.Common.{ap, ◌∙◌}
use Rattle.std.specs.List.{position_or_len}
use Rattle.macho_layout.specs.declared.spec.OutputName.{OutputName}
use Rattle.macho_layout.specs.Keys.{same_output}
use Rattle.macho_layout.proofs.Tests.{place_some, place_none}
use Rattle.macho_layout.proofs.plan.Plan.common_output.Goals as goal

pub returns-in-Some : goal.returns-in-Some
returns-in-Some c =
    rw (← c.self.view_is, ← c.self.invariant.0.keys_are)
    (place_some (same_output c.common_name.result) c.self.inside.keys.keys c.in-Some.number c.in-Some.ensures.index
    ∙ ap (λ (n : OutputName). position_or_len (same_output n) c.self.inside.keys.keys) c.common_name.ensures)

pub returns-in-None : goal.returns-in-None
returns-in-None c =
    rw (← c.self.view_is, ← c.self.invariant.0.keys_are)
    (c.len.ensures.len ∙ place_none (same_output c.common_name.result) c.self.inside.keys.keys c.in-None.ensures.index
    ∙ ap (λ (n : OutputName). position_or_len (same_output n) c.self.inside.keys.keys) c.common_name.ensures)
