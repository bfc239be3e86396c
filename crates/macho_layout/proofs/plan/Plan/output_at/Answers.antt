-- The table of names holds those of the sections.
use Rattle.std.proofs.Common.{sym, ap, ◌∙◌}
use Rattle.std.specs.Option.{unwrap_or}
use Rattle.std.proofs.lemmas.Option.{get_or_from_slice_get, unwrap_or-slice_get}
use Rattle.macho_layout.specs.Names.{COMMON_NAME}
use Rattle.macho_layout.proofs.plan.Plan.output_at.Goals as goal

pub returns-in-Some : goal.returns-in-Some
returns-in-Some c =
    rw (← c.self.view_is, ← c.self.invariant.0.keys_are) (sym (get_or_from_slice_get c.self.inside.keys.keys c.args.number _ COMMON_NAME
    (sym c.in-Some.ensures.key)))

pub returns-in-None : goal.returns-in-None
returns-in-None c =
    rw (← c.self.view_is, ← c.self.invariant.0.keys_are)
    (c.common_name.ensures ∙ ap (λ o. unwrap_or o COMMON_NAME) c.in-None.ensures.key
    ∙ unwrap_or-slice_get c.self.inside.keys.keys c.args.number COMMON_NAME)
