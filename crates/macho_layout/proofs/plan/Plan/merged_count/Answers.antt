-- The table of names holds those of the sections.
use Rattle.std.proofs.Common.{◌≡◌, Bool, length, ap, ◌∙◌, arith}
use Rattle.macho_model.specs.Segments.{one_if}
use Rattle.macho_layout.specs.Plans.{Planning}
use Rattle.macho_layout.specs.Names.{has_new_commons, section_outputs}
use Rattle.macho_layout.proofs.Tests.{one_is, one_small}
use Rattle.macho_layout.proofs.plan.Plan.merged_count.Goals as goal

pub returns : goal.returns
returns c =
    let one : c.from.result ≡ one_if (has_new_commons c.args.self.now) = c.from.ensures ∙ one_is c.has_new_commons.result ∙ ap
    (λ (b : Bool). one_if b) c.has_new_commons.ensures in
    let many : c.len.result ≡ length (section_outputs c.args.self.now)
    = c.len.ensures.len ∙ ap length c.self.invariant.0.keys_are ∙ ap (λ (p : Planning). length (section_outputs p)) c.self.view_is in
    record { value = omega arith; small = omega (arith, c.len.ensures.small, c.from.ensures, one_small c.has_new_commons.result) }
