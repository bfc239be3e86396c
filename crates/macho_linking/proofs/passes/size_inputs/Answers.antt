-- What was planned is placed; a refusal of the placement stands for the sizes of the plan, which are those of the link.
use Rattle.std.proofs.Common.{subst}
use Rattle.std.specs.Prelude.{IfErr}
use Rattle.macho_model.specs.declared.placed.Counts.{Counts}
use Rattle.macho_answer.specs.Standing.{Stands}
use Rattle.macho_size_laws.proofs.One.{sizes_one}
use Rattle.macho_linking.proofs.Given.{stands_counted}
use Rattle.macho_linking.proofs.Handed.{has_sizes}
use Rattle.macho_linking.proofs.passes.size_inputs.Goals as goal

pub returns-clause-done : goal.returns-clause-done
returns-clause-done c =
    let l = c.args.linker.now in
    let planned = c.in_ok-planned.ensures.done in
    has_sizes l c.args.read.now planned.kept c.place_link.result planned.exports (c.place_link.ensures.done l planned.kept planned.plan)

pub returns-clause-why : goal.returns-clause-why
returns-clause-why c =
    let l = c.args.linker.now in
    let planned = c.in_ok-planned.ensures.done in
    stands_counted l c.place_link.result (λ counts are.
    subst (λ (n : Counts). IfErr c.place_link.result (Stands l n))
    (sizes_one l c.in_ok-planned.planned.sizes.counts counts planned.plan.sizes.counted are)
    (c.place_link.ensures.why l planned.kept planned.plan))
