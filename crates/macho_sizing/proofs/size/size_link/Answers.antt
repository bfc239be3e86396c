-- A refusal of the placement stands for the counts that were made, which are those of the link.
use Rattle.std.proofs.Common.{subst}
use Rattle.std.specs.Prelude.{IfErr}
use Rattle.macho_model.specs.declared.placed.Counts.{Counts}
use Rattle.macho_answer.specs.Standing.{Stands}
use Rattle.macho_size_laws.proofs.One.{sizes_one}
use Rattle.macho_sizing.proofs.size.size_link.Goals as goal

pub returns-clause-why : goal.returns-clause-why
returns-clause-why c l counts of_link lists are =
    let planned = c.in_ok-planned.ensures.done l of_link lists in
    subst (λ (n : Counts). IfErr c.place_link.result (Stands l n))
    (sizes_one l c.in_ok-planned.planned.sizes.counts counts planned.sizes.counted are)
    (c.place_link.ensures.why l c.args.asked.now.exports.now planned)
