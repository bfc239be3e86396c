use Rattle.std.proofs.Common.{ℕ, ◌^◌, false, ap, ◌∙◌}
use Rattle.macho_model.specs.Stands as stands
use Rattle.macho_arm64.specs.Laws.{size_for}
use Rattle.macho_tests.proofs.field_laws.field_of_a_branch.Goals as goal

pub returns : goal.returns
returns c =
    let agrees = c.kinds_agree.ensures.kinds c.args.relocation c.args.info c.requires.known in
    agrees.size false ∙ ap (λ (t : ℕ). size_for (stands.kind_of t false) (2 ^ c.args.relocation.r_length)) c.requires.branch
