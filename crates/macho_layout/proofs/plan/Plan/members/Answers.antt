-- The members: one section or common more adds its member at the end.
use Rattle.std.proofs.Common.{List, ◌++◌, map, not, ap, ◌∙◌, arith}
use Rattle.std.proofs.lemmas.List.{take_all}
use Rattle.std.proofs.lemmas.List.Sums.{prefix_len-le-length}
use Rattle.macho_layout.specs.declared.spec.CommonSpec.{CommonSpec}
use Rattle.macho_layout.specs.declared.spec.OutputName.{OutputName}
use Rattle.macho_layout.specs.Plans.{Planning}
use Rattle.macho_layout.specs.Keys.{same_output}
use Rattle.macho_layout.specs.Names.{COMMON_NAME, section_outputs}
use Rattle.macho_layout.specs.Members.{section_member, common_member, members_of}
use Rattle.macho_layout.proofs.plan.Plan.members.Goals as goal

pub overflow_cast-commons : goal.overflow_cast-commons
overflow_cast-commons c =
    omega (
      arith,
      c.requires,
      c.common_output-commons.ensures,
      prefix_len-le-length (λ (x : OutputName). not (same_output COMMON_NAME x))
          (section_outputs c.args.self.now),
    )

pub returns : goal.returns
unfolding members_of
returns c =
    c.loop-common.invariant
    ∙ ap (λ (cs : List CommonSpec). map (section_member c.args.self.now) (c.args.self.now).sections ++ map
    (common_member c.args.self.now) cs)
    (take_all c.loop-common.common-index c.deref-common-items.result.now (omega arith) ∙ c.deref-common-items.ensures.value ∙ ap
    (λ (p : Planning). p.commons) c.self.view_is)
