use Rattle.std.proofs.Common.{◌∙◌, ap, position}
use Rattle.macho_model.specs.Targets.{same_target}
use Rattle.macho_model.specs.declared.targets.Target.TheVariants as target
use Rattle.macho_needs.specs.Tables.{Numbered}
use Rattle.macho_needs.proofs.Mapped.{stub_found}
use Rattle.macho_needs.proofs.tables.Tables.stub_number.Goals as goal

pub returns : goal.returns
returns c = c.get_index_of.ensures.index ∙ stub_found c.self.inside.stubs.keys c.args.import
    ∙ ap (λ (t : Numbered). position (same_target (target.Import c.args.import)) t.stubs) c.self.view_is
