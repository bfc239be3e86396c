use Rattle.std.proofs.Common.{List, length, ap}
use Rattle.macho_model.specs.declared.targets.Target.{Target}
use Rattle.macho_tests.proofs.model_laws.as_many_slots.Goals as goal

pub returns : goal.returns
returns c l m inputs lists =
    ap (λ (ts : List Target). length ts) (c.equal_lists_have_equal_needs.ensures.slots l m inputs lists)
