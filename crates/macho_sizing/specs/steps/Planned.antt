-- What is added to a plan, part by part.
use Rattle.std.specs.Prelude.{◌≡◌, ℕ, ◌++◌, List, map, All}
use Rattle.std.specs.List.{enumerate_from, position_or_len}
use Rattle.macho_model.specs.declared.targets.Target.{Target}
use Rattle.macho_model.specs.declared.targets.Target.TheVariants as target
use Rattle.macho_model.specs.Targets.{same_target}
use Rattle.macho_symbols.specs.declared.solved.Common.{Common}
use Rattle.macho_layout.specs.declared.spec.CommonSpec.{CommonSpec}
use Rattle.macho_layout.specs.declared.spec.StubSpec.{StubSpec}
use Rattle.macho_layout.specs.Plans.{Planning}

-- a chosen common by its number
abbrev pub common_spec : ℕ × Common → CommonSpec
common_spec c = record { id = c.0; size = c.1.size; align = c.1.align }

unfoldable pub common_specs : List Common → List CommonSpec
common_specs commons = map common_spec (enumerate_from 0 commons)

-- Stubs of these imports are added, each with the place of its import among slots.
pub record AddsStubs (slots stubs : List Target) (old new : Planning) : Type 0 where
  pub added : List StubSpec
  pub is : new ≡ record old { stubs = old.stubs ++ added }
  pub imports : map (λ s. target.Import s.import) added ≡ stubs
  pub through : All (λ s. s.slot ≡ position_or_len (same_target (target.Import s.import)) slots) added
