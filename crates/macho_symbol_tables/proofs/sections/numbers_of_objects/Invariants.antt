use Rattle.std.proofs.Common.{◌≡◌, map, take}
use Rattle.indexmap.specs.IndexMap.{get}
use Rattle.macho_model.specs.Placement.{Placed}
use Rattle.macho_layout.specs.Keys.{same_output}
use Rattle.macho_symbol_tables.specs.steps.Sections.{FindsNumbers, objects_told}
use Rattle.macho_symbol_tables.proofs.sections.numbers_of_objects.Given as goal

-- the numbers of the objects so far
abbrev pub invariant-loop-object : goal.invariant-loop-object
invariant-loop-object l =
    (p : Placed) → FindsNumbers p (get same_output l.by_name)
    → map (λ numbers. numbers.items) l.all.items ≡ objects_told p (take l.object-index l.objects)
