use Rattle.std.proofs.Common.{◌≡◌, ℕ, ◌<◌, ◌++◌, map}
use Rattle.std.specs.List.{range_with_len}
use Rattle.macho_model.specs.Grammar.{IsObject}
use Rattle.macho_model.specs.Links.{Object}
use Rattle.macho_job.specs.Generator.{generated_object, generated_path}
use Rattle.macho_job.specs.Names.{names_of}
use Rattle.macho_job.proofs.made.add_made.Given as goal

-- the objects so far are added
abbrev pub invariant-loop-index : goal.invariant-loop-index
invariant-loop-index l =
    (l.linker ≡ record l.initial.linker {
      inputs = l.initial.linker.inputs ++ map (λ k. Object (generated_object k l.count))
          (range_with_len 0 l.index);
    })
    × ((k : ℕ) → k < l.index → IsObject (generated_object k l.count))
    × (names_of l.names ≡ map generated_path (range_with_len 0 l.index))
