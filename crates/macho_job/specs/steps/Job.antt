-- Parts of the definitions of `Job`, by names that proofs use.
use Rattle.std.specs.Prelude.{ℕ, List, map}
use Rattle.std.specs.List.{range_with_len}
use Rattle.macho_model.specs.Links.{Object}
use Rattle.macho_job.specs.Generator.{generated_object, generated_path}
use Rattle.macho_job.specs.Job.{SourceFile}

-- the made objects, each under the path that it is told by
abbrev pub generated_files : ℕ → List SourceFile
generated_files n = map (λ i. record { path = generated_path i; input = Object (generated_object i n) }) (range_with_len 0 n)
