-- Parts of the definitions of `Loader`, by names that proofs use.
use Rattle.std.specs.Prelude.{ℕ, List}
use Rattle.macho_model.specs.Lists.{of_first}
use Rattle.macho_model.specs.Images.{Table, fixups_header}

abbrev pub import_count : List ℕ → List Table → ℕ
import_count b tables = of_first 0 (λ t. (fixups_header b t).imports_count) tables
