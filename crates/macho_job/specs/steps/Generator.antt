-- Parts of the definitions of `Generator`, by names that proofs use.
use Rattle.std.specs.Prelude.{ℕ, List, ◌++◌, codes, decimal}

-- the name of the pointer beside it
abbrev pub pointer_name : ℕ → List ℕ
pointer_name i = codes "_p" ++ decimal i
