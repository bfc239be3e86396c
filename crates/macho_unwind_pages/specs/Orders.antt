-- Numbers in an order, each once.
use Rattle.std.specs.Prelude.{◌==◌, ℕ, Bool, if◌then◌else◌, List, [], ◌∷◌}

-- a number put in its place among numbers that stand in an order, unless it is one of them
unfoldable pub put_in_order : (ℕ → ℕ → Bool) → ℕ → List ℕ → List ℕ
put_in_order before x [] = x ∷ []
put_in_order before x (y ∷ ys) =
    if x == y then y ∷ ys else (if before x y then x ∷ y ∷ ys else y ∷ put_in_order before x ys)

-- the numbers of a list in an order, each once
unfoldable pub in_order : (ℕ → ℕ → Bool) → List ℕ → List ℕ
in_order before [] = []
in_order before (x ∷ xs) = put_in_order before x (in_order before xs)
