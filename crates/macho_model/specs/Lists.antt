-- Words for lists of a link: which element has a number, and what holds of neighbours.
use Rattle.std.specs.Prelude.{◌≡◌, ℕ, ◌+◌, ◌<◌, List, [], ◌∷◌, length, get_or}

-- x is number k of a list, counted from 0
abbrev pub IsNumber : {X : Type 0} → List X → ℕ → X → Type 0
IsNumber xs k x = (k < length xs) × (get_or xs k x ≡ x)

-- what a function says of the first of some elements; something else where there is none
abbrev pub of_first : {X Y : Type 0} → Y → (X → Y) → List X → Y
of_first none f [] = none
of_first none f (x ∷ xs) = f x

-- a relation holds between each element of a list and the next one
abbrev pub EachNext : {X : Type 0} → (X → X → Type 0) → List X → Type 0
EachNext R xs = (k : ℕ) → (x : _) → (y : _) → IsNumber xs k x → IsNumber xs (k + 1) y → R x y
