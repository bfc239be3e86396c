-- The words on the chains of an image against those that its link needs.
use Rattle.std.specs.Prelude.{ℕ, ◌<◌, ◌⊎◌, ◌↔◌, List, map, Option, Some, None, Contains}
use Rattle.macho_model.specs.Chain.{OnChainOf}
use Rattle.macho_image_rules.specs.declared.chain.Needed.{Needed}

-- a word at an address is needed
abbrev pub IsNeeded : List Needed → ℕ → Type 0
IsNeeded needed a = Contains (map (λ n. n.address) needed) a

-- at an address there is a word on the chains exactly where one is needed
abbrev pub IsAsNeeded : List ℕ → List Needed → ℕ → Type 0
IsAsNeeded b needed a = OnChainOf b a ↔ IsNeeded needed a

-- An address is on the chains and not needed, or needed and not on the chains, and no lower one is.
pub record DiffersFirst (b : List ℕ) (needed : List Needed) (a : ℕ) : Type 0 where
  pub one : (OnChainOf b a × (IsNeeded needed a → ⊥)) ⊎ (IsNeeded needed a × (OnChainOf b a → ⊥))
  pub before : (c : ℕ) → c < a → IsAsNeeded b needed c

-- the first such address, or none where there is none
abbrev pub IsFirstDifference : List ℕ → List Needed → Option ℕ → Type 0
IsFirstDifference b needed None = (a : ℕ) → IsAsNeeded b needed a
IsFirstDifference b needed (Some a) = DiffersFirst b needed a
