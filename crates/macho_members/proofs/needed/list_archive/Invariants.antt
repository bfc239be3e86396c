use Rattle.std.proofs.Common.{◌≡◌, ℕ, ◌<◌, ◌⊎◌, true, List}
use Rattle.macho_members.specs.Inputs.{Input}
use Rattle.macho_members.specs.Needs.{IsNeeded}
use Rattle.macho_members.specs.Views.{places_of}
use Rattle.macho_members.specs.steps.Taken.{AreListed}
use Rattle.macho_members.specs.steps.Held.{held}
use Rattle.macho_members.proofs.needed.list_archive.Given as goal

-- the members before this one are listed
abbrev pub invariant-loop-member : goal.invariant-loop-member
invariant-loop-member l =
    (inputs : List Input) → AreListed inputs l.archive 0 (places_of l.initial.places.items)
    → ((n : ℕ) → IsNeeded inputs l.archive n → (n < l.count) × ((l.whole ≡ true) ⊎ (held l.taken.keys l.archive n ≡ true)))
    → ((n : ℕ) → n < l.count → (l.whole ≡ true) ⊎ (held l.taken.keys l.archive n ≡ true) → IsNeeded inputs l.archive n)
    → AreListed inputs l.archive l.member (places_of l.places.items)
