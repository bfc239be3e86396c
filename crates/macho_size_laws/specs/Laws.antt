-- A law on sizes: the contract of a function of `src/laws.rt`.
use Rattle.std.specs.Prelude.{◌≡◌}
use Rattle.macho_model.specs.declared.placed.Counts.{Counts}
use Rattle.macho_model.specs.Links.{Link}
use Rattle.macho_promise.specs.Sizes.{AreCounts}

-- a link has one list of sizes
abbrev pub SizesAreOne : Type 0
SizesAreOne = (l : Link) (counts others : Counts) → AreCounts l counts → AreCounts l others → counts ≡ others
