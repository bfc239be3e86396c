-- What is promised of the sizes and the placement of a link.
use Rattle.std.specs.Prelude.{◌≡◌, ℕ, List, None}
use Rattle.macho_model.specs.declared.placed.Counts.{Counts}
use Rattle.macho_model.specs.declared.targets.Limit.{Limit}
use Rattle.macho_model.specs.declared.targets.Limit.TheVariants as limit
use Rattle.macho_model.specs.Limits.{PassesLimit}
use Rattle.macho_model.specs.Links.{Link}
use Rattle.macho_model.specs.Placement.{Placed}
use Rattle.macho_promise.specs.Sizes.{AreCounts}
use Rattle.macho_size_laws.specs.Limits.{LimitsHold}
use Rattle.macho_layout.specs.Placements.{placed_of}
use Rattle.macho_layout.specs.Plans.{Planning, IsPlanOf}
use Rattle.macho_layout.specs.Sums.{FitsLimits}
use Rattle.macho_layout.specs.Laid.{IsLaidOut}
use Rattle.macho_layout_laws.specs.Laws.{IsWhollyPlaced}
use Rattle.macho_linkedit.specs.declared.exports.NamedExport.{NamedExport}
use Rattle.macho_linkedit.specs.Listing.{AreListed}
use Rattle.macho_linkedit.specs.Tries.{IsReserved}
use Rattle.macho_sizing.specs.declared.asked.LinkSizes.{LinkSizes}
use Rattle.macho_sizing.specs.declared.asked.PlannedLink.{PlannedLink}
use Rattle.macho_sizing.specs.declared.asked.SizedLink.{SizedLink}

-- The placement is laid out of a plan of the link.
pub record IsPlannedBy (l : Link) (counts : Counts) (p : Placed) : Type 0 where
  pub plan : Planning
  pub of_link : IsPlanOf l plan
  pub fits : FitsLimits plan counts
  pub laid : IsLaidOut plan counts p

-- a limit on how many symbols, libraries, personalities, imports or bytes of names there are: no plan is asked for it
abbrev pub IsOfNumbers : Limit → Type 0
IsOfNumbers limit.Segments = ⊥
IsOfNumbers limit.Sections = ⊥
IsOfNumbers what = Unit {0}

-- THE sizes of a link, whose exports are these. None of its numbers passes a limit; segments and sections aren't counted yet.
pub record AreSizesOf (l : Link) (exports : List NamedExport) (s : LinkSizes) : Type 0 where
  pub counted : AreCounts l s.counts
  pub numbers : (what : Limit) (number : ℕ) → IsOfNumbers what → PassesLimit l s.counts what number None → ⊥
  pub listed : AreListed l s.symbols
  pub reserved : IsReserved s.trie exports
  -- as much room as is counted
  pub room : s.trie.size ≡ s.counts.trie

-- THE plan and the sizes of a link, whose exports are these.
pub record IsPlannedOf (l : Link) (exports : List NamedExport) (p : PlannedLink) : Type 0 where
  pub plan : IsPlanOf l p.plan
  pub sizes : AreSizesOf l exports p.sizes

-- THE sizes and the placement of a link, whose exports are these.
pub record IsSizedOf (l : Link) (exports : List NamedExport) (s : SizedLink) : Type 0 where
  pub counted : AreCounts l s.counts
  pub placed : IsWhollyPlaced l s.counts (placed_of s.placement)
  pub planned : IsPlannedBy l s.counts (placed_of s.placement)
  pub limits : LimitsHold l s.counts (placed_of s.placement)
  pub listed : AreListed l s.symbols
  pub reserved : IsReserved s.trie exports
  -- as much room as is counted
  pub room : s.trie.size ≡ s.counts.trie
