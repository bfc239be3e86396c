-- Laws on what filling rests on: the contracts of functions of `src/laws.rt`.
use Rattle.std.specs.Prelude.{ℕ, ◌<◌, List, length, Contains}
use Rattle.macho_model.specs.declared.placed.Counts.{Counts}
use Rattle.macho_model.specs.declared.targets.Target.{Target}
use Rattle.macho_model.specs.declared.targets.Target.TheVariants as target
use Rattle.macho_model.specs.Lists.{IsNumber}
use Rattle.macho_model.specs.Grammar.{IsObject}
use Rattle.macho_model.specs.Links.{Object, Link, SectionId, section_id, carried_of}
use Rattle.macho_model.specs.Resolution.{chosen_commons}
use Rattle.macho_model.specs.Targets.{target_of_relocation}
use Rattle.macho_model.specs.Placement.{Placed, IsPlaced}
use Rattle.macho_fields.specs.Looks.{Leads, IsPlacedOnce, IsFound}

-- each thing that is placed has one address
abbrev pub PlacedOnce : Type 0
PlacedOnce = (l : Link) (counts : Counts) (p : Placed) → IsPlaced l counts p → IsPlacedOnce p

-- a target is a carried section, a chosen common, or no part of a link
abbrev pub LeadsInside : Link → Target → Type 0
LeadsInside l (target.Section file section offset) = Contains (carried_of l) (section_id file section)
LeadsInside l (target.Common id) = id < length (chosen_commons l)
LeadsInside l t = Unit {0}

-- Relocations of carried sections lead to carried sections, chosen commons, or no part of the link.
pub record TargetsAreKept (l : Link) : Type 0 where
  pub each : (s : SectionId) (r : ℕ) → Leads l s r → LeadsInside l (target_of_relocation l s r)

-- and then what they lead to has its place, its slot and its stub
abbrev pub FoundInPlacement : Type 0
FoundInPlacement = (l : Link) (counts : Counts) (p : Placed) → IsPlaced l counts p → TargetsAreKept l → IsFound l p

-- Each input that is an object keeps the rules of objects.
pub record ObjectsAreWhole (l : Link) : Type 0 where
  pub each : (file : ℕ) (bytes : List ℕ) → IsNumber l.inputs file (Object bytes) → IsObject bytes

-- and then its relocations lead inside the link
abbrev pub TargetsKept : Type 0
TargetsKept = (l : Link) → ObjectsAreWhole l → TargetsAreKept l
