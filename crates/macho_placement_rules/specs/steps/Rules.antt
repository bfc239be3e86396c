-- What the code's own steps over the rules say.
use Rattle.std.specs.Prelude.{◌≡◌, ℕ, ◌≤◌, ◌<◌, Bool, true, Option, Some, None, IfSome, if◌then◌else◌, not, All}
use Rattle.std.specs.Bool.{OnTrue}
use Rattle.macho_model.specs.declared.placed.Counts.{Counts}
use Rattle.macho_model.specs.Lists.{EachNext}
use Rattle.macho_model.specs.Links.{Link}
use Rattle.macho_model.specs.Segments.{TEXT, base_of_link}
use Rattle.macho_model.specs.Placement.{Placed, Follows, IsInNamed, IsPaged, IsPlaced, linkedit_ranges}
use Rattle.macho_placement_rules.specs.Lists.{RangeLies, TableLies}
use Rattle.macho_placement_rules.specs.Rules.{Rule, IsFirstBroken}
use Rattle.macho_placement_rules.specs.declared.rules.Kept.{Kept}

-- an answer decides a fact
pub record Tells (P : Type 0) (b : Bool) : Type 0 where
  pub found : OnTrue b P
  pub only : P → b ≡ true

-- all rules before a number hold
abbrev pub Before : Link → Counts → Placed → ℕ → Type 0
Before l counts p n = (k : ℕ) → 1 ≤ k → k < n → Rule l counts p k

-- each answer decides its rule
pub record TellsRules (l : Link) (counts : Counts) (p : Placed) (kept : Kept) : Type 0 where
  pub aligned : Tells (Rule l counts p 3) kept.aligned
  pub in_segment : Tells (Rule l counts p 4) kept.in_segment
  pub apart : Tells (Rule l counts p 5) kept.apart
  pub in_order : Tells (Rule l counts p 6) kept.in_order
  pub template : Tells (Rule l counts p 7) kept.template
  pub within_sum : Tells (Rule l counts p 8) kept.within_sum

-- the first rule from the third on that isn't kept
abbrev pub first_unkept : Kept → Option ℕ
first_unkept kept =
    if not kept.aligned then Some 3 else if not kept.in_segment then Some 4 else if not kept.apart then Some 5
    else if not kept.in_order then Some 6 else if not kept.template then Some 7 else if not kept.within_sum then Some 8 else None

-- what an answer says of a placement
pub record IsVerdict (l : Link) (counts : Counts) (p : Placed) (r : Option ℕ) : Type 0 where
  pub right : r ≡ None → IsPlaced l counts p
  pub first : IfSome r (IsFirstBroken l counts p)

-- the ranges that the linker fills, and the tables, lie in their segments
pub record MadeLie (p : Placed) : Type 0 where
  pub offsets : RangeLies p p.init_offsets
  pub unwind : RangeLies p p.unwind
  pub tables : All (TableLies p) (linkedit_ranges p)

-- segments are whole pages, stand one behind the other, and begin with `__TEXT` at the base
pub record AreInOrder (l : Link) (p : Placed) : Type 0 where
  pub paged : All IsPaged p.segments
  pub follow : EachNext (Follows l) p.segments
  pub begins : IsInNamed p TEXT (λ s. s.address ≡ base_of_link l)
