-- The rules of a placement by their numbers.
use Rattle.std.specs.Prelude.{◌≡◌, ℕ, ◌+◌, ◌%◌, ◌^◌, ◌≤◌, ◌<◌, ◌==◌, MatchBool, map, All, AllPairs}
use Rattle.macho_records.specs.Segments.{text_of}
use Rattle.macho_model.specs.declared.placed.Counts.{Counts}
use Rattle.macho_model.specs.Lists.{EachNext}
use Rattle.macho_model.specs.Links.{Link}
use Rattle.macho_model.specs.Segments.{TEXT, base_of_link, other_segments}
use Rattle.macho_model.specs.WrittenSum.{written_sum_of}
use Rattle.macho_model.specs.Placement.{Placed, AreApart, Follows, IsInNamed, IsInSegment, IsPaged, IsPlaced, IsWholeList, TemplateHolds, pieces_with}
use Rattle.macho_layout.specs.Plans.{IsPlanOf}
use Rattle.macho_placement_rules.specs.declared.rules.PlanLists.{PlanLists}

-- These lists are those of a link's plan, and its segments that have no place of their own, as its sections name them first.
pub record AreListsOf (l : Link) (lists : PlanLists) : Type 0 where
  pub plan : IsPlanOf l (record {
    executable = lists.executable;
    sections = lists.sections.now;
    commons = lists.commons.now;
    slots = lists.slots.now;
    stubs = lists.stubs.now;
  })
  pub others : map text_of lists.others.now ≡ other_segments l

-- The rule of a number, from 1 to 8, as `IsPlaced` has them.
unfoldable pub Rule : Link → Counts → Placed → ℕ → Type 0
Rule l counts p n =
    MatchBool (n == 1) (p.base ≡ base_of_link l)
    (MatchBool (n == 2) (IsWholeList l p)
    (MatchBool (n == 3) (All (λ c. c.start % 2 ^ c.exponent ≡ 0) (pieces_with l counts p p.sections))
    (MatchBool (n == 4) (IsInSegment l p)
    (MatchBool (n == 5) (AllPairs AreApart (pieces_with l counts p p.sections))
    (MatchBool (n == 6)
    (All IsPaged p.segments × EachNext (Follows l) p.segments × IsInNamed p TEXT (λ s. s.address ≡ base_of_link l))
    (MatchBool (n == 7) (TemplateHolds l counts p p.template)
    (All (λ s. s.address + s.size ≤ p.base + written_sum_of l counts) p.segments)))))))

-- A rule is the first that a placement breaks: all before it hold.
pub record IsFirstBroken (l : Link) (counts : Counts) (p : Placed) (n : ℕ) : Type 0 where
  pub within : (1 ≤ n) × (n ≤ 8)
  pub broken : Rule l counts p n → ⊥
  pub before : (k : ℕ) → 1 ≤ k → k < n → Rule l counts p k

-- a placement is right exactly where it keeps the eight rules
abbrev pub EightRules : Type 0
EightRules = (l : Link) (counts : Counts) (p : Placed) → ((k : ℕ) → 1 ≤ k → k ≤ 8 → Rule l counts p k) → IsPlaced l counts p

abbrev pub KeepsEight : Type 0
KeepsEight = (l : Link) (counts : Counts) (p : Placed) → IsPlaced l counts p → (k : ℕ) → 1 ≤ k → k ≤ 8 → Rule l counts p k
