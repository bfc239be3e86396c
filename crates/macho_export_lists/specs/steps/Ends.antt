-- The parts of patterns, and where they stand in names.
use Rattle.std.specs.Prelude.{◌≡◌, ℕ, ◌-◌, ◌==◌, nat_lt, not, Bool, false, All, List, length, drop}
use Rattle.std.specs.List.{before_first, suffix_len}
use Rattle.memchr.specs.Find.{OccursAt}
use Rattle.macho_model.specs.ExportLists.{STAR}
use Rattle.macho_export_lists.specs.declared.ends.Where.{Where}
use Rattle.macho_export_lists.specs.declared.ends.Where.TheVariants.{Front, Anywhere, Back}

-- what stands in front of the first star, all of it where there is none
abbrev pub front_of : List ℕ → List ℕ
front_of pattern = before_first (λ b. b == STAR) pattern

-- what stands behind the last star, all of it where there is none
abbrev pub back_of : List ℕ → List ℕ
back_of pattern = drop (length pattern - suffix_len (λ b. not (b == STAR)) pattern) pattern

-- Bytes that stand in a pattern one behind the other, without a star.
pub record IsRun (run pattern : List ℕ) : Type 0 where
  pub at : ℕ
  pub occurs : OccursAt pattern run at
  pub plain : All (λ b. (b == STAR) ≡ false) run

-- A text stands at the end of another one.
pub record IsTail (tail text : List ℕ) : Type 0 where
  pub at : ℕ
  pub is : tail ≡ drop at text

-- the parts of a pattern that each name which matches it has there
abbrev pub IsPart : Where → List ℕ → List ℕ → Type 0
IsPart Front part pattern = part ≡ front_of pattern
IsPart Anywhere part pattern = IsRun part pattern
IsPart Back part pattern = part ≡ back_of pattern

-- the first and the last place in a name of some length at which so many bytes may stand
abbrev pub first_place : Where → ℕ → ℕ → ℕ
first_place Front long count = 0
first_place Anywhere long count = 0
first_place Back long count = long - count

abbrev pub last_place : Where → ℕ → ℕ → ℕ
last_place Front long count = 0
last_place Anywhere long count = long - count
last_place Back long count = long - count

-- parts that stand anywhere are not looked up at all the places of a name of so many bytes
abbrev pub has_many_places : Where → ℕ → Bool
has_many_places Front long = false
has_many_places Anywhere long = nat_lt 256 long
has_many_places Back long = false
