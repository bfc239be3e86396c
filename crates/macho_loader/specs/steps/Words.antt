-- What the walks along the chains say of the words that they came to.
use Rattle.std.specs.Prelude.{◌≡◌, ℕ, ◌<◌, ◌^◌, List, All, true}
use Rattle.macho_model.specs.Images.{segments_of}
use Rattle.macho_model.specs.Loader.{WordFits}
use Rattle.macho_model.specs.declared.rules.LoadRule.{LoadRule}
use Rattle.macho_model.specs.declared.rules.LoadRule.TheVariants.{L10}
use Rattle.macho_model.specs.Lists.{EachNext}
use Rattle.macho_image_walks.specs.declared.walk.Listed.TheVariants as list
use Rattle.macho_image_walks.specs.Readings.{IsNth, HasWord, segment_there}
use Rattle.macho_image_walks.specs.steps.Walks.{Leads}
use Rattle.macho_image_walks.specs.steps.WordTests.{address_in, FitFrom}
use Rattle.macho_loader.specs.declared.word_rules.Chained.{Chained}
use Rattle.macho_model.specs.SegmentRules.{begins_behind, file_part_inside}

-- the segments stand in order, and their file bytes in their memory: so no two of them have a word at one address
pub record StandApart (b : List ℕ) : Type 0 where
  pub inside : All (λ s. file_part_inside b s ≡ true) (segments_of b)
  pub rise : EachNext (λ s t. begins_behind s t ≡ true) (segments_of b)

-- what the rule of chain words needs
abbrev pub ReadyFor : List ℕ → LoadRule → Type 0
ReadyFor b rule = rule ≡ L10 → StandApart b

-- a segment by its number and its command, and the first fixup table
pub record IsChained (b : List ℕ) (s : Chained) : Type 0 where
  pub table : IsNth list.Tables b 0 s.table
  pub nth : IsNth list.Segments b s.number s.place

-- a word of a segment that fits in a page
pub record IsFittingWord (b : List ℕ) (place page a word : ℕ) : Type 0 where
  pub fits : WordFits b (segment_there b place) page a
  pub has : HasWord b (segment_there b place) a word

-- a walk from an offset on came to another one: where all that this one leads to fit, all fit that the first one leads to
pub record IsReached (b : List ℕ) (place page from offset : ℕ) : Type 0 where
  pub leads : Leads b (address_in b place from) (address_in b place offset)
  pub rest : FitFrom b 0 place page offset → FitFrom b 0 place page from
  pub small : offset < 2 ^ 31
