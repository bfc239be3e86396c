-- Laws that check the definitions. Each is the contract of a function of `src/laws.rt`.
use Rattle.std.specs.Prelude.{ℕ, List}
use Rattle.macho_model.specs.declared.rules.LoadRule.{LoadRule}
use Rattle.macho_model.specs.declared.placed.Counts.{Counts}
use Rattle.macho_model.specs.Links.{Link}
use Rattle.macho_model.specs.Loader.{IsAccepted, ImageBreaks}
use Rattle.macho_model.specs.Valid.{IsValid}
use Rattle.macho_model_checks.specs.ValidParts.{ValidPart, ValidKeeps}

-- what breaks a rule is no image that the loader accepts
abbrev pub BrokenIsRefused : Type 0
BrokenIsRefused = (b : List ℕ) (rule : LoadRule) (place : ℕ) → ImageBreaks b rule place → IsAccepted b → ⊥

-- a valid link keeps each part, and a link that keeps each part is valid
abbrev pub ValidLinksKeepParts : Type 0
ValidLinksKeepParts = (l : Link) (counts : Counts) → IsValid l counts → (part : ValidPart) → ValidKeeps l counts part

abbrev pub KeepersAreValid : Type 0
KeepersAreValid = (l : Link) (counts : Counts) → ((part : ValidPart) → ValidKeeps l counts part) → IsValid l counts
