-- Parts of the definitions of `Made`, by names that proofs use.
use Rattle.std.specs.Prelude.{◌≡◌, ℕ, List, [], MatchOption}
use Rattle.macho_model.specs.Placement.{Placed}
use Rattle.macho_model.specs.Made.{template_headers, FillTemplate}

-- a loader finds the template by these headers, and pointers in descriptors count from the range that is told
abbrev pub TemplateHeaders : List ℕ → Placed → Type 0
TemplateHeaders b p = MatchOption p.template (template_headers b ≡ []) (FillTemplate (template_headers b))
