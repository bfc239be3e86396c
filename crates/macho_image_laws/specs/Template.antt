-- The range of the thread-local template, and the section headers that tell of it.
use Rattle.std.specs.Prelude.{◌≡◌, ℕ, ◌+◌, List, Contains, Option, Some, None, [], MatchOption}
use Rattle.macho_model.specs.declared.placed.Counts.{Counts}
use Rattle.macho_model.specs.declared.placed.Range64.{Range64}
use Rattle.macho_model.specs.declared.placed.PlacedSection.{PlacedSection}
use Rattle.macho_model.specs.Links.{Link, header_at}
use Rattle.macho_model.specs.Placement.{Placed, id_of, template_sections, IsPlaced}
use Rattle.macho_model.specs.Agreement.{section_headers_of}
use Rattle.macho_promise.specs.Promise.{IsLaidOut}
use Rattle.macho_model.specs.Grammar.{ObjectsAreRead}
use Rattle.macho_model.specs.Made.{template_headers, FillTemplate}

-- a range begins where a section of the template does, and ends where one does
pub record IsTight (l : Link) (p : Placed) (r : Range64) : Type 0 where
  pub first : PlacedSection
  pub begins : Contains (template_sections l p) first × (first.address ≡ r.start)
  pub last : PlacedSection
  pub ends : Contains (template_sections l p) last × (last.address + (header_at l (id_of last)).size ≡ r.end)

abbrev pub TemplateIsTight : Link → Placed → Option Range64 → Type 0
TemplateIsTight l p None = Unit {0}
TemplateIsTight l p (Some r) = IsTight l p r

-- where the range of the template is no wider than its sections, the headers of the file tell it
abbrev pub HeadersTellTemplate : Type 0
HeadersTellTemplate =
    (l : Link) (counts : Counts) (b : List ℕ) (p : Placed) → ObjectsAreRead l → IsPlaced l counts p → IsLaidOut l counts p
    → section_headers_of b ≡ p.output_sections → TemplateIsTight l p p.template
    → MatchOption p.template (template_headers b ≡ []) (FillTemplate (template_headers b))
