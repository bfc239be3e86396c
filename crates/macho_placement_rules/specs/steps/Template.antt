-- What the code's own steps over the thread-local template say.
use Rattle.std.specs.Prelude.{◌≡◌, ℕ, ◌+◌, ◌≤◌, ◌<◌, List, All, map, take, drop, length, get_or, true, false}
use Rattle.macho_records.specs.Sections.{is_template_type}
use Rattle.macho_model.specs.declared.placed.PlacedSection.{PlacedSection}
use Rattle.macho_model.specs.declared.placed.Range64.{Range64}
use Rattle.macho_model.specs.Placement.{AreApart, range_piece}
use Rattle.macho_layout.specs.declared.spec.SectionSpec.{SectionSpec}
use Rattle.macho_layout.specs.Members.{type_of_spec}
use Rattle.macho_placement_rules.specs.declared.parts.Part.{Part}
use Rattle.macho_placement_rules.specs.Parts.{piece_of}
use Rattle.macho_placement_rules.specs.steps.Pieces.{section_part}

-- a range holds a section of the template, and shares no address with another section
pub record Suits (r : Range64) (q : PlacedSection) (t : SectionSpec) : Type 0 where
  pub holds : is_template_type (type_of_spec t) ≡ true → (r.start ≤ q.address) × (q.address + t.size ≤ r.end)
  pub apart : is_template_type (type_of_spec t) ≡ false → AreApart (range_piece 0 r) (piece_of (section_part 0 q t))

-- so it is with each of some sections, beside what the plan says of its number
abbrev pub SuitsEach : Range64 → List PlacedSection → List SectionSpec → Type 0
SuitsEach r qs ts = (k : ℕ) (d : PlacedSection) (e : SectionSpec) → k < length qs → Suits r (get_or qs k d) (get_or ts k e)

-- and with the other parts: the first one, and those behind the sections
pub record SuitsAll (r : Range64) (qs : List PlacedSection) (ts : List SectionSpec) (parts : List Part) : Type 0 where
  pub each : SuitsEach r qs ts
  pub head : All (AreApart (range_piece 0 r)) (map piece_of (take 1 parts))
  pub rest : All (AreApart (range_piece 0 r)) (map piece_of (drop (1 + length qs) parts))
