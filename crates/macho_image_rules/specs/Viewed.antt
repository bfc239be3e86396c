-- A link whose sections are placed, seen through views of its objects and what is looked up.
use Rattle.std.specs.Prelude.{◌≡◌, ℕ, ◌+◌, ◌^◌, ◌<◌, ◌≤◌, true, false, List, [], map, get_or, Option, Some, None, Contains}
use Rattle.macho_records.specs.Sections.{is_zerofill}
use Rattle.macho_model.specs.declared.placed.PlacedSection.{PlacedSection}
use Rattle.macho_model.specs.Objects.{num_sections, num_symbols, section_at}
use Rattle.macho_model.specs.Links.{Link, SectionId, header_at, carried_of}
use Rattle.macho_model.specs.Fields.{fields_of}
use Rattle.macho_model.specs.Placement.{Placed, id_of}
use Rattle.macho_object.specs.Views.{FileBytes}
use Rattle.macho_promise.specs.Views.{views_of}
use Rattle.macho_promise.specs.Sound.{IsSound}
use Rattle.macho_fields.specs.Looks.{Look, Tells, IsFound}

-- A placed section is one of a viewed object, and ends by 2 ^ 64 where it has bytes.
pub record IsSectionViewed (views : List (Option FileBytes)) (q : PlacedSection) : Type 0 where
  pub file : FileBytes
  pub viewed : get_or views q.file None ≡ Some file
  pub static : file.is_dynamic ≡ false
  pub among : q.section < num_sections file.bytes
  pub low : is_zerofill (section_at file.bytes q.section) ≡ false → q.address + (section_at file.bytes q.section).size ≤ 2 ^ 64

-- The symbols of viewed objects are known.
pub record SymbolsAreKnown (views : List (Option FileBytes)) (has_symbol : ℕ → ℕ → Type 0) : Type 0 where
  pub each : (k : ℕ) (f : FileBytes) → get_or views k None ≡ Some f → (s : ℕ) → s < num_symbols f.bytes → has_symbol k s

-- A sound link: its carried sections are those that are placed, the views are of its objects, and the look-ups tell of it.
pub record IsViewed (l : Link) (p : Placed) (views : List (Option FileBytes)) (look : Look) : Type 0 where
  pub sound : IsSound l
  pub found : IsFound l p
  pub tells : Tells l p look
  pub listed : map id_of p.sections ≡ carried_of l
  pub objects : views ≡ views_of l
  -- zeros have no fields
  pub zeros : (s : SectionId) → Contains (carried_of l) s → is_zerofill (header_at l s) ≡ true → fields_of l s ≡ []
