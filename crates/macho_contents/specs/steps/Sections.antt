-- Sections while they are filled: one that was taken care of, and the first ones of a placement.
use Rattle.std.specs.Prelude.{◌≡◌, ℕ, ◌+◌, ◌^◌, ◌<◌, ◌≤◌, not, true, false, List, ◌++◌, length, filter, take, get_or, Option, Some, None, All}
use Rattle.std.specs.List.{flat_map}
use Rattle.macho_bytes.specs.Texts.{Part, put}
use Rattle.macho_records.specs.Sections.{is_zerofill}
use Rattle.macho_model.specs.declared.placed.PlacedSection.{PlacedSection}
use Rattle.macho_model.specs.Objects.{num_sections, section_at}
use Rattle.macho_model.specs.Links.{Link, header_at}
use Rattle.macho_model.specs.Placement.{Placed, id_of}
use Rattle.macho_object.specs.Views.{FileBytes}
use Rattle.macho_fixups.specs.declared.run.Fixup.{Fixup}
use Rattle.macho_promise.specs.Asked.{fixups_in}
use Rattle.macho_placed_laws.specs.Parts.{written}
use Rattle.macho_fields.specs.Faults.{NoneStandsIn}
use Rattle.macho_contents.specs.Filled.{ArePartsOf, IsSectionPart}

-- a section's part was written
pub record IsPut (l : Link) (p : Placed) (q : PlacedSection) (old new : List ℕ) : Type 0 where
  pub part : Part
  pub is : IsSectionPart l p (length old) q part
  pub same : new ≡ put part.at part.text old

-- A section was taken care of: filled, where it has bytes; its fixups were asked for, and nothing stands against it.
pub record IsDone (l : Link) (p : Placed) (q : PlacedSection) (old new : List ℕ) (run next : List Fixup) : Type 0 where
  pub zeros : is_zerofill (header_at l (id_of q)) ≡ true → new ≡ old
  pub filled : is_zerofill (header_at l (id_of q)) ≡ false → IsPut l p q old new
  pub asked : next ≡ run ++ fixups_in l p q
  pub none : NoneStandsIn l p q

-- those of some sections that have bytes
abbrev pub filled_among : Link → List PlacedSection → List PlacedSection
filled_among l qs = filter (λ q. not (is_zerofill (header_at l (id_of q)))) qs

-- The first sections were taken care of.
pub record AreDone (l : Link) (p : Placed) (n : ℕ) (old new : List ℕ) (run next : List Fixup) : Type 0 where
  pub parts : List Part
  pub each : ArePartsOf (IsSectionPart l p (length old)) (filled_among l (take n p.sections)) parts
  pub same : new ≡ written parts old
  pub long : length new ≡ length old
  pub asked : next ≡ run ++ flat_map (fixups_in l p) (take n p.sections)
  pub none : All (NoneStandsIn l p) (take n p.sections)

-- A placed section is one of a viewed object, and ends below 2 ^ 64 where it has bytes.
pub record IsSeen (views : List (Option FileBytes)) (q : PlacedSection) : Type 0 where
  pub file : FileBytes
  pub viewed : get_or views q.file None ≡ Some file
  pub static : file.is_dynamic ≡ false
  pub among : q.section < num_sections file.bytes
  pub low : is_zerofill (section_at file.bytes q.section) ≡ false → q.address + (section_at file.bytes q.section).size ≤ 2 ^ 64
