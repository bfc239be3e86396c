-- What a link's fields and targets have to be for its image to stand: fields lie in their sections, and what words of the loader
-- lead to has a place.
use Rattle.std.specs.Prelude.{◌≡◌, ℕ, ◌+◌, ◌<◌, ◌≤◌, true, [], length, All, Contains}
use Rattle.macho_records.specs.Sections.{is_zerofill}
use Rattle.macho_model.specs.declared.rules.UnwindRule.TheVariants.{U7}
use Rattle.macho_model.specs.declared.targets.Target.{Target}
use Rattle.macho_model.specs.declared.targets.Target.TheVariants as target
use Rattle.macho_model.specs.Links.{Link, SectionId, section_id, header_at, carried_of}
use Rattle.macho_model.specs.Resolution.{chosen_commons}
use Rattle.macho_model.specs.Needs.{imports_of, unwind_sections}
use Rattle.macho_model.specs.Targets.{slots_of}
use Rattle.macho_model.specs.Fields.{Field, fields_of}
use Rattle.macho_model.specs.Consumed.{entry_count, keeps}
use Rattle.macho_model.specs.Values.{needs_fixup}

-- a target is a part of the link: a carried section up to its end, a chosen common, an import, or the base
abbrev pub HasPlace : Link → Target → Type 0
HasPlace l (target.Section file section offset) =
    Contains (carried_of l) (section_id file section) × (offset ≤ (header_at l (section_id file section)).size)
HasPlace l (target.Common id) = id < length (chosen_commons l)
HasPlace l (target.Import id) = id < length (imports_of l)
HasPlace l target.Base = Unit {0}
HasPlace l (target.Absolute value) = ⊥
HasPlace l target.None = ⊥

-- What slots and pointers that the loader writes lead to has a place; fields lie in their sections, and zeros have none.
pub record TargetsLead (l : Link) : Type 0 where
  pub slots : All (HasPlace l) (slots_of l)
  pub pointers : (s : SectionId) (f : Field) → Contains (carried_of l) s → Contains (fields_of l s) f → needs_fixup l s f ≡ true
      → HasPlace l f.target
  pub inside : (s : SectionId) (f : Field) → Contains (carried_of l) s → Contains (fields_of l s) f
      → f.offset + f.width ≤ (header_at l s).size
  pub zeros : (s : SectionId) → Contains (carried_of l) s → is_zerofill (header_at l s) ≡ true → fields_of l s ≡ []

-- Personality functions of unwind entries are defined or imported.
pub record PersonalitiesFit (l : Link) : Type 0 where
  pub each : (s : SectionId) (e : ℕ) → Contains (unwind_sections l) s → e < entry_count l s → keeps l s e U7 ≡ true
