-- When the carried relocations of a link are sound, before anything has an address; and when each name that is used is defined.
use Rattle.std.specs.Prelude.{◌≡◌, ℕ, true, List, Contains}
use Rattle.macho_model.specs.Sections.{segment_name_of}
use Rattle.macho_model.specs.Links.{Link, SectionId, carried_of, header_at}
use Rattle.macho_model.specs.Fields.{Field, fields_of}
use Rattle.macho_model.specs.Targets.{is_import}
use Rattle.macho_model.specs.Segments.{may_hold_pointers}
use Rattle.macho_model.specs.Values.{fits_signed, is_pointer, needs_fixup}
use Rattle.macho_model.specs.Faults.{IsUndefined}
use Rattle.macho_model.specs.Supported.{RelocationsAreSupported}

-- The relocations of carried sections are sound.
pub record IsSound (l : Link) : Type 0 where
  -- each has a row of the table of relocations, and two share bytes only as a pair
  pub relocations : RelocationsAreSupported l
  -- the addend of a pointer to an import fits 32 bits
  pub addends : (s : SectionId) (f : Field) → Contains (carried_of l) s → Contains (fields_of l s) f → is_pointer f ≡ true
      → is_import f.target ≡ true
      → fits_signed 32 f.addend ≡ true
  -- a pointer that the loader writes stands in a segment that may hold one
  pub places : (s : SectionId) (f : Field) → Contains (carried_of l) s → Contains (fields_of l s) f → needs_fixup l s f ≡ true
      → may_hold_pointers (segment_name_of (header_at l s)) ≡ true

-- Each name that is used is defined.
pub record NamesAreFound (l : Link) : Type 0 where
  pub none : (name : List ℕ) (file : ℕ) → IsUndefined l name file → ⊥
