-- What the walk over the carried relocations is given, and what it finds.
use Rattle.std.specs.Prelude.{◌≡◌, ℕ, ◌<◌, ◌⊎◌, true, false, List, map, Option}
use Rattle.macho_records.specs.Sections.{segment_name_of}
use Rattle.macho_model.specs.Links.{Input, Link, SectionId, header_at}
use Rattle.macho_model.specs.Fields.{field_of}
use Rattle.macho_model.specs.Uses.{Use, ByRelocation, ByInitializer, ByPersonality, ByName}
use Rattle.macho_model.specs.Targets.{is_import}
use Rattle.macho_model.specs.Rows.{is_supported, share_byte, are_pair}
use Rattle.macho_model.specs.Segments.{may_hold_pointers}
use Rattle.macho_model.specs.Values.{fits_signed, is_pointer, needs_fixup}
use Rattle.macho_object.specs.Views.{FileBytes}
use Rattle.macho_symbol_names.specs.Kept.{FileRows, Keeps}
use Rattle.macho_promise.specs.Views.{object_view}

-- Views and rows of symbols are of the same inputs.
pub record AreOfInputs (views : List (Option FileBytes)) (files : List FileRows) : Type 0 where
  pub inputs : List Input
  pub keeps : Keeps inputs files
  pub are : views ≡ map object_view inputs

-- Nothing stands against a relocation by itself: it is supported; the addend of a pointer to an import fits 32 bits; a pointer that
-- the loader writes is in a segment that may hold one.
pub record IsFineRelocation (l : Link) (s : SectionId) (r : ℕ) : Type 0 where
  pub supported : is_supported l s r ≡ true
  pub addend : is_pointer (field_of l s r) ≡ true → is_import (field_of l s r).target ≡ true → fits_signed 32 (field_of l s r).addend ≡ true
  pub place : needs_fixup l s (field_of l s r) ≡ true → may_hold_pointers (segment_name_of (header_at l s)) ≡ true

abbrev pub IsFine : Link → Use → Type 0
IsFine l (ByRelocation s r) = IsFineRelocation l s r
IsFine l (ByInitializer s r) = Unit {0}
IsFine l (ByPersonality s r) = Unit {0}
IsFine l (ByName name) = Unit {0}

-- Two relocations of a section share a byte only as a pair.
pub record IsApart (l : Link) (s : SectionId) : Type 0 where
  pub each : (q r : ℕ) → q < r → r < (header_at l s).nreloc → (share_byte l s q r ≡ false) ⊎ (are_pair l s q r ≡ true)
