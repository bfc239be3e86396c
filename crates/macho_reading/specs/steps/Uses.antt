-- Uses by relocations of consumed sections, whether these keep their rules or not.
use Rattle.std.specs.Prelude.{◌≡◌, ℕ, ◌/◌, ◌%◌, ◌<◌, ◌==◌, nat_lt, ◌&&◌, Bool, true, List}
use Rattle.macho_wire.specs.declared.relocations.RelocationInfo.{RelocationInfo}
use Rattle.macho_object.specs.Views.{RelocationBytes}
use Rattle.macho_model.specs.Objects.{num_sections, section_at}
use Rattle.macho_model.specs.Grammar.{IsObject}
use Rattle.macho_model.specs.Links.{SectionId}
use Rattle.macho_model.specs.Needs.{POINTER_SIZE, UNWIND_ENTRY_SIZE, PERSONALITY_PLACE}
use Rattle.macho_model.specs.Uses.{Use, ByInitializer, ByPersonality}
use Rattle.macho_model.specs.Consumed.{is_plain_pointer}
use Rattle.macho_symbol_names.specs.Kept.{FileRows}
use Rattle.macho_relocation_scan.specs.steps.Sections.{HasRows}
use Rattle.macho_consumed.specs.declared.listing.Kind.{Kind}
use Rattle.macho_consumed.specs.declared.listing.Kind.TheVariants.{Initializers, Entries}
use Rattle.macho_consumed.specs.Kinds.{is_of_kind}

-- a place in a section of so many bytes is that of an initializer, or of an entry's personality function
abbrev pub is_placed : Kind → ℕ → ℕ → Bool
is_placed Initializers size place = (place % POINTER_SIZE == 0) && nat_lt (place / POINTER_SIZE) (size / POINTER_SIZE)
is_placed Entries size place =
    (place % UNWIND_ENTRY_SIZE == PERSONALITY_PLACE) && nat_lt (place / UNWIND_ENTRY_SIZE) (size / UNWIND_ENTRY_SIZE)

-- a relocation is a pointer to a symbol at such a place
abbrev pub is_use : Kind → ℕ → RelocationInfo → Bool
is_use kind size rel = is_placed kind size rel.r_address && rel.r_extern && is_plain_pointer rel

-- what it is in the walk
abbrev pub use_of : Kind → SectionId → ℕ → Use
use_of Initializers s r = ByInitializer s r
use_of Entries s r = ByPersonality s r

-- These are the relocations of a section of a kind and of so many bytes, in an object of which rows of symbols are kept.
pub record IsSection (files : List FileRows) (file : ℕ) (list : RelocationBytes) (kind : Kind) (size : ℕ) : Type 0 where
  pub rows : HasRows files file list.bytes
  pub object : IsObject list.bytes
  pub there : list.section < num_sections list.bytes
  pub is_of : is_of_kind kind (section_at list.bytes list.section) ≡ true
  pub size_is : size ≡ (section_at list.bytes list.section).size
