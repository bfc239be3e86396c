-- The slots of a section of initializers, by the bytes of its object, and where their pointers lead.
use Rattle.std.specs.Prelude.{◌≡◌, ℕ, ◌+◌, ◌*◌, ◌/◌, ◌%◌, ◌<◌, ◌≤◌, ◌⊎◌, ◌==◌, ◌&&◌, Bool, true, false, List, [], ◌∷◌, length, map, Contains}
use Rattle.std.specs.List.{flat_map, range_with_len}
use Rattle.macho_bytes.specs.Numbers.{le_at}
use Rattle.macho_wire.specs.declared.relocations.RelocationInfo.{RelocationInfo}
use Rattle.macho_model.specs.Objects.{num_symbols, section_at, section_bytes, relocation_at}
use Rattle.macho_model.specs.Consumed.{is_plain_pointer, initializer_section_fits}
use Rattle.macho_consumed.specs.declared.rows.Initializer.{Initializer}
use Rattle.macho_consumed.specs.declared.fault.ConsumedFault.{ConsumedFault}
use Rattle.macho_consumed.specs.declared.fault.ConsumedFault.TheVariants.{BadInitializer, BadUnwind, OutOfMemory}
use Rattle.macho_consumed.specs.steps.Alone.{alone, own}
use Rattle.macho_symbols.specs.Kept.{ResolvedRows}
use Rattle.macho_consumed.specs.steps.Places.{found, IsBetween}
use Rattle.macho_consumed.specs.steps.Checked.{LeadsInto}

-- the relocations of a slot
abbrev pub in_slot : List ℕ → ℕ → ℕ → List ℕ
in_slot b k slot = found b k (section_at b k).nreloc (8 * slot)

-- a plain pointer to a symbol
abbrev pub is_symbol_pointer : RelocationInfo → Bool
is_symbol_pointer r = is_plain_pointer r && r.r_extern

abbrev pub is_empty_slot : List ℕ → ℕ → ℕ → Bool
is_empty_slot b k slot = le_at 8 (section_bytes b k) (8 * slot) == 0

-- A slot has one such pointer and is empty.
pub record SlotFits (b : List ℕ) (k slot r : ℕ) : Type 0 where
  pub one : in_slot b k slot ≡ r ∷ []
  pub pointer : is_symbol_pointer (relocation_at b k r) ≡ true
  pub empty : is_empty_slot b k slot ≡ true

abbrev pub SlotBreaks : List ℕ → ℕ → ℕ → Type 0
SlotBreaks b k slot =
    ((length (in_slot b k slot) == 1) ≡ false)
    ⊎ ((r : ℕ) × Contains (in_slot b k slot) r × (is_symbol_pointer (relocation_at b k r) ≡ false))
    ⊎ (is_empty_slot b k slot ≡ false)

-- what is told of a slot: its relocation with the number
abbrev pub SlotIs : List ℕ → ℕ → ℕ → ℕ × RelocationInfo → Type 0
SlotIs b k slot told = SlotFits b k slot told.0 × (told.1 ≡ relocation_at b k told.0)

-- The slots before a number fit.
pub record SlotsFit (b : List ℕ) (k n : ℕ) : Type 0 where
  pub slots : (slot : ℕ) → slot < n → (r : ℕ) × SlotFits b k slot r

-- each symbol that a relocation names is there
abbrev pub ExternsExist : List ℕ → ℕ → Type 0
ExternsExist b k = (r : ℕ) → r < (section_at b k).nreloc → (relocation_at b k r).r_extern ≡ true
    → (relocation_at b k r).r_symbolnum < num_symbols b

-- and each relocation begins in the section
abbrev pub AreInside : List ℕ → ℕ → Type 0
AreInside b k = (r : ℕ) → r < (section_at b k).nreloc → (relocation_at b k r).r_address < (section_at b k).size

-- the row of a pointer of a slot
abbrev pub row_at : List ℕ → ℕ → ℕ → ℕ → Initializer
row_at b file k r = record { file = file; section = k; number = r; relocation = relocation_at b k r }

-- The pointers of the slots before a number lead into carried sections.
abbrev pub SlotsLead : ResolvedRows → List ℕ → ℕ → ℕ → ℕ → Type 0
SlotsLead r b file k n = (slot : ℕ) → slot < n → (q : ℕ) → SlotFits b k slot q → LeadsInto r (row_at b file k q) true

-- A section fits.
pub record SectionFits (r : ResolvedRows) (b : List ℕ) (file k : ℕ) : Type 0 where
  pub section : initializer_section_fits (alone b) (own k) ≡ true
  pub placed : (q : ℕ) → q < (section_at b k).nreloc → ((relocation_at b k q).r_address % 8 == 0) ≡ true
  pub slots : SlotsFit b k ((section_at b k).size / 8)
  pub lead : SlotsLead r b file k ((section_at b k).size / 8)

-- a slot's pointer leads elsewhere
pub record SlotStrays (r : ResolvedRows) (b : List ℕ) (file k slot : ℕ) : Type 0 where
  pub number : ℕ
  pub fits : SlotFits b k slot number
  pub leads : LeadsInto r (row_at b file k number) false

-- Or it is broken at an offset.
abbrev pub SectionBreaks : ResolvedRows → List ℕ → ℕ → ℕ → ℕ → Type 0
SectionBreaks r b file k offset =
    ((initializer_section_fits (alone b) (own k) ≡ false) × (offset ≡ 0))
    ⊎ ((slot : ℕ) × (8 * slot + 8 ≤ (section_at b k).size) × (offset ≡ 8 * slot) × (SlotBreaks b k slot ⊎ SlotStrays r b file k slot))
    ⊎ IsBetween b k (section_at b k).nreloc offset

abbrev pub IsBadSection : ResolvedRows → List ℕ → ℕ → ℕ → ConsumedFault → Type 0
IsBadSection r b file k (BadInitializer f s offset) = (f ≡ file) × (s ≡ k) × SectionBreaks r b file k offset
IsBadSection r b file k (BadUnwind f s entry rule) = ⊥
IsBadSection r b file k OutOfMemory = Unit {0}

-- the rows of the slots before a number
unfoldable pub slot_rows : List ℕ → ℕ → ℕ → ℕ → List Initializer
slot_rows b file k n = flat_map (λ slot. map (row_at b file k) (in_slot b k slot)) (range_with_len 0 n)
