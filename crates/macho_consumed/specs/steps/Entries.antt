-- The entries of a section of compact unwind information, by the bytes of its object: what the rules ask of one entry alone, and
-- where its personality leads.
use Rattle.std.specs.Prelude.{◌≡◌, ℕ, ◌+◌, ◌-◌, ◌/◌, ◌%◌, ◌^◌, ◌<◌, ◌≤◌, ◌⊎◌, ◌==◌, ◌&&◌, ◌||◌, not, nat_le, nat_lt, Bool, true, false, List, [], map, Option, Some, None, Contains, option_to_list}
use Rattle.std.specs.List.{range_with_len, list_all, list_any}
use Rattle.macho_bytes.specs.Numbers.{bits}
use Rattle.macho_records.specs.Sections.{is_zerofill}
use Rattle.macho_records.specs.declared.header.SectionHeader.{SectionHeader}
use Rattle.macho_wire.specs.declared.relocations.RelocationInfo.{RelocationInfo}
use Rattle.macho_wire.specs.declared.unwind.UnwindInfoEntry.{UnwindInfoEntry}
use Rattle.macho_model.specs.declared.rules.UnwindRule.{UnwindRule}
use Rattle.macho_model.specs.declared.rules.UnwindRule.TheVariants.{U1, U2, U3, U4, U5, U6, U7, U8}
use Rattle.macho_model.specs.Links.{Link, SectionId, is_carried}
use Rattle.macho_model.specs.Objects.{section_at, num_sections, relocation_at}
use Rattle.macho_model.specs.Consumed.{is_plain_pointer, unwind_entry, whole_entries, relocations_in_entry, holds_functions, START_PLACE, LSDA_PLACE, ADDRESS_PLACES, keeps}
use Rattle.macho_model.specs.Needs.{relocation_in, PERSONALITY_PLACE, UNWIND_ENTRY_SIZE}
use Rattle.macho_consumed.specs.declared.rows.SectionPlace.{SectionPlace}
use Rattle.macho_consumed.specs.declared.rows.PersonalityUse.{PersonalityUse}
use Rattle.macho_consumed.specs.declared.rows.UnwindEntry.{UnwindEntry}
use Rattle.macho_consumed.specs.declared.fault.ConsumedFault.{ConsumedFault}
use Rattle.macho_consumed.specs.declared.fault.ConsumedFault.TheVariants.{BadInitializer, BadUnwind, OutOfMemory}
use Rattle.macho_consumed.specs.steps.Alone.{alone, own}
use Rattle.macho_symbols.specs.Kept.{ResolvedRows}
use Rattle.macho_consumed.specs.steps.Checked.{LeadsSomewhere}
use Rattle.macho_consumed.specs.Rows.{entry_row}

-- a relocation is a plain pointer at one of an entry's addresses
abbrev pub unwind_relocation_fits : Link → SectionId → ℕ → Bool
unwind_relocation_fits l s r =
    is_plain_pointer (relocation_in l s r)
    && list_any (λ place. (relocation_in l s r).r_address % UNWIND_ENTRY_SIZE == place) ADDRESS_PLACES

-- the section that a relocation names
abbrev pub named : RelocationInfo → ℕ
named r = r.r_symbolnum - 1

-- a relocation that isn't extern names a section of the object
abbrev pub NamesSection : List ℕ → RelocationInfo → Type 0
NamesSection b r = (r.r_extern ≡ false) → (1 ≤ r.r_symbolnum) × (r.r_symbolnum ≤ num_sections b)

abbrev pub MayName : List ℕ → Option RelocationInfo → Type 0
MayName b None = Unit {0}
MayName b (Some r) = NamesSection b r

-- where an address of the input lies in a section, with so many bytes from it on
abbrev pub lies_from : SectionHeader → ℕ → ℕ → Bool
lies_from h address size = nat_le h.addr address && nat_lt address (h.addr + h.size) && nat_le (address + size) (h.addr + h.size)

-- A function starts where its relocation says.
pub record StartIs (b : List ℕ) (entry : UnwindInfoEntry) (r : RelocationInfo) (place : SectionPlace) : Type 0 where
  pub by_number : r.r_extern ≡ false
  pub holds : holds_functions (alone b) (own (named r)) ≡ true
  pub inside : lies_from (section_at b (named r)) entry.start entry.length ≡ true
  pub is : place ≡ record { section = named r; offset = entry.start - (section_at b (named r)).addr }

abbrev pub StartFound : List ℕ → UnwindInfoEntry → Option RelocationInfo → SectionPlace → Type 0
StartFound b entry None place = ⊥
StartFound b entry (Some r) place = StartIs b entry r place

-- or breaks a rule
abbrev pub StartBreaks : List ℕ → UnwindInfoEntry → Option RelocationInfo → UnwindRule → Type 0
StartBreaks b entry None rule = rule ≡ U4
StartBreaks b entry (Some r) rule =
    ((rule ≡ U4) × ((not r.r_extern && holds_functions (alone b) (own (named r))) ≡ false))
    ⊎ ((rule ≡ U5) × (r.r_extern ≡ false) × (lies_from (section_at b (named r)) entry.start entry.length ≡ false))

-- language data by number, in a carried section
abbrev pub data_fits : List ℕ → ℕ → RelocationInfo → Bool
data_fits b lsda r = not r.r_extern && is_carried (section_at b (named r)) && lies_from (section_at b (named r)) lsda 0

abbrev pub DataFound : List ℕ → ℕ → Option RelocationInfo → Option SectionPlace → Type 0
DataFound b lsda None found = found ≡ None
DataFound b lsda (Some r) found =
    (data_fits b lsda r ≡ true) × (found ≡ Some (record { section = named r; offset = lsda - (section_at b (named r)).addr }))

abbrev pub DataBreaks : List ℕ → ℕ → Option RelocationInfo → UnwindRule → Type 0
DataBreaks b lsda None rule = ⊥
DataBreaks b lsda (Some r) rule = (rule ≡ U7) × (data_fits b lsda r ≡ false)

-- an entry's word without a relocation is 0
abbrev pub is_clear : UnwindInfoEntry → Bool → Bool → Bool
is_clear entry personality lsda =
    (bits 28 2 entry.encoding == 0) && (personality || (entry.personality == 0)) && (lsda || (entry.lsda == 0))

-- the relocations of an address of an entry
abbrev pub at_place : List ℕ → ℕ → ℕ → ℕ → List ℕ
at_place b k e place = relocations_in_entry (alone b) (own k) e place

-- an entry as it is read
abbrev pub read_entry : List ℕ → ℕ → ℕ → UnwindInfoEntry
read_entry b k e = unwind_entry (alone b) (own k) e

-- A personality is named by a symbol.
abbrev pub PersonalityFound : List ℕ → ℕ → Option ℕ → Option PersonalityUse → Type 0
PersonalityFound b k None told = told ≡ None
PersonalityFound b k (Some r) told =
    ((relocation_at b k r).r_extern ≡ true) × (told ≡ Some (record { number = r; relocation = relocation_at b k r }))

-- or it is named by a section, or leads nowhere
abbrev pub PersonalityBreaks : ResolvedRows → List ℕ → ℕ → ℕ → Option ℕ → UnwindRule → Type 0
PersonalityBreaks r b file k None rule = ⊥
PersonalityBreaks r b file k (Some q) rule =
    (rule ≡ U7) × (((relocation_at b k q).r_extern ≡ false)
    ⊎ (((relocation_at b k q).r_extern ≡ true)
    × LeadsSomewhere r file (Some (record { number = q; relocation = relocation_at b k q })) false))

-- what the rule of personalities and language data asks of the bytes
abbrev pub links_fit : List ℕ → ℕ → ℕ → Bool
links_fit b k e =
    list_all (λ r. (relocation_at b k r).r_extern) (at_place b k e PERSONALITY_PLACE)
    && list_all (λ r. data_fits b (read_entry b k e).lsda (relocation_at b k r)) (at_place b k e LSDA_PLACE)

-- An entry keeps the rules.
pub record EntryFits (b : List ℕ) (k e : ℕ) : Type 0 where
  pub placed : keeps (alone b) (own k) e U2 ≡ true
  pub single : keeps (alone b) (own k) e U3 ≡ true
  pub start : keeps (alone b) (own k) e U4 ≡ true
  pub inside : keeps (alone b) (own k) e U5 ≡ true
  pub links : links_fit b k e ≡ true
  pub clear : keeps (alone b) (own k) e U8 ≡ true

-- an entry's personality leads nowhere
pub record EntryIsLost (r : ResolvedRows) (b : List ℕ) (file k e : ℕ) : Type 0 where
  pub number : ℕ
  pub there : Contains (at_place b k e PERSONALITY_PLACE) number
  pub plain : is_plain_pointer (relocation_at b k number) ≡ true
  pub extern : (relocation_at b k number).r_extern ≡ true
  pub leads : LeadsSomewhere r file (Some (record { number = number; relocation = relocation_at b k number })) false

-- or breaks one
abbrev pub EntryBreaks : ResolvedRows → List ℕ → ℕ → ℕ → ℕ → UnwindRule → Type 0
EntryBreaks r b file k e U1 = ⊥
EntryBreaks r b file k e U2 = keeps (alone b) (own k) e U2 ≡ false
EntryBreaks r b file k e U3 = keeps (alone b) (own k) e U3 ≡ false
EntryBreaks r b file k e U4 = keeps (alone b) (own k) e U4 ≡ false
EntryBreaks r b file k e U5 = keeps (alone b) (own k) e U5 ≡ false
EntryBreaks r b file k e U6 = ⊥
EntryBreaks r b file k e U7 = (links_fit b k e ≡ false) ⊎ EntryIsLost r b file k e
EntryBreaks r b file k e U8 = keeps (alone b) (own k) e U8 ≡ false

-- the row of an entry of a file
abbrev pub row_in : List ℕ → ℕ → ℕ → ℕ → UnwindEntry
row_in b file k e = record (entry_row (alone b) (record { of_section = own k; entry = e })) { file = file }

-- the number of a plain pointer of the section, if there is one
abbrev pub IsPointer : List ℕ → ℕ → Option ℕ → Type 0
IsPointer b k None = Unit {0}
IsPointer b k (Some r) = (r < (section_at b k).nreloc) × (is_plain_pointer (relocation_at b k r) ≡ true)

-- the three addresses of an entry
abbrev pub IsAddress : ℕ → Type 0
IsAddress place = (place ≡ START_PLACE) ⊎ (place ≡ PERSONALITY_PLACE) ⊎ (place ≡ LSDA_PLACE)

-- At one stands a plain pointer, or none.
pub record IsPointerAt (b : List ℕ) (k e place : ℕ) (found : Option ℕ) : Type 0 where
  pub list : at_place b k e place ≡ option_to_list found
  pub pointer : IsPointer b k found

-- The three pointers of an entry.
pub record HasPointers (b : List ℕ) (k e : ℕ) (start personality lsda : Option ℕ) : Type 0 where
  pub start_at : IsPointerAt b k e START_PLACE start
  pub between_at : at_place b k e 8 ≡ []
  pub personality_at : IsPointerAt b k e PERSONALITY_PLACE personality
  pub lsda_at : IsPointerAt b k e LSDA_PLACE lsda

-- or a relocation stands where it may not, or too many do
abbrev pub PointersBreak : List ℕ → ℕ → ℕ → UnwindRule → Type 0
PointersBreak b k e rule =
    ((rule ≡ U2) × (keeps (alone b) (own k) e U2 ≡ false)) ⊎ ((rule ≡ U3) × (keeps (alone b) (own k) e U3 ≡ false))

-- What is told of a whole section.
pub record EntriesFit (b : List ℕ) (k n : ℕ) : Type 0 where
  pub entries : (e : ℕ) → e < n → EntryFits b k e

-- their personalities lead somewhere
abbrev pub EntriesLead : ResolvedRows → List ℕ → ℕ → ℕ → ℕ → Type 0
EntriesLead r b file k n = (e : ℕ) → e < n → LeadsSomewhere r file (row_in b file k e).personality true

pub record SectionKeeps (r : ResolvedRows) (b : List ℕ) (file k : ℕ) : Type 0 where
  pub whole : whole_entries (alone b) (own k) ≡ true
  pub entries : EntriesFit b k ((section_at b k).size / 32)
  pub lead : EntriesLead r b file k ((section_at b k).size / 32)

-- a section breaks a rule at an entry: a cut section at the entry that is cut
abbrev pub SectionBreaksRule : ResolvedRows → List ℕ → ℕ → ℕ → ℕ → UnwindRule → Type 0
SectionBreaksRule r b file k e U1 = (e ≡ (section_at b k).size / 32) × (whole_entries (alone b) (own k) ≡ false)
SectionBreaksRule r b file k e rule = (e < (section_at b k).size / 32) × EntryBreaks r b file k e rule

abbrev pub IsBadUnwind : ResolvedRows → List ℕ → ℕ → ℕ → ConsumedFault → Type 0
IsBadUnwind r b file k (BadInitializer f s offset) = ⊥
IsBadUnwind r b file k (BadUnwind f s e rule) = (f ≡ file) × (s ≡ k) × SectionBreaksRule r b file k e rule
IsBadUnwind r b file k OutOfMemory = Unit {0}

unfoldable pub rows_in : List ℕ → ℕ → ℕ → ℕ → List UnwindEntry
rows_in b file k n = map (row_in b file k) (range_with_len 0 n)

-- A section can be read entry by entry: it has bytes where it has entries.
pub record IsReadable (b : List ℕ) (k : ℕ) : Type 0 where
  pub bytes : ((section_at b k).size < 32) ⊎ (is_zerofill (section_at b k) ≡ false)
  pub small : (section_at b k).size < 2 ^ 32
