-- A relocation of a consumed section that is a pointer to a symbol, at the place of an initializer or of a personality function, is a
-- use of the walk, and its symbol is kept.
--
-- The place is that of a slot, or of an entry, whose number is below the count of whole ones; the walk goes over these by number, and
-- over the relocations at each place. By the rules of objects the symbol's number is one of the object, of which rows are kept.
use Rattle.std.proofs.Common.{◌≡◌, ℕ, ◌+◌, ◌*◌, ◌/◌, ◌%◌, ◌<◌, nat_lt, ◌&&◌, ◌==◌, not, true, false, List, ◌++◌, map, filter, refl, sym, ap, ◌∙◌, subst, arith}
use Rattle.std.specs.Prelude.{Contains}
use Rattle.std.specs.List.{flat_map, range_with_len}
use Rattle.std.proofs.lemmas.Bool.Decides.{nat_tests, Decides-eqb}
use Rattle.std.proofs.lemmas.List.Elements.{Contains-append_left, Contains-append_right}
use Rattle.macho_records.specs.Sections.{should_exclude_of}
use Rattle.macho_wire.specs.declared.relocations.RelocationInfo.{RelocationInfo}
use Rattle.macho_records.specs.declared.constants.TheConstants.{ARM64_RELOC_ADDEND, ARM64_RELOC_UNSIGNED}
use Rattle.macho_records.specs.declared.header.SectionHeader.{SectionHeader}
use Rattle.macho_object.specs.Views.{RelocationBytes}
use Rattle.macho_model.specs.Objects.{num_sections, section_at, relocation_at}
use Rattle.macho_model.specs.Grammar.{IsObject}
use Rattle.macho_model.proofs.ObjectLaws.{object_keeps}
use Rattle.macho_model.specs.ExportLists.{plain_entries}
use Rattle.macho_model.specs.Links.{Input, Link, SectionId, section_id, object_of, header_at, is_initializers, is_unwind_entries, sections_of, carried_of}
use Rattle.macho_model.specs.Needs.{initializer_sections, unwind_sections, is_imported, relocation_in, relocations_of, relocations_at}
use Rattle.macho_model.specs.Uses.{ByInitializer, ByPersonality, ByName, uses_of, carried_uses, initializer_uses, personality_uses}
use Rattle.macho_model.specs.Consumed.{is_plain_pointer}
use Rattle.macho_symbol_names.specs.Kept.{FileRows, Keeps}
use Rattle.macho_symbols.specs.Kept.{ResolvedRows, IsResolved}
use Rattle.macho_needs.specs.Noted.{names_symbol}
use Rattle.macho_relocation_scan.specs.steps.Sections.{HasRows, HasObject}
use Rattle.macho_relocation_scan.proofs.Walking.{same_object, rows_kept}
use Rattle.macho_relocation_scan.proofs.Within.{has_referent}
use Rattle.macho_image_laws.proofs.Inputs.{section_listed}
use Rattle.macho_consumed.specs.declared.listing.Kind.{Kind}
use Rattle.macho_consumed.specs.declared.listing.Kind.TheVariants.{Initializers, Entries}
use Rattle.macho_reading.specs.steps.Rows.{IsSymbolPointer}
use Rattle.macho_consumed.specs.Kinds.{is_of_kind}
use Rattle.macho_reading.specs.steps.Uses.{is_placed, is_use, use_of, IsSection}
use Rattle.macho_bytes.proofs.Bools.{and_left, and_right, and_both as both}
use Rattle.macho_bytes.proofs.Members.{contains_map, contains_filter as to_filter, contains_flat_map, contains_range}
use Rattle.macho_model.proofs.Sections.{no_addend}

-- a link of which rows of symbols are kept is resolved, with what is noted
pub still_resolved : (l : Link) (r : ResolvedRows) → Keeps l.inputs r.files → IsResolved l r.noted r
still_resolved l r keeps = record { keeps = keeps.are; notes = refl }

-- places
slot_is : (place size : ℕ) → is_placed Initializers size place ≡ true → (place ≡ 8 * (place / 8)) × (place / 8 < size / 8)
slot_is place size placed =
    let even = (Decides-eqb (place % 8) 0).0 (and_left (place % 8 == 0) (nat_lt (place / 8) (size / 8)) placed) in
    let below : nat_lt (place / 8) (size / 8) ≡ true = and_right (place % 8 == 0) (nat_lt (place / 8) (size / 8)) placed in (
      omega (arith, even),
      grind (arith, nat_tests, below),
    )

entry_is : (place size : ℕ) → is_placed Entries size place ≡ true → (place ≡ 32 * (place / 32) + 16) × (place / 32 < size / 32)
entry_is place size placed =
    let rest = (Decides-eqb (place % 32) 16).0 (and_left (place % 32 == 16) (nat_lt (place / 32) (size / 32)) placed) in
    let below : nat_lt (place / 32) (size / 32) ≡ true = and_right (place % 32 == 16) (nat_lt (place / 32) (size / 32)) placed in (
      omega (arith, rest),
      grind (arith, nat_tests, below),
    )

-- a relocation at a place
at_place : (l : Link) (s : SectionId) (r place : ℕ) → r < (header_at l s).nreloc → (relocation_in l s r).r_address ≡ place
    → Contains (relocations_at l s place) r
at_place l s r place lt is =
    to_filter (λ (q : ℕ). (relocation_in l s q).r_address == place) (relocations_of l s) r (contains_range (header_at l s).nreloc r lt)
    ((Decides-eqb (relocation_in l s r).r_address place).1 is)

-- the uses of a section
by_initializer : (l : Link) (s : SectionId) (r : ℕ) → r < (header_at l s).nreloc
    → is_placed Initializers (header_at l s).size (relocation_in l s r).r_address ≡ true
    → Contains (initializer_uses l s) (ByInitializer s r)
by_initializer l s r lt placed =
    let slot = (relocation_in l s r).r_address / 8 in
    let is = slot_is (relocation_in l s r).r_address (header_at l s).size placed in
    contains_flat_map (λ (n : ℕ). map (ByInitializer s) (relocations_at l s (8 * n))) (range_with_len 0 ((header_at l s).size / 8)) slot
    (ByInitializer s r)
    (contains_range ((header_at l s).size / 8) slot is.1)
    (contains_map (ByInitializer s) (relocations_at l s (8 * slot)) r (at_place l s r (8 * slot) lt is.0))

by_personality : (l : Link) (s : SectionId) (r : ℕ) → r < (header_at l s).nreloc
    → is_placed Entries (header_at l s).size (relocation_in l s r).r_address ≡ true → Contains (personality_uses l s) (ByPersonality s r)
by_personality l s r lt placed =
    let entry = (relocation_in l s r).r_address / 32 in
    let is = entry_is (relocation_in l s r).r_address (header_at l s).size placed in
    contains_flat_map (λ (n : ℕ). map (ByPersonality s) (relocations_at l s (32 * n + 16)))
    (range_with_len 0 ((header_at l s).size / 32)) entry
    (ByPersonality s r)
    (contains_range ((header_at l s).size / 32) entry is.1)
    (contains_map (ByPersonality s) (relocations_at l s (32 * entry + 16)) r (at_place l s r (32 * entry + 16) lt is.0))

-- THE use of the walk
in_walk : (l : Link) (kind : Kind) (s : SectionId) (r : ℕ) → Contains (sections_of l) s → is_of_kind kind (header_at l s) ≡ true
    → r < (header_at l s).nreloc → is_placed kind (header_at l s).size (relocation_in l s r).r_address ≡ true
    → Contains (uses_of l) (use_of kind s r)
unfolding uses_of initializer_sections unwind_sections
in_walk l Initializers s r there is lt placed =
    let first = flat_map (carried_uses l) (carried_of l) in
    let second = flat_map (initializer_uses l) (initializer_sections l) in
    let third = flat_map (personality_uses l) (unwind_sections l) in
    let last = map ByName (filter (is_imported l) (plain_entries l.export_lists)) in
    let listed = to_filter (λ (t : SectionId). not (should_exclude_of (header_at l t)) && is_initializers (header_at l t))
    (sections_of l) s there is in
    let one = contains_flat_map (initializer_uses l) (initializer_sections l) s (ByInitializer s r) listed
    (by_initializer l s r lt placed) in
    Contains-append_left ((first ++ second) ++ third) last (ByInitializer s r)
    (Contains-append_left (first ++ second) third (ByInitializer s r) (Contains-append_right first second (ByInitializer s r) one))
in_walk l Entries s r there is lt placed =
    let first = flat_map (carried_uses l) (carried_of l) in
    let second = flat_map (initializer_uses l) (initializer_sections l) in
    let third = flat_map (personality_uses l) (unwind_sections l) in
    let last = map ByName (filter (is_imported l) (plain_entries l.export_lists)) in
    let listed = to_filter (λ (t : SectionId). not (should_exclude_of (header_at l t)) && is_unwind_entries (header_at l t))
    (sections_of l) s there is in
    let one = contains_flat_map (personality_uses l) (unwind_sections l) s (ByPersonality s r) listed (by_personality l s r lt placed) in
    Contains-append_left ((first ++ second) ++ third) last (ByPersonality s r)
    (Contains-append_right (first ++ second) third (ByPersonality s r) one)

-- a use, in its parts
use_place : (kind : Kind) (size : ℕ) (rel : RelocationInfo) → is_use kind size rel ≡ true → is_placed kind size rel.r_address ≡ true
use_place kind size rel is =
    and_left (is_placed kind size rel.r_address) rel.r_extern
    (and_left (is_placed kind size rel.r_address && rel.r_extern) (is_plain_pointer rel) is)

use_extern : (kind : Kind) (size : ℕ) (rel : RelocationInfo) → is_use kind size rel ≡ true → rel.r_extern ≡ true
use_extern kind size rel is =
    and_right (is_placed kind size rel.r_address) rel.r_extern
    (and_left (is_placed kind size rel.r_address && rel.r_extern) (is_plain_pointer rel) is)

use_plain : (kind : Kind) (size : ℕ) (rel : RelocationInfo) → is_use kind size rel ≡ true → is_plain_pointer rel ≡ true
use_plain kind size rel is = and_right (is_placed kind size rel.r_address && rel.r_extern) (is_plain_pointer rel) is

pub is_in_walk : (l : Link) (files : List FileRows) (file : ℕ) (list : RelocationBytes) (kind : Kind) (size r : ℕ)
    → IsSection files file list kind size → HasObject l file list.bytes → r < (section_at list.bytes list.section).nreloc
    → is_use kind size (relocation_at list.bytes list.section r) ≡ true
    → Contains (uses_of l) (use_of kind (section_id file list.section) r)
is_in_walk l files file list kind size r of has lt is =
    let s = section_id file list.section in
    let same : list.bytes ≡ object_of l file = sym (same_object l file list.bytes has) in
    let whole = object_keeps (subst (λ b. IsObject b) same of.object) in
    let there = section_listed l file list.section (record { within = has.there; bytes = list.bytes; is = has.is; object = whole })
    (subst (λ b. list.section < num_sections b) same of.there) in
    let placed = subst (λ n. is_placed kind n (relocation_at list.bytes list.section r).r_address ≡ true) of.size_is
    (use_place kind size (relocation_at list.bytes list.section r) is) in
    in_walk l kind s r there (subst (λ b. is_of_kind kind (section_at b list.section) ≡ true) same of.is_of)
    (subst (λ b. r < (section_at b list.section).nreloc) same lt)
    (subst (λ b. is_placed kind (section_at b list.section).size (relocation_at b list.section r).r_address ≡ true) same placed)

pub is_pointer_to_symbol : (rows : ResolvedRows) (file : ℕ) (list : RelocationBytes) (kind : Kind) (size r : ℕ)
    → IsSection rows.files file list kind size → r < (section_at list.bytes list.section).nreloc
    → is_use kind size (relocation_at list.bytes list.section r) ≡ true
    → IsSymbolPointer rows file (relocation_at list.bytes list.section r)
is_pointer_to_symbol rows file list kind size r of lt is =
    let rel = relocation_at list.bytes list.section r in
    let plain = use_plain kind size rel is in
    let extern = use_extern kind size rel is in
    let named : names_symbol rel ≡ true =
    both rel.r_extern (not (rel.r_type == ARM64_RELOC_ADDEND)) extern (ap not (no_addend rel plain)) in
    record { form = plain; named = extern; symbol = has_referent rows file list.bytes list.section r of.rows of.object of.there lt named }

-- of a relocation that was got
pub pointer_got : (rows : ResolvedRows) (file : ℕ) (list : RelocationBytes) (kind : Kind) (size r : ℕ) (rel : RelocationInfo)
    → IsSection rows.files file list kind size → r < (section_at list.bytes list.section).nreloc
    → rel ≡ relocation_at list.bytes list.section r
    → is_use kind size rel ≡ true → IsSymbolPointer rows file rel
pointer_got rows file list kind size r rel of lt got is =
    subst (λ (q : RelocationInfo). IsSymbolPointer rows file q) (sym got)
    (is_pointer_to_symbol rows file list kind size r of lt (subst (λ (q : RelocationInfo). is_use kind size q ≡ true) got is))

pub walk_got : (l : Link) (files : List FileRows) (file : ℕ) (list : RelocationBytes) (kind : Kind) (size r : ℕ) (rel : RelocationInfo)
    → IsSection files file list kind size → HasObject l file list.bytes → r < (section_at list.bytes list.section).nreloc
    → rel ≡ relocation_at list.bytes list.section r → is_use kind size rel ≡ true
    → Contains (uses_of l) (use_of kind (section_id file list.section) r)
walk_got l files file list kind size r rel of has lt got is =
    is_in_walk l files file list kind size r of has lt (subst (λ (q : RelocationInfo). is_use kind size q ≡ true) got is)

pub relocation_got : (l : Link) (file : ℕ) (list : RelocationBytes) (r : ℕ) (rel : RelocationInfo) → HasObject l file list.bytes
    → rel ≡ relocation_at list.bytes list.section r → rel ≡ relocation_in l (section_id file list.section) r
relocation_got l file list r rel has got = got ∙ ap (λ b. relocation_at b list.section r) (sym (same_object l file list.bytes has))

pub section_kept : (old new : List FileRows) (file : ℕ) (list : RelocationBytes) (kind : Kind) (size : ℕ)
    → IsSection old file list kind size
    → ((inputs : List Input) → Keeps inputs old → Keeps inputs new) → IsSection new file list kind size
section_kept old new file list kind size of kept = record {
  rows = rows_kept old new file list.bytes of.rows kept;
  object = of.object;
  there = of.there;
  is_of = of.is_of;
  size_is = of.size_is;
}
