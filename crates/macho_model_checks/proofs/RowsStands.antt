-- The smallest image stands in memory at every slide, and so is linked; and each part of that is broken by a change.
--
-- Its one section stands in the file at 0x138, in the file part of `__TEXT`, which has no chain word; so memory holds
-- the section's bytes at its placed address plus the slide. There are no fields, commons, slots or stubs. Memory has one
-- byte at an address of the one mapped segment, so another byte there is not held.
use Rattle.std.proofs.Common.{◌≡◌, ℕ, zero, suc, ◌++◌, ◌+◌, ◌-◌, ◌<◌, ◌≤◌, nat_le, nat_lt, ◌||◌, if◌then◌else◌, Bool, true, List, length, [], ◌∷◌, slice_index, refl, subst, arith, inl, inr, All}
use Rattle.std.specs.Prelude.{Contains, codes}
use Rattle.std.proofs.lemmas.Bool.{lt-ltb, leb-true, or_cases}
use Rattle.std.proofs.lemmas.List.Elements.{All-nil, All-cons, All-contains, All-head, All-weaker}
use Rattle.macho_bytes.specs.Numbers.{le_at, le_bytes, row_bytes}
use Rattle.macho_bytes.specs.Layouts.{reading}
use Rattle.macho_bytes.specs.Texts.{Stands}
use Rattle.macho_records.specs.declared.header.SegmentCommand.{SegmentCommand}
use Rattle.macho_model.specs.declared.targets.Target.TheVariants as target
use Rattle.macho_records.specs.Symbols.{common_size_of}
use Rattle.macho_model.specs.Commands.{header_of, commands_from, commands_of, commands_end}
use Rattle.macho_model.specs.Objects.{num_sections, section_place, section_at, section_bytes, symtab_of, num_symbols, symbol_place, symbol_at, strings_of, symbol_name, relocation_place, relocation_at}
use Rattle.macho_model.specs.Links.{Link, Object, object_of, header_at, sections_of, carried_of, template_exponent, placed_exponent}
use Rattle.macho_model.specs.Targets.{target_of, target_of_relocation, slots_of, stubs_of}
use Rattle.macho_model.specs.Resolution.{entry_at, symbols_of, strong_of, commons_of, greatest_of, libraries_with, definition_of, chosen_commons}
use Rattle.macho_model.specs.Fields.{fields_of}
use Rattle.macho_model.specs.Images.{segments_of, mapped_segments, tables_of, base_of, libraries_of, tries_of, signatures_of, symbol_tables_of, string_tables_of, entries_of_file}
use Rattle.macho_model.specs.Memory.{Choice, Holds, HoldsText}
use Rattle.macho_model.specs.Placement.{Placed, id_of, common_of}
use Rattle.macho_model.specs.Zeros.{Span, contents_of, IsZeroElsewhere}
use Rattle.std.specs.List.{list_all}
use Rattle.macho_model.specs.Stands.{Denotes, SectionStands, SlotStands, StubStands, ImageStands, IsLoadable}
use Rattle.macho_model.specs.Needs.{initializer_sections, unwind_sections, imports_of, libraries_needed, carried_relocations, initializer_relocations, personality_relocations}
use Rattle.macho_model.specs.ExportLists.{plain_entries, all_entries, entries_of}
use Rattle.macho_model.specs.Segments.{other_segments, segment_names_of, output_keys_of}
use Rattle.macho_model.specs.Fixups.{own_entries, import_entries_of, entries_have_addends}
use Rattle.macho_model.specs.ImportTable.{fixup_count, names_text}
use Rattle.macho_model.specs.Addresses.{offset_in_file}
use Rattle.macho_model_checks.proofs.Examples.{words8, words, halves, name16, changed}
use Rattle.macho_model_checks.proofs.ExampleLinks.{executable_of, entry, text_object, section}
use Rattle.macho_model_checks.proofs.ExampleImages.{smallest}
use Rattle.macho_model_checks.proofs.ExamplePlacement.{link_a, counts_a, section_a, placed_a}
use Rattle.macho_model_checks.proofs.FactsA.{section_of_a, bytes_of_a, fields_a}
use Rattle.macho_model.proofs.Unchained.{uncovered}
use Rattle.macho_model.proofs.Memory.{all_free, text_is_held}
use Rattle.macho_model_checks.proofs.RowsLoader.{no_tables, smallest_is_accepted}
use Rattle.macho_model_checks.proofs.RowsPlacement.{a_is_placed}
use Rattle.macho_model.specs.steps.Stands.{CommonStands}
use Rattle.macho_model.specs.Spans.{IsOutsideField, IsOutsideSpan}
use Rattle.macho_bytes.proofs.Members.{all_pass}

-- `__TEXT` of the smallest image
text_segment : SegmentCommand
text_segment = record {
  cmd = 0x19;
  cmdsize = 152;
  segname = name16 (codes "__TEXT");
  vmaddr = 0x100000000;
  vmsize = 0x4000;
  fileoff = 0;
  filesize = 0x4000;
  maxprot = 5;
  initprot = 5;
  nsects = 1;
  flags = 0;
}

one_segment : mapped_segments smallest ≡ text_segment ∷ []
unfolding text_segment mapped_segments segments_of commands_of commands_from header_of reading le_at row_bytes le_bytes words8 words
    name16 smallest
one_segment = refl

-- the section's bytes, in the file
abbrev pub code : List ℕ
code = 0x00 ∷ 0x00 ∷ 0x80 ∷ 0x52 ∷ 0xc0 ∷ 0x03 ∷ 0x5f ∷ 0xd6 ∷ []

code_stands : Stands smallest (record { at = 0x138; text = code })
unfolding row_bytes le_bytes words8 words name16 smallest
code_stands = record { within = omega arith; same = refl }

-- so they are held
code_is_held : (s : ℕ) (choice : Choice) → HoldsText smallest s choice (0x100000138 + s) code
unfolding text_segment
code_is_held s choice =
    text_is_held smallest s choice text_segment 0x138 code (all_free smallest 0x100000138 8 no_tables)
    (rw one_segment (0, omega arith, refl)) (omega arith) (omega arith) code_stands

section_stands : (s : ℕ) (choice : Choice) → SectionStands link_a smallest placed_a s choice (section_a 0x100000138)
section_stands s choice =
    record {
      bytes = λ i within outside.
          let small : i < 8 = rw section_of_a at within in
          let here : 0x100000138 + i + s ≡ 0x100000138 + s + i = omega arith in
          rw (here, bytes_of_a) (code_is_held s choice i small);
      fields = rw fields_a (All-nil (Denotes link_a smallest placed_a s choice (section_a 0x100000138)));
    }

-- The smallest image stands.
pub smallest_stands : (s : ℕ) (choice : Choice) → ImageStands link_a smallest placed_a s choice
smallest_stands s choice =
    record {
      sections = All-cons (SectionStands link_a smallest placed_a s choice) (section_a 0x100000138) [] (section_stands s choice)
          (All-nil (SectionStands link_a smallest placed_a s choice));
      commons = All-nil (CommonStands link_a smallest s choice);
      slots = All-nil (SlotStands link_a smallest placed_a s choice);
      stubs = All-nil (StubStands smallest placed_a s choice);
    }

-- The smallest link meets the whole promise.
pub a_is_loadable : IsLoadable link_a counts_a smallest placed_a
a_is_loadable = record {
  placed = a_is_placed;
  accepted = smallest_is_accepted;
  stands = λ s choice paged fits binds. smallest_stands s
      choice;
}

-- memory of an image with one mapped segment and no tables has the file's byte at an offset in its file part
pub one_byte : (b : List ℕ) (segment : SegmentCommand) (s : ℕ) (choice : Choice) (i v : ℕ) → tables_of b ≡ []
    → mapped_segments b ≡ segment ∷ []
    → i < segment.filesize → Holds b s choice (segment.vmaddr + i + s) v → v ≡ slice_index b (segment.fileoff + i)
one_byte b segment s choice i v none one within held =
    let here : held.a ≡ segment.vmaddr + i = omega (arith, held.slid) in
    elim held.byte [
      | inl chained ↦ absurd (uncovered b none held.a chained.word_at chained.covers)
      | inr plain ↦ of_segment plain.1.segment (subst (λ xs. Contains xs plain.1.segment) one plain.1.one) here plain.1.is
    ]
  where
    value : (t : SegmentCommand) → segment ≡ t → (a : ℕ) → a ≡ segment.vmaddr + i
        → v ≡ (if nat_lt (a - t.vmaddr) t.filesize then slice_index b (t.fileoff + (a - t.vmaddr)) else 0)
        → v ≡ slice_index b (segment.fileoff + i)
    value t same a here is =
        let place : segment.vmaddr + i - segment.vmaddr ≡ i = omega arith in
        let first : v ≡ (if nat_lt (segment.vmaddr + i - segment.vmaddr) segment.filesize then slice_index b
        (segment.fileoff + (segment.vmaddr + i - segment.vmaddr)) else 0) =
        rw (← same, here) at is in
        let second : v ≡ (if nat_lt i segment.filesize then slice_index b (segment.fileoff + i) else 0) = rw place at first in
        rw (lt-ltb i segment.filesize within) at second

    of_segment : (t : SegmentCommand) → Contains (segment ∷ []) t → {a : ℕ} → a ≡ segment.vmaddr + i
        → v ≡ (if nat_lt (a - t.vmaddr) t.filesize then slice_index b (t.fileoff + (a - t.vmaddr)) else 0)
        → v ≡ slice_index b (segment.fileoff + i)
    of_segment t one_of {a = a} here is =
        let same : segment ≡ t = All-contains (λ x. segment ≡ x) (segment ∷ []) t
        (All-cons (λ x. segment ≡ x) segment [] refl (All-nil (λ x. segment ≡ x))) one_of in
        value t same a here is

-- The same image with another first byte of code: `sections` fails, since memory has 1 where the input has 0.
unfoldable pub other_code : List ℕ
other_code = changed smallest 0x138 (1 ∷ [])

other_tables : tables_of other_code ≡ []
unfolding tables_of commands_of commands_from header_of reading le_at row_bytes le_bytes words8 words name16 smallest changed other_code
other_tables = refl

other_segment : mapped_segments other_code ≡ text_segment ∷ []
unfolding text_segment mapped_segments segments_of commands_of commands_from header_of reading le_at row_bytes le_bytes words8 words
    name16 smallest changed other_code
other_segment = refl

other_byte : slice_index other_code 0x138 ≡ 1
unfolding row_bytes le_bytes words8 words name16 smallest changed other_code
other_byte = refl

other_code_does_not_stand : (s : ℕ) (choice : Choice) → All (SectionStands link_a other_code placed_a s choice) placed_a.sections → ⊥
unfolding text_segment
other_code_does_not_stand s choice sections =
    let first = All-head (SectionStands link_a other_code placed_a s choice) (section_a 0x100000138) [] sections in
    let outside : All (IsOutsideField 0) (fields_of link_a (id_of (section_a 0x100000138))) = rw fields_a (All-nil (IsOutsideField 0)) in
    let held = first.bytes 0 (rw section_of_a (omega arith)) outside in
    let zero_there : Holds other_code s choice (0x100000138 + 0 + s) 0 = rw bytes_of_a at held in
    let is = one_byte other_code text_segment s choice 0x138 0 other_tables other_segment (omega arith) zero_there in
    omega (arith, is, other_byte)

-- slots and stubs lead to their targets
pub record LeadsThrough (l : Link) (b : List ℕ) (p : Placed) (s : ℕ) (choice : Choice) : Type 0 where
  pub slots : All (SlotStands l b p s choice) p.slots
  pub stubs : All (StubStands b p s choice) p.stubs

-- One part of standing fails, and the other two hold.
pub data StandsPart : Type 0 where
  Sections : StandsPart
  Commons : StandsPart
  Through : StandsPart

abbrev pub StandsKeeps : Link → List ℕ → Placed → ℕ → Choice → StandsPart → Type 0
StandsKeeps l b p s choice Sections = All (SectionStands l b p s choice) p.sections
StandsKeeps l b p s choice Commons = All (CommonStands l b s choice) p.commons
StandsKeeps l b p s choice Through = LeadsThrough l b p s choice

pub record StandsAlone (l : Link) (b : List ℕ) (p : Placed) (part : StandsPart) : Type 0 where
  pub broken : (s : ℕ) (choice : Choice) → StandsKeeps l b p s choice part → ⊥
  pub others : (s : ℕ) (choice : Choice) (other : StandsPart) → (other ≡ part → ⊥) → StandsKeeps l b p s choice other

pub sections_alone : StandsAlone link_a other_code placed_a Sections
sections_alone = record { broken = other_code_does_not_stand; others = others }
  where
    others : (s : ℕ) (choice : Choice) (other : StandsPart) → (other ≡ Sections → ⊥) → StandsKeeps link_a other_code placed_a s choice other
    others s choice Sections apart = absurd (apart refl)
    others s choice Commons apart = All-nil (CommonStands link_a other_code s choice)
    others s choice Through apart = record {
      slots = All-nil (SlotStands link_a other_code placed_a s choice);
      stubs = All-nil
          (StubStands other_code placed_a s choice);
    }

-- a byte at an address that is not mapped
unmapped_is_not_held : (s : ℕ) (choice : Choice) (v : ℕ) → Holds smallest s choice (0 + s) v → ⊥
unfolding text_segment
unmapped_is_not_held s choice v held =
    elim held.byte [
      | inl chained ↦ uncovered smallest no_tables held.a chained.word_at chained.covers
      | inr plain ↦
          let from = All-contains (λ (x : SegmentCommand). 0x100000000 ≤ x.vmaddr) (text_segment ∷ []) plain.1.segment
          (All-cons (λ (x : SegmentCommand). 0x100000000 ≤ x.vmaddr) text_segment [] (omega arith)
          (All-nil (λ (x : SegmentCommand). 0x100000000 ≤ x.vmaddr)))
          (subst (λ xs. Contains xs plain.1.segment) one_segment plain.1.one) in
          omega (arith, from, plain.1.from, held.slid)
    ]

-- The object with a common `_c` of four bytes beside: it stands in zeros behind the code.
unfoldable pub object_c : List ℕ
object_c = text_object (words (0x52800000 ∷ 0xd65f03c0 ∷ [])) [] (entry 1 0x0f 1 0 0 ++ entry 7 0x01 0 0x200 4)
    (0 ∷ codes "_main" ++ 0 ∷ codes "_c" ++ 0 ∷ [])

abbrev pub link_c : Link
link_c = executable_of (Object object_c ∷ [])

-- the smallest image's placement, with the common at an address
abbrev pub placed_c : ℕ → Placed
placed_c address = record placed_a { commons = record { id = 0; address = address } ∷ [] }

facts_c : (common_size_of (entry_at link_c (common_of link_c 0)) ≡ 4) × ((header_at link_c (section 0 0)).size ≡ 8)
    × (fields_of link_c (section 0 0) ≡ [])
    × (section_bytes (object_of link_c 0) 0 ≡ code)
unfolding header_of commands_from commands_of commands_end num_sections section_place section_at section_bytes symtab_of
    num_symbols symbol_place symbol_at strings_of symbol_name sections_of carried_of symbols_of strong_of commons_of greatest_of
    libraries_with definition_of chosen_commons target_of target_of_relocation fields_of relocation_place relocation_at le_at le_bytes
    row_bytes reading words8 words halves name16 entry text_object object_c
facts_c = (refl, refl, refl, refl)

zeros_stand : Stands smallest (record { at = 0x200; text = 0 ∷ 0 ∷ 0 ∷ 0 ∷ [] })
unfolding row_bytes le_bytes words8 words name16 smallest
zeros_stand = record { within = omega arith; same = refl }

zeros_are_held : (s : ℕ) (choice : Choice) → HoldsText smallest s choice (0x100000200 + s) (0 ∷ 0 ∷ 0 ∷ 0 ∷ [])
unfolding text_segment
zeros_are_held s choice =
    text_is_held smallest s choice text_segment 0x200 (0 ∷ 0 ∷ 0 ∷ 0 ∷ []) (all_free smallest 0x100000200 4 no_tables)
    (rw one_segment (0, omega arith, refl)) (omega arith) (omega arith) zeros_stand

zero_at : (i : ℕ) → i < 4 → slice_index (0 ∷ 0 ∷ 0 ∷ 0 ∷ []) i ≡ 0
zero_at zero lt = refl
zero_at (suc zero) lt = refl
zero_at (suc (suc zero)) lt = refl
zero_at (suc (suc (suc zero))) lt = refl
zero_at (suc (suc (suc (suc i)))) lt = absurd (omega (arith, lt))

section_c_stands : (address s : ℕ) (choice : Choice) → All (SectionStands link_c smallest (placed_c address) s choice)
    (placed_c address).sections
section_c_stands address s choice =
    All-cons (SectionStands link_c smallest (placed_c address) s choice) (section_a 0x100000138) []
    (record {
      bytes = λ i within outside.
          let small : i < 8 = rw facts_c.1 at within in
          let here : 0x100000138 + i + s ≡ 0x100000138 + s + i = omega arith in
          rw (here, facts_c.3) (code_is_held s choice i small);
      fields = rw facts_c.2 (All-nil (Denotes link_c smallest (placed_c address) s choice (section_a 0x100000138)));
    })
    (All-nil (SectionStands link_c smallest (placed_c address) s choice))

nothing_through : (address s : ℕ) (choice : Choice) → LeadsThrough link_c smallest (placed_c address) s choice
nothing_through address s choice = record {
  slots = All-nil (SlotStands link_c smallest (placed_c address) s choice);
  stubs = All-nil (StubStands smallest (placed_c address) s choice);
}

-- Its image stands.
pub common_stands : (s : ℕ) (choice : Choice) → ImageStands link_c smallest (placed_c 0x100000200) s choice
common_stands s choice = record {
  sections = section_c_stands 0x100000200 s choice;
  commons = All-cons (CommonStands link_c smallest s choice) (record { id = 0; address = 0x100000200 }) []
      (λ i within. let small : i < 4 = rw facts_c.0 at within in
      let here : 0x100000200 + i + s ≡ 0x100000200 + s + i = omega arith in
      let zero = zero_at i small in
      rw here (subst (Holds smallest s choice (0x100000200 + s + i)) zero (zeros_are_held s choice i small)))
      (All-nil (CommonStands link_c smallest s choice));
  slots = (nothing_through 0x100000200 s choice).slots;
  stubs = (nothing_through 0x100000200 s choice).stubs;
}

-- The same with the common at an address that is not mapped: `commons` fails.
pub commons_alone : StandsAlone link_c smallest (placed_c 0) Commons
commons_alone =
    record {
      broken = λ s choice commons. let here = All-head (CommonStands link_c smallest s choice) (record { id = 0; address = 0 }) []
          commons in
          let four = facts_c.0 in
          unmapped_is_not_held s choice 0 (here 0 (omega (arith, four)));
      others = others;
    }
  where
    others : (s : ℕ) (choice : Choice) (other : StandsPart) → (other ≡ Commons → ⊥)
        → StandsKeeps link_c smallest (placed_c 0) s choice other
    others s choice Sections apart = section_c_stands 0 s choice
    others s choice Commons apart = absurd (apart refl)
    others s choice Through apart = nothing_through 0 s choice

-- A byte that is not 0 where the common is placed: the zeros that are asked of the file aren't there, and the common does not stand.
unfoldable pub with_one : List ℕ
with_one = changed smallest 0x200 (1 ∷ [])

one_there : (tables_of with_one ≡ []) × (mapped_segments with_one ≡ text_segment ∷ []) × (length with_one ≡ 0x4000)
    × (slice_index with_one 0x200 ≡ 1)
unfolding tables_of with_one text_segment mapped_segments segments_of commands_of commands_from header_of reading le_at row_bytes le_bytes
    words8 words name16 smallest changed
one_there = (refl, refl, refl, refl)

-- the byte stands in none of the image's parts
abbrev is_outside : Span → Bool
is_outside part = nat_le 513 part.start || nat_le (part.start + part.size) 512

outside_parts : list_all is_outside (contents_of link_c with_one (placed_c 0x100000200) 0) ≡ true
unfolding contents_of tables_of with_one commands_end text_segment mapped_segments segments_of commands_of commands_from header_of reading
    le_at row_bytes le_bytes words8 words name16 smallest changed num_sections section_place section_at section_bytes symtab_of
    num_symbols symbol_place symbol_at strings_of symbol_name sections_of carried_of symbols_of strong_of commons_of
    greatest_of libraries_with definition_of chosen_commons target_of target_of_relocation fields_of relocation_place
    relocation_at halves entry text_object object_c template_exponent placed_exponent initializer_sections unwind_sections
    carried_relocations initializer_relocations personality_relocations imports_of libraries_needed slots_of stubs_of plain_entries
    all_entries entries_of other_segments
    segment_names_of output_keys_of own_entries import_entries_of entries_have_addends fixup_count names_text base_of
    libraries_of tries_of signatures_of symbol_tables_of string_tables_of entries_of_file offset_in_file
outside_parts = refl

outside_part : (part : Span) → is_outside part ≡ true → IsOutsideSpan 512 part
outside_part part h = elim (or_cases (nat_le 513 part.start) (nat_le (part.start + part.size) 512) h) [
  | inl before ↦ inl (leb-true 513 part.start before)
  | inr behind ↦ inr (leb-true (part.start + part.size) 512 behind)
]

pub zeros_are_asked : IsZeroElsewhere link_c with_one (placed_c 0x100000200) 0 → ⊥
zeros_are_asked zeros =
    let parts = contents_of link_c with_one (placed_c 0x100000200) 0 in
    let outside = All-weaker (λ part. is_outside part ≡ true) (IsOutsideSpan 512) outside_part parts
    (all_pass is_outside parts outside_parts) in
    let zero = zeros 512 (omega (arith, one_there.2)) outside in
    omega (arith, zero, one_there.3)

pub common_needs_zeros : (s : ℕ) (choice : Choice) → All (CommonStands link_c with_one s choice) (placed_c 0x100000200).commons → ⊥
unfolding text_segment
common_needs_zeros s choice commons =
    let here = All-head (CommonStands link_c with_one s choice) (record { id = 0; address = 0x100000200 }) [] commons in
    let held = here 0 (omega (arith, facts_c.0)) in
    let is = one_byte with_one text_segment s choice 0x200 0 one_there.0 one_there.1 (omega arith) held in
    omega (arith, is, one_there.3)

-- A slot whose target is nowhere: `through` fails.
abbrev pub with_slot : Placed
with_slot = record placed_a { slots = record { target = target.None; address = 0x100000138 } ∷ [] }

pub through_alone : StandsAlone link_a smallest with_slot Through
through_alone =
    record {
      broken = λ s choice through. (All-head (SlotStands link_a smallest with_slot s choice)
          (record { target = target.None; address = 0x100000138 }) [] through.slots).at;
      others = others;
    }
  where
    others : (s : ℕ) (choice : Choice) (other : StandsPart) → (other ≡ Through → ⊥) → StandsKeeps link_a smallest with_slot s choice other
    others s choice Sections apart =
        All-cons (SectionStands link_a smallest with_slot s choice) (section_a 0x100000138) []
        (record {
          bytes = (section_stands s choice).bytes;
          fields = rw fields_a (All-nil
              (Denotes link_a smallest with_slot s choice (section_a 0x100000138)));
        })
        (All-nil (SectionStands link_a smallest with_slot s choice))
    others s choice Commons apart = All-nil (CommonStands link_a smallest s choice)
    others s choice Through apart = absurd (apart refl)
