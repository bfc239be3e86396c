-- Changes of a byte in which the stub, and the room of unwind information, break alone.
--
-- The stub: its last word goes through `x17`, which nothing wrote. The sections are filled and all other bytes are 0, as before; but at
-- no slide does the image stand, since no chain word covers that word and one segment alone has its address.
--
-- Unwind information: a byte of a section stands behind the stub, where none is told. Sections and stub are written, and all other
-- bytes are 0; but a link without entries has no such bytes.
use Rattle.std.proofs.Common.{◌≡◌, ◌≢◌, if◌then◌else◌, ℕ, ◌+◌, ◌-◌, ◌<◌, ◌≤◌, ◌==◌, ◌||◌, ◌&&◌, Bool, true, false, not, List, [], ◌∷◌, length, take, drop, get_or, inl, inr, refl, sym, ap, ◌∙◌, subst, arith, nat_le, nat_lt, All, slice_index}
use Rattle.std.proofs.lemmas.List.{append_assoc}
use Rattle.std.proofs.lemmas.List.Elements.{All-nil, All-cons, All-from_recursion}
use Rattle.std.proofs.lemmas.Bool.{leb-true, le-leb, lt-ltb, ltb-true, ltb-false}
use Rattle.std.specs.List.{list_all}
use Rattle.std.specs.Prelude.{Contains}
use Rattle.macho_bytes.specs.Numbers.{le_at, le_bytes, be_at, be_bytes, row_bytes}
use Rattle.macho_bytes.specs.Layouts.{reading}
use Rattle.macho_bytes.specs.Texts.{put}
use Rattle.macho_bytes.proofs.Puts.{length-put, get_or-put_below, get_or-put_above}
use Rattle.macho_records.specs.declared.header.SegmentCommand.{SegmentCommand}
use Rattle.macho_model.specs.Commands.{header_of, commands_from, commands_of, commands_end}
use Rattle.macho_model.specs.Objects.{num_sections, section_place, section_at, section_bytes, symtab_of, num_symbols, symbol_place, symbol_at, strings_of, symbol_name, relocation_place, relocation_at}
use Rattle.macho_model.specs.ExportLists.{plain_entries, all_entries, entries_of}
use Rattle.macho_model.specs.Links.{sections_of, carried_of, template_exponent, placed_exponent}
use Rattle.macho_model.specs.Resolution.{symbols_of, strong_of, commons_of, greatest_of, libraries_with, definition_of, chosen_commons}
use Rattle.macho_model.specs.steps.Resolved.{weak_of}
use Rattle.macho_model.specs.Needs.{initializer_sections, unwind_sections, imports_of, libraries_needed, carried_relocations, initializer_relocations, personality_relocations}
use Rattle.macho_model.specs.Targets.{target_of, target_of_relocation, slots_of, stubs_of}
use Rattle.macho_model.specs.Fields.{fields_of}
use Rattle.macho_model.specs.Segments.{other_segments, segment_names_of, output_keys_of}
use Rattle.macho_model.specs.Placement.{Placed}
use Rattle.macho_model.specs.Zeros.{Span, contents_of, IsZeroElsewhere}
use Rattle.macho_model.specs.Images.{segments_of, mapped_segments, base_of, libraries_of, tables_of, tries_of, signatures_of, symbol_tables_of, string_tables_of, entries_of_file}
use Rattle.macho_model.specs.Fixups.{own_entries, import_entries_of, entries_have_addends}
use Rattle.macho_model.specs.ImportTable.{fixup_count, names_text}
use Rattle.macho_model.specs.Chain.{ChainSegment, chain_segments, OnChain}
use Rattle.macho_model.specs.Addresses.{offset_in_file}
use Rattle.macho_model.specs.Memory.{Choice, Holds, HoldsNumber, Covers}
use Rattle.macho_model.specs.Stands.{ImageStands}
use Rattle.macho_image_walks.proofs.ChainSets.{is_closed, among_passes, chain_within}
use Rattle.macho_unwind_pages.specs.declared.entries.ResolvedUnwindInfo.{ResolvedUnwindInfo}
use Rattle.macho_promise.specs.UnwindSays.{IsUnwindText, UnwindSays}
use Rattle.macho_promise.specs.Filled.{bytes_in_file}
use Rattle.macho_image_laws.specs.Composed.{SectionIsWritten, StubIsWritten, ContentIsWritten}
use Rattle.macho_model_checks.proofs.Examples.{words8, words, halves, name16, changed}
use Rattle.macho_model_checks.proofs.ExampleLinks.{entry}
use Rattle.macho_model_checks.proofs.ExampleCall.{calls_exit, calling, code_placed, data_placed, stub_placed, placed_call, head_of_call, fixups_of_call, tables_of_call, big_words, signature_of_call, call_image, range}
use Rattle.macho_model_checks.proofs.RowsCallChain.{segments_in_chain, words_in_chain}
use Rattle.macho_model_checks.proofs.RowsCallUnwind.{no_entries}
use Rattle.macho_model_checks.proofs.RowsCallZeros.{span, contents_of_call, call_zeros, contents_are}
use Rattle.macho_promise_checks.proofs.ChangesCall.{Breaks}
use Rattle.macho_promise_checks.proofs.FactsCall.{sizes_call}
use Rattle.macho_promise_checks.proofs.ComposedCall.{filled_text, filled_data, stub_call}
use Rattle.macho_model.specs.Spans.{IsOutsideSpan}
use Rattle.macho_bytes.proofs.Bools.{and_left, and_right, and_both, is_equal, or_holds}
use Rattle.macho_bytes.proofs.Members.{one_passes}
use Rattle.macho_model_checks.proofs.RowsCall.{call_long}

-- The image with another byte at a place.
abbrev with_byte : ℕ → ℕ → List ℕ
with_byte at byte = changed call_image at (byte ∷ [])

-- all other bytes are those of the image
is_put : (at byte : ℕ) → with_byte at byte ≡ put at (byte ∷ []) call_image
unfolding changed put
is_put at byte = append_assoc (take at call_image) (byte ∷ []) (drop (at + 1) call_image)

beside : (at byte i : ℕ) → at < 49948 → i ≢ at → slice_index (with_byte at byte) i ≡ slice_index call_image i
beside at byte i within other =
    ap (λ (b : List ℕ). get_or b i 0) (is_put at byte) ∙ by (nat_lt i at) refl
  where
    fits : at + 1 ≤ length call_image
    fits = omega (arith, within, call_long)

    by : (t : Bool) → nat_lt i at ≡ t → get_or (put at (byte ∷ []) call_image) i 0 ≡ get_or call_image i 0
    by true is = get_or-put_below at (byte ∷ []) call_image i fits (ltb-true i at is)
    by false is = get_or-put_above at (byte ∷ []) call_image i fits (omega (arith, ltb-false i at is, other))

long_as_before : (at byte : ℕ) → at < 49948 → length (with_byte at byte) ≡ 49948
long_as_before at byte within =
    ap (λ (b : List ℕ). length b) (is_put at byte) ∙ length-put at (byte ∷ []) call_image (omega (arith, within, call_long)) ∙ call_long

-- 1. The stub: `br x17` in place of `br x16`.
unfoldable pub with_other_stub : List ℕ
with_other_stub = with_byte 0x3a8 0x20

-- a segment that has the address of that word is `__TEXT`
abbrev has_branch : SegmentCommand → Bool
has_branch s = nat_le s.vmaddr 0x1000003a8 && nat_lt 0x1000003a8 (s.vmaddr + s.vmsize)

abbrev is_text : SegmentCommand → Bool
is_text s = not (has_branch s) || ((s.vmaddr == 0x100000000) && (s.fileoff == 0) && (s.filesize == 0x4000))

other_stub_facts : (chain_segments with_other_stub ≡ segments_in_chain)
    × (is_closed segments_in_chain with_other_stub words_in_chain ≡ true)
    × (list_all is_text (mapped_segments with_other_stub) ≡ true)
    × (slice_index with_other_stub 0x3a8 ≡ 0x20)
unfolding changed with_other_stub chain_segments commands_end commands_of commands_from header_of reading le_at row_bytes le_bytes words8
    words halves name16 entry calls_exit head_of_call fixups_of_call tables_of_call be_at be_bytes big_words signature_of_call call_image
    segments_of mapped_segments base_of libraries_of tables_of tries_of signatures_of symbol_tables_of string_tables_of entries_of_file
other_stub_facts = (refl, refl, refl, refl)

no_word_there : (w : ℕ) → Covers with_other_stub w 0x1000003a8 → ⊥
no_word_there w (on, low, high) =
    let late = among_passes (λ x. nat_le 0x100004000 x) words_in_chain w refl
    (chain_within segments_in_chain with_other_stub words_in_chain other_stub_facts.1 w
    (subst (λ (segments : List ChainSegment). OnChain segments with_other_stub w) other_stub_facts.0 on)) in
    omega (arith, leb-true 0x100004000 w late, low)

of_text : (v : ℕ) (s : SegmentCommand) → Contains (mapped_segments with_other_stub) s → s.vmaddr ≤ 0x1000003a8
    → 0x1000003a8 < s.vmaddr + s.vmsize
    → v ≡ (if nat_lt (0x1000003a8 - s.vmaddr) s.filesize then slice_index with_other_stub (s.fileoff + (0x1000003a8 - s.vmaddr)) else 0)
    → v ≡ 0x20
of_text v s one low high is =
    let has : has_branch s ≡ true = and_both (nat_le s.vmaddr 0x1000003a8) (nat_lt 0x1000003a8 (s.vmaddr + s.vmsize))
    (le-leb s.vmaddr 0x1000003a8 low) (lt-ltb 0x1000003a8 (s.vmaddr + s.vmsize) high) in
    let three = or_holds (has_branch s) ((s.vmaddr == 0x100000000) && (s.fileoff == 0) && (s.filesize == 0x4000)) has
    (one_passes is_text (mapped_segments with_other_stub) s other_stub_facts.2 one) in
    let two = and_left ((s.vmaddr == 0x100000000) && (s.fileoff == 0)) (s.filesize == 0x4000) three in
    let address = is_equal s.vmaddr 0x100000000 (and_left (s.vmaddr == 0x100000000) (s.fileoff == 0) two) in
    let offset = is_equal s.fileoff 0 (and_right (s.vmaddr == 0x100000000) (s.fileoff == 0) two) in
    let size = is_equal s.filesize 0x4000 (and_right ((s.vmaddr == 0x100000000) && (s.fileoff == 0)) (s.filesize == 0x4000) three) in
    let plain : v ≡ slice_index with_other_stub 0x3a8 = rw (address, offset, size) at is in
    plain ∙ other_stub_facts.3

byte_there : (s : ℕ) (choice : Choice) (v : ℕ) → Holds with_other_stub s choice (0x1000003a0 + 8 + s + 0) v → v ≡ 0x20
byte_there s choice v held =
    elim held.byte [
      | inl chained ↦ absurd (no_word_there chained.word_at
          (subst (λ (a : ℕ). Covers with_other_stub chained.word_at a) here chained.covers))
      | inr plain ↦ of_text v plain.1.segment plain.1.one (omega (arith, here, plain.1.from)) (omega (arith, here, plain.1.to))
          (subst (λ (a : ℕ). v ≡ (if nat_lt (a - plain.1.segment.vmaddr) plain.1.segment.filesize
          then slice_index with_other_stub (plain.1.segment.fileoff + (a - plain.1.segment.vmaddr)) else 0)) here plain.1.is)
    ]
  where
    here : held.a ≡ 0x1000003a8
    here = omega (arith, held.slid)

-- a number of four bytes ends with its first one
not_branch : (text : List ℕ) → slice_index text 0 ≡ 0x20 → 0xd61f0200 ≡ le_at 4 text 0 → ⊥
unfolding le_at
not_branch text first is = omega (arith, first, is)

other_branch : (s : ℕ) (choice : Choice) (br : ℕ) → br ≡ 0xd61f0200 → HoldsNumber with_other_stub s choice 4 (0x1000003a0 + 8 + s) br → ⊥
other_branch s choice br leaves held =
    not_branch held.text (byte_there s choice (slice_index held.text 0) (held.held 0 (omega (arith, held.long)))) (sym leaves ∙ held.is)

other_stub_bytes : (bytes_in_file with_other_stub placed_call 0x100000398 8 ≡ words (0x94000002 ∷ 0xd65f03c0 ∷ []))
    × (bytes_in_file with_other_stub placed_call 0x100008000 8 ≡ bytes_in_file call_image placed_call 0x100008000 8)
    × (le_at 4 (bytes_in_file with_other_stub placed_call 0x1000003a0 12) 8 ≡ 0xd61f0220)
    × (contents_of calling with_other_stub placed_call 0 ≡ contents_of_call)
unfolding changed with_other_stub commands_end commands_of commands_from header_of reading le_at row_bytes le_bytes words8 words halves
    name16 entry calls_exit head_of_call fixups_of_call tables_of_call be_at be_bytes big_words signature_of_call call_image
    num_sections section_place section_at section_bytes symtab_of num_symbols symbol_place symbol_at strings_of symbol_name
    relocation_place relocation_at sections_of carried_of template_exponent placed_exponent symbols_of strong_of weak_of
    commons_of greatest_of libraries_with definition_of chosen_commons initializer_sections unwind_sections carried_relocations
    initializer_relocations personality_relocations imports_of
    libraries_needed target_of target_of_relocation slots_of stubs_of fields_of plain_entries all_entries entries_of
    other_segments segment_names_of output_keys_of own_entries import_entries_of entries_have_addends fixup_count
    names_text segments_of mapped_segments base_of libraries_of tables_of tries_of signatures_of symbol_tables_of
    string_tables_of entries_of_file offset_in_file contents_of
other_stub_bytes = (refl, refl, refl, refl)

-- its sections are filled
pub other_stub_sections : All (SectionIsWritten calling with_other_stub placed_call) placed_call.sections
other_stub_sections =
    All-cons (SectionIsWritten calling with_other_stub placed_call) code_placed (data_placed ∷ [])
    (λ filled. rw sizes_call.0 (rw other_stub_bytes.0 filled_text))
    (All-cons (SectionIsWritten calling with_other_stub placed_call) data_placed []
    (λ filled. rw sizes_call.1 (rw other_stub_bytes.1 filled_data))
    (All-nil (SectionIsWritten calling with_other_stub placed_call)))

pub other_stub_zeros : IsZeroElsewhere calling with_other_stub placed_call 0
unfolding with_other_stub
other_stub_zeros i within out =
    let h : All (IsOutsideSpan i) contents_of_call = subst (λ (spans : List Span). All (IsOutsideSpan i) spans) other_stub_bytes.3 out in
    let apart : i ≢ 0x3a8 = λ same. in_stub (h 4 (span 0 0) (omega arith)) same in
    beside 0x3a8 0x20 i (omega arith) apart
    ∙ call_zeros i (omega (arith, within, long_as_before 0x3a8 0x20 (omega arith), call_long))
    (subst (λ (spans : List Span). All (IsOutsideSpan i) spans) (sym contents_are) h)
  where
    in_stub : IsOutsideSpan i (span 928 12) → i ≡ 0x3a8 → ⊥
    in_stub (inl before) same = omega (arith, before, same)
    in_stub (inr behind) same = omega (arith, behind, same)

pub stubs_are_needed : Breaks (All (StubIsWritten with_other_stub placed_call) placed_call.stubs)
    ((s : ℕ) × ((choice : Choice) × ImageStands calling with_other_stub placed_call s choice))
stubs_are_needed = record {
  part = λ stubs.
      let stub = stubs 0 stub_placed (omega arith) in
      let leaves : le_at 4 (bytes_in_file with_other_stub placed_call 0x1000003a0 12) 8 ≡ 0xd61f0200 = stub.through.leaves in
      omega (arith, leaves, other_stub_bytes.2);
  conclusion = λ stands.
      let stub = stands.1.1.stubs 0 stub_placed (omega arith) in
      other_branch stands.0 stands.1.0 stub.br stub.through.leaves stub.held_br;
}

-- 2. Unwind information: its first byte, a version of 1, behind the stub.
unfoldable pub with_other_unwind : List ℕ
with_other_unwind = with_byte 0x3ac 1

abbrev placed_with_room : Placed
placed_with_room = record placed_call { unwind = range 0x1000003ac 0x1000003ad }

abbrev contents_with_byte : List Span
contents_with_byte =
    span 0 920 ∷ span 920 8 ∷ span 32768 8 ∷ span 16384 8 ∷ span 928 12 ∷ span 928 0 ∷ span 940 1
    ∷ span 49152 110 ∷ span 49360 14 ∷ span 49384 16 ∷ span 49400 7 ∷ span 49408 540 ∷ []

other_unwind_facts : (bytes_in_file with_other_unwind placed_call 0x100000398 8 ≡ words (0x94000002 ∷ 0xd65f03c0 ∷ []))
    × (bytes_in_file with_other_unwind placed_call 0x100008000 8 ≡ bytes_in_file call_image placed_call 0x100008000 8)
    × (bytes_in_file with_other_unwind placed_call 0x1000003a0 12 ≡ bytes_in_file call_image placed_call 0x1000003a0 12)
    × (contents_of calling with_other_unwind placed_call 0 ≡ contents_of_call)
    × (contents_of calling with_other_unwind placed_with_room 1 ≡ contents_with_byte)
    × (slice_index with_other_unwind 0x3ac ≡ 1)
unfolding changed with_other_unwind commands_end commands_of commands_from header_of reading le_at row_bytes le_bytes words8 words halves
    name16 entry calls_exit head_of_call fixups_of_call tables_of_call be_at be_bytes big_words signature_of_call call_image
    num_sections section_place section_at section_bytes symtab_of num_symbols symbol_place symbol_at strings_of symbol_name
    relocation_place relocation_at sections_of carried_of template_exponent placed_exponent symbols_of strong_of weak_of
    commons_of greatest_of libraries_with definition_of chosen_commons initializer_sections unwind_sections carried_relocations
    initializer_relocations personality_relocations imports_of
    libraries_needed target_of target_of_relocation slots_of stubs_of fields_of plain_entries all_entries entries_of
    other_segments segment_names_of output_keys_of own_entries import_entries_of entries_have_addends fixup_count
    names_text segments_of mapped_segments base_of libraries_of tables_of tries_of signatures_of symbol_tables_of
    string_tables_of entries_of_file offset_in_file contents_of
other_unwind_facts = (refl, refl, refl, refl, refl, refl)

pub other_unwind_sections : All (SectionIsWritten calling with_other_unwind placed_call) placed_call.sections
other_unwind_sections =
    All-cons (SectionIsWritten calling with_other_unwind placed_call) code_placed (data_placed ∷ [])
    (λ filled. rw sizes_call.0 (rw other_unwind_facts.0 filled_text))
    (All-cons (SectionIsWritten calling with_other_unwind placed_call) data_placed []
    (λ filled. rw sizes_call.1 (rw other_unwind_facts.1 filled_data))
    (All-nil (SectionIsWritten calling with_other_unwind placed_call)))

pub other_unwind_stubs : All (StubIsWritten with_other_unwind placed_call) placed_call.stubs
other_unwind_stubs =
    All-cons (StubIsWritten with_other_unwind placed_call) stub_placed [] (rw other_unwind_facts.2 stub_call)
    (All-nil (StubIsWritten with_other_unwind placed_call))

-- without that byte there is an empty range
empty_range : (i : ℕ) → (t : Bool) → nat_lt i 928 ≡ t → IsOutsideSpan i (span 928 0)
empty_range i true is = inl (omega (arith, ltb-true i 928 is))
empty_range i false is = inr (omega (arith, ltb-false i 928 is))

without_byte : (i : ℕ) → All (IsOutsideSpan i) contents_with_byte → All (IsOutsideSpan i) contents_of_call
without_byte i h =
    All-from_recursion (IsOutsideSpan i) contents_of_call (
      h 0 (span 0 0) (omega arith),
      (
        h 1 (span 0 0) (omega arith),
        (
          h 2 (span 0 0) (omega arith),
          (
            h 3 (span 0 0) (omega arith),
            (
              h 4 (span 0 0) (omega arith),
              (
                h 5 (span 0 0) (omega arith),
                (
                  empty_range i (nat_lt i 928) refl,
                  (
                    h 7 (span 0 0) (omega arith),
                    (
                      h 8 (span 0 0) (omega arith),
                      (
                        h 9 (span 0 0) (omega arith),
                        (
                          h 10 (span 0 0) (omega arith),
                          (h 11 (span 0 0) (omega arith), tt),
                        ),
                      ),
                    ),
                  ),
                ),
              ),
            ),
          ),
        ),
      ),
    )

-- where a byte of unwind information is told, all others are 0
pub other_unwind_zeros : IsZeroElsewhere calling with_other_unwind placed_with_room 1
unfolding with_other_unwind
other_unwind_zeros i within out =
    let h : All (IsOutsideSpan i) contents_with_byte =
    subst (λ (spans : List Span). All (IsOutsideSpan i) spans) other_unwind_facts.4 out in
    let apart : i ≢ 0x3ac = λ same. in_byte (h 6 (span 0 0) (omega arith)) same in
    beside 0x3ac 1 i (omega arith) apart
    ∙ call_zeros i (omega (arith, within, long_as_before 0x3ac 1 (omega arith), call_long))
    (subst (λ (spans : List Span). All (IsOutsideSpan i) spans) (sym contents_are) (without_byte i h))
  where
    in_byte : IsOutsideSpan i (span 940 1) → i ≡ 0x3ac → ⊥
    in_byte (inl before) same = omega (arith, before, same)
    in_byte (inr behind) same = omega (arith, behind, same)

-- the byte is outside all that the link and its placement ask for
outside_all : All (IsOutsideSpan 0x3ac) contents_of_call
outside_all =
    All-from_recursion (IsOutsideSpan 0x3ac) contents_of_call (
      inr (omega arith),
      (
        inr (omega arith),
        (
          inl (omega arith),
          (
            inl (omega arith),
            (
              inr (omega arith),
              (
                inr (omega arith),
                (
                  inr (omega arith),
                  (
                    inl (omega arith),
                    (
                      inl (omega arith),
                      (
                        inl (omega arith),
                        (
                          inl (omega arith),
                          (inl (omega arith), tt),
                        ),
                      ),
                    ),
                  ),
                ),
              ),
            ),
          ),
        ),
      ),
    )

long_unwind : length with_other_unwind ≡ 49948
unfolding with_other_unwind
long_unwind = long_as_before 0x3ac 1 (omega arith)

not_zero : (unwind : ℕ) → unwind ≡ 0 → IsZeroElsewhere calling with_other_unwind placed_call unwind → ⊥
not_zero unwind none zeros =
    let nothing = subst (λ (n : ℕ). IsZeroElsewhere calling with_other_unwind placed_call n) none zeros in
    let byte = nothing 0x3ac (omega (arith, long_unwind))
    (subst (λ (spans : List Span). All (IsOutsideSpan 0x3ac) spans) (sym other_unwind_facts.3) outside_all) in
    omega (arith, byte, other_unwind_facts.5)

no_content : (content : List ℕ) → IsUnwindText placed_call.base [] content → length content ≡ 0
no_content content (inl (none, empty)) = ap (λ (t : List ℕ). length t) empty
no_content content (inr (some, section)) = absurd (omega (arith, some))

pub unwind_is_needed : Breaks (ContentIsWritten calling with_other_unwind placed_call)
    ((says : UnwindSays calling with_other_unwind placed_call)
    × IsZeroElsewhere calling with_other_unwind placed_call (length says.content))
unwind_is_needed = record {
  part = λ w. not_zero w.unwind (omega (arith, w.unwind_fits)) w.zeros;
  conclusion = λ told.
      not_zero (length told.0.content)
      (no_content told.0.content
      (subst (λ (es : List ResolvedUnwindInfo). IsUnwindText placed_call.base es told.0.content) no_entries told.0.exact))
      told.1;
}
