-- The smallest image agrees with its placement; and four files that a loader accepts, each with a placement that looks right,
-- are refused by what ties the two. By computing from the bytes.
--
-- A loader goes by the load commands of the file alone. So a file may be accepted, and its memory be as the placement tells,
-- while it begins elsewhere, maps a page twice, or puts data where it may be run: the segments of its commands are not those
-- of the placement then. And a file without a dynamic linker is no image at all, whatever its placement is.
use Rattle.std.proofs.Common.{◌≡◌, ℕ, ◌%◌, Bool, true, false, List, [], ◌∷◌, ◌++◌, length, get_or, map, replicate, refl, ap, ◌∙◌, sym, arith, None}
use Rattle.std.specs.Prelude.{codes, ◌+◌, if◌then◌else◌}
use Rattle.macho_bytes.specs.Numbers.{le_at, le_bytes, row_bytes}
use Rattle.macho_bytes.specs.Layouts.{reading}
use Rattle.macho_bytes.proofs.Numbers.{drop-stands}
use Rattle.macho_records.specs.declared.constants.TheConstants.{MH_DYLDLINK, MH_HAS_TLV_DESCRIPTORS, MH_NOUNDEFS, MH_PIE, MH_TWOLEVEL}
use Rattle.macho_records.specs.declared.segments.TheConstants.SegmentName as name
use Rattle.macho_model.specs.declared.placed.Counts.{Counts}
use Rattle.macho_model.specs.declared.placed.PlacedSegment.{PlacedSegment}
use Rattle.macho_model.specs.Commands.{header_of, commands_from, commands_of, commands_end}
use Rattle.macho_model.specs.Links.{Link}
use Rattle.macho_model.specs.Images.{segments_of, base_of, libraries_of, tables_of, entries_of_file}
use Rattle.macho_model.specs.Placement.{Placed, head_size}
use Rattle.macho_model.specs.Agreement.{SegmentsAgree, section_headers_at, section_headers_of}
use Rattle.macho_model.specs.Head.{HeadSays, commands_for, head_for}
use Rattle.macho_model_checks.proofs.Examples.{words8, words, name16}
use Rattle.macho_model_checks.proofs.ExampleImages.{smallest}
use Rattle.macho_model_checks.proofs.ExamplePlacement.{counts_a, placed_a, placed_with, pagezero_to, text_from, header_a, section_a, nothing, no_tables}
use Rattle.macho_model_checks.proofs.LoaderTests.{load_verdict, load_all_pass}
use Rattle.macho_bytes.specs.Spellings.{spelling}
use Rattle.macho_model.specs.steps.Agreement.{SegmentPlace, place_by_command}
use Rattle.macho_model.specs.HeadCommands.{flags_for, describes_thread_locals}

-- The smallest image: four commands of 280 bytes, two segments, one section header.
pub smallest_agrees : SegmentsAgree smallest placed_a
    × (commands_end smallest + counts_a.padding ≡ head_size counts_a placed_a) × (section_headers_of smallest ≡ placed_a.output_sections)
    × (entries_of_file smallest ≡ 0x138 ∷ []) × (base_of smallest ≡ 0x100000000)
unfolding segments_of base_of entries_of_file section_headers_of section_headers_at commands_end commands_of commands_from header_of
    reading le_at row_bytes le_bytes words8 words name16 smallest
smallest_agrees = (refl, refl, refl, refl, refl)

-- a segment's command without sections, `__TEXT` with one, the entry point, and the dynamic linker
unfoldable pub plain_segment : List ℕ → List ℕ → ℕ → List ℕ
plain_segment name places protection = words (0x19 ∷ 72 ∷ []) ++ name16 name ++ words8 places
    ++ words (protection ∷ protection ∷ 0 ∷ 0 ∷ [])

unfoldable pub no_page : List ℕ
no_page = plain_segment (codes "__PAGEZERO") (0 ∷ 0x100000000 ∷ 0 ∷ 0 ∷ []) 0

unfoldable pub text_with_section : List ℕ → ℕ → ℕ → List ℕ
text_with_section places address offset =
    words (0x19 ∷ 152 ∷ []) ++ name16 (codes "__TEXT") ++ words8 places ++ words (5 ∷ 5 ∷ 1 ∷ 0 ∷ [])
    ++ name16 (codes "__text") ++ name16 (codes "__TEXT") ++ words8 (address ∷ 8 ∷ [])
    ++ words (offset ∷ 2 ∷ 0 ∷ 0 ∷ 0x80000400 ∷ 0 ∷ 0 ∷ 0 ∷ [])

unfoldable pub begins_at : ℕ → List ℕ
begins_at offset = words (0x80000028 ∷ 24 ∷ []) ++ words8 (offset ∷ 0 ∷ []) ++ words (0xe ∷ 32 ∷ 12 ∷ []) ++ codes "/usr/lib/dyld"
    ++ replicate 7 0

abbrev pub some_code : List ℕ
some_code = words (0x52800000 ∷ 0xd65f03c0 ∷ [])

unfoldable pub head_of : ℕ → ℕ → List ℕ
head_of count size = words (0xfeedfacf ∷ 0x0100000c ∷ 0 ∷ 2 ∷ count ∷ size ∷ 0x200085 ∷ 0 ∷ [])

-- another list of segments
differ : (xs ys : List SegmentPlace) (k : ℕ) (d : SegmentPlace) → xs ≡ ys → (get_or xs k d).2 ≡ (get_or ys k d).2
differ xs ys k d same = ap (λ (zs : List SegmentPlace). (get_or zs k d).2) same

no_place : SegmentPlace
no_place = ([], 0, 0, 0, 0)

-- 1. The entry is in unmapped memory: `__X` takes the addresses where the placement tells `__TEXT`, which stands behind it. A loader
-- counts the entry from the file's own `__TEXT`.
unfoldable pub entry_elsewhere : List ℕ
entry_elsewhere =
    head_of 5 352 ++ no_page ++ plain_segment (codes "__X") (0x100000000 ∷ 0x4000 ∷ 0 ∷ 0 ∷ []) 3
    ++ text_with_section (0x100004000 ∷ 0x4000 ∷ 0 ∷ 0x4000 ∷ []) 0x100004180 0x180 ++ begins_at 0x180 ++ some_code ++ replicate 15992 0

abbrev pub told_elsewhere : Placed
told_elsewhere = placed_with 0x100000000 0x100000000 0x100004180 0x8000 None

elsewhere_facts : (load_verdict entry_elsewhere ≡ load_all_pass) × (base_of entry_elsewhere ≡ 0x100004000)
    × (length (map place_by_command (segments_of entry_elsewhere)) ≡ 3)
unfolding load_verdict commands_end tables_of base_of segments_of libraries_of commands_of commands_from header_of reading le_at row_bytes
    le_bytes words8 words name16 plain_segment no_page text_with_section begins_at head_of entry_elsewhere
elsewhere_facts = (refl, refl, refl)

pub entry_elsewhere_is_refused : SegmentsAgree entry_elsewhere told_elsewhere → ⊥
entry_elsewhere_is_refused agree =
    let few : 3 ≡ 2 = sym elsewhere_facts.2 ∙ ap (λ (zs : List SegmentPlace). length zs) agree in
    absurd (omega (arith, few))

-- 2. A bare file: no `__PAGEZERO`, no dynamic linker, no header flags, no section headers. No link and no placement ask for its header.
unfoldable pub bare : List ℕ
bare =
    words (0xfeedfacf ∷ 0x0100000c ∷ 0 ∷ 2 ∷ 2 ∷ 96 ∷ 0 ∷ 0 ∷ [])
    ++ plain_segment (codes "__TEXT") (0x100000000 ∷ 0x4000 ∷ 0 ∷ 0x4000 ∷ []) 5 ++ words (0x80000028 ∷ 24 ∷ []) ++ words8 (0x80 ∷ 0 ∷ [])
    ++ some_code ++ replicate 16248 0

bare_facts : (load_verdict bare ≡ load_all_pass) × (get_or bare 24 0 ≡ 0)
unfolding load_verdict commands_end tables_of base_of segments_of libraries_of commands_of commands_from header_of reading le_at row_bytes
    le_bytes words8 words name16 plain_segment bare
bare_facts = (refl, refl)

-- the lowest byte of the header's flags
flags_low : (executable locals : Bool)
    → (MH_NOUNDEFS + MH_DYLDLINK + MH_TWOLEVEL + (if executable then MH_PIE else 0) + (if locals then MH_HAS_TLV_DESCRIPTORS else 0)) % 256
    ≡ 0x85
flags_low true true = refl
flags_low true false = refl
flags_low false true = refl
flags_low false false = refl

flags_spelled : (l : Link) (counts : Counts) (uuid : List ℕ) (p : Placed) (trie : ℕ) (rest : List ℕ)
    → get_or (head_for l p (commands_for l counts p uuid trie) ++ rest) 24 0 ≡ flags_for l p % 256
unfolding head_for spelling row_bytes le_bytes
flags_spelled l counts uuid p trie rest = refl

pub flags_byte : (l : Link) (counts : Counts) (uuid b : List ℕ) (p : Placed) → HeadSays l counts uuid b p → get_or b 24 0 ≡ 0x85
flags_byte l counts uuid b p says =
    let text : List ℕ = head_for l p (commands_for l counts p uuid says.trie) in
    ap (λ (bytes : List ℕ). get_or bytes 24 0) (drop-stands b (record { at = 0; text = text }) says.text)
    ∙ flags_spelled l counts uuid p says.trie _ ∙ flags_low l.executable (describes_thread_locals p)

pub bare_is_refused : (l : Link) (counts : Counts) (uuid : List ℕ) (p : Placed) → HeadSays l counts uuid bare p → ⊥
bare_is_refused l counts uuid p says =
    let flags = sym bare_facts.1 ∙ flags_byte l counts uuid bare p says in
    absurd (omega (arith, flags))

-- 3. One page twice: the first page of the file is mapped as `__TEXT` and again as `__DATA`, where the placement tells another page.
unfoldable pub one_page_twice : List ℕ
one_page_twice =
    head_of 5 352 ++ no_page ++ text_with_section (0x100000000 ∷ 0x4000 ∷ 0 ∷ 0x4000 ∷ []) 0x100000180 0x180
    ++ plain_segment (codes "__DATA") (0x100004000 ∷ 0x4000 ∷ 0 ∷ 0x4000 ∷ []) 3 ++ begins_at 0x180 ++ some_code ++ replicate 15992 0

abbrev pub data_told : PlacedSegment
data_told = record { name = name.DATA; address = 0x100004000; size = 0x4000; file_offset = 0x4000; file_size = 0x4000 }

abbrev pub with_data : Placed
with_data = record {
  base = 0x100000000;
  segments = pagezero_to 0x100000000 ∷ text_from 0x100000000 0x4000 ∷ data_told ∷ [];
  sections = section_a 0x100000180 ∷ [];
  commons = [];
  slots = [];
  stubs = [];
  output_sections = header_a ∷ [];
  init_offsets = nothing;
  unwind = nothing;
  template = None;
  linkedit = no_tables;
}

twice_facts : (load_verdict one_page_twice ≡ load_all_pass) × ((get_or (map place_by_command (segments_of one_page_twice)) 2
    no_place).3 ≡ 0)
unfolding load_verdict commands_end tables_of base_of segments_of libraries_of commands_of commands_from header_of reading le_at row_bytes
    le_bytes words8 words name16 plain_segment no_page text_with_section begins_at head_of one_page_twice no_place
twice_facts = (refl, refl)

pub one_page_twice_is_refused : SegmentsAgree one_page_twice with_data → ⊥
one_page_twice_is_refused agree =
    let offset : 0 ≡ 0x4000 = sym twice_facts.1 ∙ ap (λ (zs : List SegmentPlace). (get_or zs 2 no_place).3) agree in
    absurd (omega (arith, offset))

-- 4. Data in text: the file has no `__DATA`, and a `__TEXT` that goes on over what the placement tells as data; so data can be run and
-- not be written to.
unfoldable pub data_in_text : List ℕ
data_in_text =
    head_of 4 280 ++ no_page ++ text_with_section (0x100000000 ∷ 0x8000 ∷ 0 ∷ 0x8000 ∷ []) 0x100000138 0x138 ++ begins_at 0x138
    ++ some_code ++ replicate 32448 0

in_text_facts : (load_verdict data_in_text ≡ load_all_pass) × (length (map place_by_command (segments_of data_in_text)) ≡ 2)
unfolding load_verdict commands_end tables_of base_of segments_of libraries_of commands_of commands_from header_of reading le_at row_bytes
    le_bytes words8 words name16 plain_segment no_page text_with_section begins_at head_of data_in_text
in_text_facts = (refl, refl)

pub data_in_text_is_refused : SegmentsAgree data_in_text with_data → ⊥
data_in_text_is_refused agree =
    let few : 2 ≡ 3 = sym in_text_facts.1 ∙ ap (λ (zs : List SegmentPlace). length zs) agree in
    absurd (omega (arith, few))
