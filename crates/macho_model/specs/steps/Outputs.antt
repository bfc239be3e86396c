-- The output sections of an image by constructors: those that are merged, and each that the linker makes.
use Rattle.std.specs.Prelude.{ℕ, ◌+◌, ◌-◌, ◌%◌, ◌^◌, ◌==◌, nat_lt, ◌&&◌, not, if◌then◌else◌, Bool, false, List, [], ◌∷◌, ◌++◌, length, map, filter, codes}
use Rattle.std.specs.List.{flat_map}
use Rattle.std.specs.Str.{bytes_eq}
use Rattle.macho_records.specs.declared.header.SectionHeader.{SectionHeader}
use Rattle.macho_records.specs.declared.constants.TheConstants.{S_ATTR_PURE_INSTRUCTIONS, S_ATTR_SOME_INSTRUCTIONS, S_INIT_FUNC_OFFSETS, S_NON_LAZY_SYMBOL_POINTERS, S_SYMBOL_STUBS, S_THREAD_LOCAL_REGULAR, S_THREAD_LOCAL_ZEROFILL}
use Rattle.macho_records.specs.Segments.{name_field}
use Rattle.macho_records.specs.Symbols.{common_exponent_of}
use Rattle.macho_model.specs.declared.placed.Counts.{Counts}
use Rattle.macho_model.specs.declared.placed.PlacedSection.{PlacedSection}
use Rattle.macho_model.specs.Lists.{of_first}
use Rattle.macho_model.specs.Links.{Link, SectionId, header_at, carried_of, placed_exponent}
use Rattle.macho_model.specs.Resolution.{entry_at}
use Rattle.macho_model.specs.Targets.{slots_of, stubs_of}
use Rattle.macho_model.specs.Segments.{TEXT, DATA_CONST, DATA, OutputKey, same_key, key_of, common_key, output_keys_of, segment_names_of, list_if}
use Rattle.macho_model.specs.WrittenSum.{STUB_SIZE}
use Rattle.macho_model.specs.Placement.{Placed, Piece, id_of, common_of, is_segment_named}
use Rattle.macho_model.specs.Spans.{piece, section_span, common_span, slot_span, stub_span, range_span}
use Rattle.macho_model.specs.OutputSections.{is_zeros, is_code, flags_of_key, around}

-- An output section: sections of the objects that are merged, or one that the linker makes.
pub data OutputSection : Type 0 where
  Merged : (key : OutputKey) → OutputSection
  InitOffsets : OutputSection
  UnwindInfo : OutputSection
  Stubs : OutputSection
  Slots : OutputSection

-- the carried sections that are merged under a key, by file, then section
abbrev pub members_of : Link → OutputKey → List SectionId
members_of l key = filter (λ s. same_key (key_of (header_at l s)) key) (carried_of l)

-- the merged sections of a segment that pass a test, as first seen
abbrev pub merged_in : Link → List ℕ → (OutputKey → Bool) → List OutputSection
merged_in l segment test = map Merged (filter (λ key. bytes_eq key.segment segment && test key) (output_keys_of l))

-- The output sections of `__TEXT`: code, then what the linker makes, then other data, then zeros.
abbrev pub sections_of_text : Link → Counts → List OutputSection
sections_of_text l counts =
    merged_in l TEXT (is_code l) ++ list_if (nat_lt 0 counts.initializers) (InitOffsets ∷ [])
    ++ list_if (nat_lt 0 counts.unwind) (UnwindInfo ∷ [])
    ++ list_if (not (length (stubs_of l) == 0)) (Stubs ∷ []) ++ merged_in l TEXT (λ key. not (is_zeros key) && not (is_code l key))
    ++ merged_in l TEXT is_zeros

-- Of `__DATA`: data; the initial values of thread-local variables, first those with bytes; commons; other zeros.
abbrev pub sections_of_data : Link → List OutputSection
sections_of_data l =
    merged_in l DATA (λ key. not (is_zeros key) && not (key.type == S_THREAD_LOCAL_REGULAR))
    ++ merged_in l DATA (λ key. key.type == S_THREAD_LOCAL_REGULAR)
    ++ merged_in l DATA (λ key. key.type == S_THREAD_LOCAL_ZEROFILL) ++ merged_in l DATA (same_key common_key)
    ++ merged_in l DATA (λ key. is_zeros key && not (key.type == S_THREAD_LOCAL_ZEROFILL) && not (same_key common_key key))

-- Of any other segment: data, then zeros; in `__DATA_CONST` behind the slots.
abbrev pub sections_of_other : Link → List ℕ → List OutputSection
sections_of_other l segment =
    list_if (bytes_eq segment DATA_CONST && not (length (slots_of l) == 0)) (Slots ∷ []) ++ merged_in l segment (λ key. not (is_zeros key))
    ++ merged_in l segment is_zeros

-- the output sections of a segment, and of the image, in the order in which they stand
abbrev pub output_sections_in : Link → Counts → List ℕ → List OutputSection
output_sections_in l counts segment =
    if bytes_eq segment TEXT then sections_of_text l counts else if bytes_eq segment DATA then sections_of_data l
    else sections_of_other l segment

unfoldable pub output_sections_of : Link → Counts → List OutputSection
output_sections_of l counts = flat_map (output_sections_in l counts) (segment_names_of l)

-- the alignments of what the linker makes: pointers of 8 bytes, instructions and offsets of 4
abbrev pub POINTER_EXPONENT : ℕ
POINTER_EXPONENT = 3

abbrev pub WORD_EXPONENT : ℕ
WORD_EXPONENT = 2

-- the placed sections that are merged under a key, as the placement lists them
abbrev pub placed_members : Link → Placed → OutputKey → List PlacedSection
placed_members l p key = filter (λ q. same_key (key_of (header_at l (id_of q))) key) p.sections

-- The pieces that an output section is made of; behind the sections of `__common` stand the chosen commons.
unfoldable pub pieces_of : Link → Placed → OutputSection → List Piece
pieces_of l p (Merged key) =
    map (λ q. piece (placed_exponent l (id_of q)) (section_span l q)) (placed_members l p key)
    ++ list_if (same_key common_key key) (map (λ c. piece (common_exponent_of (entry_at l (common_of l c.id))) (common_span l c)) p.commons)
pieces_of l p InitOffsets = piece WORD_EXPONENT (range_span p.init_offsets) ∷ []
pieces_of l p UnwindInfo = piece WORD_EXPONENT (range_span p.unwind) ∷ []
pieces_of l p Stubs = map (λ s. piece WORD_EXPONENT (stub_span s)) p.stubs
pieces_of l p Slots = map (λ s. piece POINTER_EXPONENT (slot_span s)) p.slots

abbrev pub extent_of : Link → Placed → OutputSection → Piece
extent_of l p o = around (pieces_of l p o)

-- the segment, the name and the type of an output section
abbrev pub key_of_output : OutputSection → OutputKey
key_of_output (Merged key) = key
key_of_output InitOffsets = record { segment = TEXT; name = codes "__init_offsets"; type = S_INIT_FUNC_OFFSETS }
key_of_output UnwindInfo = record { segment = TEXT; name = codes "__unwind_info"; type = 0 }
key_of_output Stubs = record { segment = TEXT; name = codes "__stubs"; type = S_SYMBOL_STUBS }
key_of_output Slots = record { segment = DATA_CONST; name = codes "__got"; type = S_NON_LAZY_SYMBOL_POINTERS }

abbrev pub flags_of_output : Link → OutputSection → ℕ
flags_of_output l (Merged key) = flags_of_key l key
flags_of_output l Stubs = S_SYMBOL_STUBS + S_ATTR_PURE_INSTRUCTIONS + S_ATTR_SOME_INSTRUCTIONS
flags_of_output l o = (key_of_output o).type

-- `reserved2` of stubs is the size of one
abbrev pub stub_size_of : OutputSection → ℕ
stub_size_of Stubs = STUB_SIZE
stub_size_of o = 0

-- the file offset of an address of a segment; 0 of zeros, which have no bytes in the file, and where there is no such segment
abbrev pub file_offset_of : Placed → OutputKey → ℕ → ℕ
file_offset_of p key address =
    if is_zeros key then 0
    else of_first 0 (λ s. s.file_offset + (address - s.address)) (filter (is_segment_named key.segment) p.segments)

-- the header of an output section
abbrev pub output_header : Link → Placed → OutputSection → SectionHeader
output_header l p o = record {
  sectname = name_field (key_of_output o).name;
  segname = name_field (key_of_output o).segment;
  addr = (extent_of l p o).start;
  size = (extent_of l p o).size;
  -- of 32 bits, which are passed only in a placement that is kept because of that
  offset = file_offset_of p (key_of_output o) (extent_of l p o).start % 2 ^ 32;
  align = (extent_of l p o).exponent;
  reloff = 0;
  nreloc = 0;
  flags = flags_of_output l o;
  reserved1 = 0;
  reserved2 = stub_size_of o;
  reserved3 = 0;
}

-- an output section is the one that sections of a key are merged into
abbrev pub is_merged : OutputKey → OutputSection → Bool
is_merged key (Merged other) = same_key key other
is_merged key made = false

-- the section headers of an image, in the order in which the sections stand
unfoldable pub output_sections_for : Link → Counts → Placed → List SectionHeader
output_sections_for l counts p = map (output_header l p) (output_sections_of l counts)
