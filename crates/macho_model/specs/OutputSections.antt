-- The output sections of an image: which there are, in which order they stand, and the header of each
-- (`struct section_64` of `mach-o/loader.h`).
use Rattle.std.specs.Prelude.{ℕ, ◌+◌, ◌-◌, ◌%◌, ◌^◌, ◌==◌, nat_lt, ◌&&◌, not, if◌then◌else◌, Bool, true, false, List, [], ◌∷◌, ◌++◌, length, map, filter, min, codes, bit_and, bit_or, fold}
use Rattle.std.specs.List.{flat_map}
use Rattle.std.specs.Str.{bytes_eq}
use Rattle.macho_records.specs.declared.header.SectionHeader.{SectionHeader}
use Rattle.macho_records.specs.declared.constants.TheConstants.{S_ATTR_EXT_RELOC, S_ATTR_LOC_RELOC, S_ATTR_PURE_INSTRUCTIONS, S_ATTR_SOME_INSTRUCTIONS, S_INIT_FUNC_OFFSETS, S_NON_LAZY_SYMBOL_POINTERS, S_SYMBOL_STUBS, S_THREAD_LOCAL_REGULAR, S_THREAD_LOCAL_ZEROFILL}
use Rattle.macho_records.specs.Sections.{has_instructions, is_zerofill_type}
use Rattle.macho_records.specs.Segments.{name_field}
use Rattle.macho_model.specs.declared.placed.Counts.{Counts}
use Rattle.macho_model.specs.Links.{Link, header_at, carried_of, greatest}
use Rattle.macho_model.specs.Targets.{slots_of, stubs_of}
use Rattle.macho_model.specs.Segments.{TEXT, DATA_CONST, DATA, OutputKey, same_key, key_of, common_key, output_keys_of, segment_names_of, list_if}
use Rattle.macho_model.specs.WrittenSum.{STUB_SIZE}
use Rattle.macho_model.specs.Placement.{Placed, Piece, end_of_piece, id_of, section_piece, common_piece, slot_piece, stub_piece, range_piece, is_segment_named}
use Rattle.macho_model.specs.Lists.{of_first}

-- An output section: its segment, name and type; whether it is merged from what the objects have (sections or commons), else the linker
-- makes it; its flags; the size of a stub in it, 0 where it has none; and the pieces that it has in a placement.
pub record OutputSection : Type 0 where
  pub key : OutputKey
  pub is_merged : Bool
  pub flags : ℕ
  pub stub_size : ℕ
  pub pieces : Placed → List Piece

-- all flags but those that tell of relocations in an object
abbrev pub KEPT_FLAGS : ℕ
KEPT_FLAGS = 2 ^ 32 - 1 - S_ATTR_EXT_RELOC - S_ATTR_LOC_RELOC

-- the joined flags of what is merged
abbrev pub flags_of_key : Link → OutputKey → ℕ
flags_of_key l key =
    bit_and (fold bit_or key.type
    (map (λ s. (header_at l s).flags) (filter (λ s. same_key (key_of (header_at l s)) key) (carried_of l)))) KEPT_FLAGS

-- what an output section is: zeros without file bytes, or data; and whether merged data has instructions in it
abbrev pub is_zeros : OutputKey → Bool
is_zeros key = is_zerofill_type key.type

abbrev pub is_code : Link → OutputKey → Bool
is_code l key = not (is_zeros key) && has_instructions (flags_of_key l key)

-- what is merged under a key: the carried sections that have it, as the placement lists them; behind those of `__common` the chosen commons
abbrev pub merged : Link → OutputKey → OutputSection
merged l key =
    let pieces : Placed → List Piece = λ p. map (section_piece l) (filter (λ q. same_key (key_of (header_at l (id_of q))) key) p.sections)
    ++ list_if (same_key common_key key) (map (common_piece l) p.commons) in
    record { key = key; is_merged = true; flags = flags_of_key l key; stub_size = 0; pieces = pieces }

-- a section that the linker makes where something is in it: its segment, its name, its flags (the low byte is the type), the size of a
-- stub, its pieces
abbrev pub made : Bool → List ℕ → List ℕ → ℕ → ℕ → (Placed → List Piece) → List OutputSection
made some segment name flags stub_size pieces =
    let key : OutputKey = record { segment = segment; name = name; type = flags % 256 } in
    list_if some (record { key = key; is_merged = false; flags = flags; stub_size = stub_size; pieces = pieces } ∷ [])

-- the merged sections of a segment that pass a test, as first seen
abbrev pub merged_in : Link → List ℕ → (OutputKey → Bool) → List OutputSection
merged_in l segment test = map (merged l) (filter (λ key. bytes_eq key.segment segment && test key) (output_keys_of l))

-- The output sections of `__TEXT`: code, then what the linker makes, then other data, then zeros. Offsets of initializers and unwind
-- information stand at multiples of 4.
abbrev pub sections_of_text : Link → Counts → List OutputSection
sections_of_text l counts =
    merged_in l TEXT (is_code l)
    ++ made (nat_lt 0 counts.initializers) TEXT (codes "__init_offsets") S_INIT_FUNC_OFFSETS 0 (λ p. range_piece 2 p.init_offsets ∷ [])
    ++ made (nat_lt 0 counts.unwind) TEXT (codes "__unwind_info") 0 0 (λ p. range_piece 2 p.unwind ∷ [])
    ++ made (not (length (stubs_of l) == 0)) TEXT (codes "__stubs") (S_SYMBOL_STUBS + S_ATTR_PURE_INSTRUCTIONS + S_ATTR_SOME_INSTRUCTIONS)
    STUB_SIZE (λ p. map stub_piece p.stubs)
    ++ merged_in l TEXT (λ key. not (is_zeros key) && not (is_code l key)) ++ merged_in l TEXT is_zeros

-- Of `__DATA`: data; the initial values of thread-local variables, first those with bytes; commons; other zeros.
abbrev pub sections_of_data : Link → List OutputSection
sections_of_data l =
    merged_in l DATA (λ key. not (is_zeros key) && not (key.type == S_THREAD_LOCAL_REGULAR))
    ++ merged_in l DATA (λ key. key.type == S_THREAD_LOCAL_REGULAR)
    ++ merged_in l DATA (λ key. key.type == S_THREAD_LOCAL_ZEROFILL) ++ merged_in l DATA (same_key common_key)
    ++ merged_in l DATA (λ key. is_zeros key && not (key.type == S_THREAD_LOCAL_ZEROFILL) && not (same_key common_key key))

-- Of any other segment: data, then zeros; in `__DATA_CONST` behind the slots.
abbrev pub sections_of_other : Link → List ℕ → List OutputSection
sections_of_other l segment =
    made (bytes_eq segment DATA_CONST && not (length (slots_of l) == 0)) DATA_CONST (codes "__got") S_NON_LAZY_SYMBOL_POINTERS 0
    (λ p. map slot_piece p.slots)
    ++ merged_in l segment (λ key. not (is_zeros key)) ++ merged_in l segment is_zeros

-- the output sections of a segment, and of the image, in the order in which they stand
abbrev pub output_sections_in : Link → Counts → List ℕ → List OutputSection
output_sections_in l counts segment =
    if bytes_eq segment TEXT then sections_of_text l counts
    else if bytes_eq segment DATA then sections_of_data l else sections_of_other l segment

unfoldable pub output_sections_of : Link → Counts → List OutputSection
output_sections_of l counts = flat_map (output_sections_in l counts) (segment_names_of l)

-- the least of some numbers, 0 of none
abbrev pub least : List ℕ → ℕ
least [] = 0
least (n ∷ ns) = fold min n ns

-- The piece around pieces: from the least address to the greatest end, with the greatest alignment.
abbrev pub around : List Piece → Piece
around cs = record {
  start = least (map (λ c. c.start) cs);
  size = greatest (map end_of_piece cs) - least (map (λ c. c.start) cs);
  exponent = greatest (map (λ c. c.exponent) cs);
}

abbrev pub extent_of : Placed → OutputSection → Piece
extent_of p o = around (o.pieces p)

-- the header of an output section
abbrev pub output_header : Placed → OutputSection → SectionHeader
output_header p o = record {
  sectname = name_field o.key.name;
  segname = name_field o.key.segment;
  addr = (extent_of p o).start;
  size = (extent_of p o).size;
  -- 0 for zeros, which have no bytes in the file; the low 32 bits, since a placement that a refusal keeps may have more
  offset = (if is_zeros o.key then 0
      else of_first 0 (λ s. s.file_offset + ((extent_of p o).start - s.address))
      (filter (is_segment_named o.key.segment) p.segments)) % 2 ^ 32;
  align = (extent_of p o).exponent;
  reloff = 0;
  nreloc = 0;
  flags = o.flags;
  reserved1 = 0;
  reserved2 = o.stub_size;
  reserved3 = 0;
}

-- THE section headers of an image, in the order in which the sections stand
unfoldable pub output_sections_for : Link → Counts → Placed → List SectionHeader
output_sections_for l counts p = map (output_header p) (output_sections_of l counts)
