-- Sections: what the flags and names of a section header say (mach-o/loader.h).
use Rattle.std.specs.Prelude.{ℕ, ◌+◌, ◌-◌, ◌%◌, ◌==◌, Bool, false, not, ◌&&◌, ◌||◌, List, [], ◌∷◌, codes, bytes_eq, bit_or, Option, Some, None}
use Rattle.std.specs.List.{list_any}
use Rattle.macho_bytes.specs.Texts.{name_of}
use Rattle.macho_records.specs.declared.constants.TheConstants.{S_ZEROFILL, S_GB_ZEROFILL, S_NON_LAZY_SYMBOL_POINTERS, S_LAZY_SYMBOL_POINTERS, S_SYMBOL_STUBS, S_LAZY_DYLIB_SYMBOL_POINTERS, S_THREAD_LOCAL_REGULAR, S_THREAD_LOCAL_ZEROFILL, S_THREAD_LOCAL_VARIABLE_POINTERS, S_ATTR_PURE_INSTRUCTIONS, S_ATTR_SOME_INSTRUCTIONS, S_ATTR_DEBUG}
use Rattle.macho_records.specs.declared.header.SectionHeader.{SectionHeader}
use Rattle.macho_records.specs.declared.sections.SectionAttributes.{SectionAttributes}
use Rattle.macho_records.specs.declared.segments.SegmentName.{SegmentName}
use Rattle.macho_records.specs.Flags.{has_any}
use Rattle.macho_records.specs.Segments.{is_writable_segment, text_of}

-- the attributes of a section: its flags without the type
abbrev pub attributes_in : ℕ → ℕ
attributes_in word = word - word % 256

-- zeros that have no bytes in the file
abbrev pub is_zerofill_type : ℕ → Bool
is_zerofill_type t = t == S_ZEROFILL || t == S_GB_ZEROFILL || t == S_THREAD_LOCAL_ZEROFILL

-- the first values of thread-local variables
abbrev pub is_template_type : ℕ → Bool
is_template_type t = t == S_THREAD_LOCAL_REGULAR || t == S_THREAD_LOCAL_ZEROFILL

-- instructions
abbrev pub has_instructions : ℕ → Bool
has_instructions word = has_any (S_ATTR_PURE_INSTRUCTIONS + S_ATTR_SOME_INSTRUCTIONS) word

-- the name of a section
abbrev pub section_name_of : SectionHeader → List ℕ
section_name_of s = name_of s.sectname

-- the name of a section's segment
abbrev pub segment_name_of : SectionHeader → List ℕ
segment_name_of s = name_of s.segname

-- the type of a section: the low byte of its flags
abbrev pub type_of : SectionHeader → ℕ
type_of s = s.flags % 256

abbrev pub is_zerofill : SectionHeader → Bool
is_zerofill s = is_zerofill_type (type_of s)

abbrev pub is_writable_of : SectionHeader → Bool
is_writable_of s = is_writable_segment (segment_name_of s)

-- A section of an object that is left out: debug information other than compact unwind entries; a section in `__PAGEZERO` or `__LINKEDIT`,
-- which the linker makes, or in `__LLVM` (bitcode); pointers and stubs that the linker makes itself, through the table of indirect symbols.
abbrev pub should_exclude_of : SectionHeader → Bool
should_exclude_of s =
    (has_any S_ATTR_DEBUG s.flags && not (bytes_eq (section_name_of s) (codes "__compact_unwind")))
    || list_any (bytes_eq (segment_name_of s)) (codes "__PAGEZERO" ∷ codes "__LINKEDIT" ∷ codes "__LLVM" ∷ [])
    || list_any (λ t. type_of s == t) (S_NON_LAZY_SYMBOL_POINTERS ∷ S_LAZY_SYMBOL_POINTERS ∷ S_SYMBOL_STUBS
    ∷ S_LAZY_DYLIB_SYMBOL_POINTERS ∷ S_THREAD_LOCAL_VARIABLE_POINTERS ∷ [])

-- a section in no segment isn't writable
abbrev pub is_writable_in : Option SegmentName → Bool
is_writable_in None = false
is_writable_in (Some n) = is_writable_segment (text_of n)

-- the attributes of a section with these flags
abbrev pub attributes_of : ℕ → Option SegmentName → SectionAttributes
attributes_of word segment = record { ty = word % 256; attributes = attributes_in word; writable = is_writable_in segment }

-- the attributes of both, under the type of the first
abbrev pub merged : SectionAttributes → SectionAttributes → SectionAttributes
merged a b = record a { attributes = bit_or a.attributes b.attributes; writable = a.writable || b.writable }

-- the attributes, with the type in the low byte
abbrev pub flags_of : SectionAttributes → ℕ
flags_of a = bit_or a.attributes a.ty
