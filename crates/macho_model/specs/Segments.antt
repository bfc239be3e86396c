-- The segments that a link has, and the output sections: which there are, and in which order segments stand.
use Rattle.std.specs.Prelude.{ℕ, ◌+◌, ◌==◌, nat_lt, ◌&&◌, ◌||◌, not, if◌then◌else◌, Bool, List, [], ◌∷◌, ◌++◌, length, map, filter, codes}
use Rattle.std.specs.List.{list_any, position_or_len}
use Rattle.std.specs.Str.{bytes_eq}
use Rattle.macho_records.specs.declared.header.SectionHeader.{SectionHeader}
use Rattle.macho_model.specs.declared.placed.Counts.{Counts}
use Rattle.macho_records.specs.Sections.{section_name_of, segment_name_of, type_of}
use Rattle.macho_records.specs.Segments.{segment_flags_of}
use Rattle.macho_records.specs.declared.constants.TheConstants.{S_ZEROFILL, VM_PROT_READ, VM_PROT_WRITE, VM_PROT_EXECUTE}
use Rattle.macho_model.specs.Links.{Link, header_at, carried_of}
use Rattle.macho_model.specs.Resolution.{chosen_commons}
use Rattle.macho_model.specs.Needs.{distinct}
use Rattle.macho_model.specs.Targets.{slots_of, stubs_of}

-- the names of segments that the linker knows
abbrev pub PAGEZERO : List ℕ
PAGEZERO = codes "__PAGEZERO"

abbrev pub TEXT : List ℕ
TEXT = codes "__TEXT"

abbrev pub DATA_CONST : List ℕ
DATA_CONST = codes "__DATA_CONST"

abbrev pub DATA : List ℕ
DATA = codes "__DATA"

abbrev pub LINKEDIT : List ℕ
LINKEDIT = codes "__LINKEDIT"

-- the segments that the loader writes pointers in
abbrev pub may_hold_pointers : List ℕ → Bool
may_hold_pointers name = bytes_eq name DATA || bytes_eq name DATA_CONST

-- segments are mapped by pages of 16 KiB, chains go by the same pages, and an executable's first 4 GiB are kept free
abbrev pub SEGMENT_PAGE : ℕ
SEGMENT_PAGE = 0x4000

abbrev pub PAGEZERO_SIZE : ℕ
PAGEZERO_SIZE = 0x100000000

-- the address of the image's first byte
abbrev pub base_of_link : Link → ℕ
base_of_link l = if l.executable then PAGEZERO_SIZE else 0

-- a segment with a place of its own in the order
abbrev pub is_known_segment : List ℕ → Bool
is_known_segment name =
    bytes_eq name PAGEZERO || bytes_eq name TEXT || bytes_eq name DATA_CONST || bytes_eq name DATA || bytes_eq name LINKEDIT

-- the other segments, in the order in which the carried sections name them first
unfoldable pub other_segments : Link → List (List ℕ)
other_segments l =
    filter (λ name. not (is_known_segment name)) (distinct bytes_eq (map (λ s. segment_name_of (header_at l s)) (carried_of l)))

-- The rank of a segment: `__PAGEZERO`, `__TEXT`, `__DATA_CONST`, `__DATA`, the others as first seen. `__LINKEDIT` is behind all of them.
unfoldable pub segment_rank : Link → List ℕ → ℕ
segment_rank l name = position_or_len (bytes_eq name) (PAGEZERO ∷ TEXT ∷ DATA_CONST ∷ DATA ∷ other_segments l)

abbrev pub has_section_in : Link → List ℕ → Bool
has_section_in l name = list_any (λ s. bytes_eq (segment_name_of (header_at l s)) name) (carried_of l)

-- a list where a test holds, else nothing
abbrev pub list_if : {X : Type 0} → Bool → List X → List X
list_if b xs = if b then xs else []

-- The segments of the image, in order: `__TEXT` and `__LINKEDIT` always, the others where they have a part.
unfoldable pub segment_names_of : Link → List (List ℕ)
segment_names_of l =
    list_if l.executable (PAGEZERO ∷ []) ++ TEXT ∷ []
    ++ list_if (has_section_in l DATA_CONST || not (length (slots_of l) == 0)) (DATA_CONST ∷ [])
    ++ list_if (has_section_in l DATA || not (length (chosen_commons l) == 0)) (DATA ∷ [])
    ++ other_segments l ++ LINKEDIT ∷ []

-- A segment as its command tells it: its name, what the program may do in it (`VM_PROT_..`), and its flags (`SG_..`).
pub record SegmentFor : Type 0 where
  pub name : List ℕ
  pub protection : ℕ
  pub flags : ℕ

-- what a segment of a name may be accessed for (`mach/vm_prot.h`)
abbrev pub loaded_protection_of : List ℕ → ℕ
loaded_protection_of name =
    if bytes_eq name PAGEZERO then 0
    else if bytes_eq name TEXT then VM_PROT_READ + VM_PROT_EXECUTE
    else if bytes_eq name LINKEDIT then VM_PROT_READ else VM_PROT_READ + VM_PROT_WRITE

-- The segments of the image, in order; `__DATA_CONST` is read only once the loader is done (`SG_READ_ONLY`).
unfoldable pub segments_for : Link → List SegmentFor
segments_for l =
    map (λ name. record { name = name; protection = loaded_protection_of name; flags = segment_flags_of name }) (segment_names_of l)

-- What output sections are merged by: sections of one segment, name and type are one.
pub record OutputKey : Type 0 where
  pub segment : List ℕ
  pub name : List ℕ
  pub type : ℕ

abbrev pub same_key : OutputKey → OutputKey → Bool
same_key a b = bytes_eq a.segment b.segment && bytes_eq a.name b.name && (a.type == b.type)

abbrev pub key_of : SectionHeader → OutputKey
key_of h = record { segment = segment_name_of h; name = section_name_of h; type = type_of h }

-- the section that commons are put into
abbrev pub common_key : OutputKey
common_key = record { segment = DATA; name = codes "__common"; type = S_ZEROFILL }

-- the merged sections of the image, as first seen
unfoldable pub output_keys_of : Link → List OutputKey
output_keys_of l =
    distinct same_key (map (λ s. key_of (header_at l s)) (carried_of l) ++ list_if (not (length (chosen_commons l) == 0)) (common_key ∷ []))

abbrev pub one_if : Bool → ℕ
one_if b = if b then 1 else 0

-- how many output sections there are: the merged ones, and one for each part that the linker makes and that is not empty: initializers,
-- unwind information, stubs, slots
unfoldable pub output_count : Link → Counts → ℕ
output_count l counts =
    length (output_keys_of l) + one_if (nat_lt 0 counts.initializers) + one_if (nat_lt 0 counts.unwind)
    + one_if (not (length (stubs_of l) == 0)) + one_if (not (length (slots_of l) == 0))
