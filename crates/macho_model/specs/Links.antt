-- What is linked: the arguments that matter and the inputs in order; which sections of the objects go into the image.
use Rattle.std.specs.Prelude.{ℕ, ◌==◌, ◌&&◌, not, if◌then◌else◌, Bool, List, [], ◌∷◌, map, filter, Option, codes, bytes_eq, get_or, max}
use Rattle.std.specs.List.{flat_map, enumerate_from, range_with_len}
use Rattle.macho_records.specs.declared.header.SectionHeader.{SectionHeader}
use Rattle.macho_records.specs.Sections.{should_exclude_of, section_name_of, type_of, is_template_type}
use Rattle.macho_records.specs.declared.constants.TheConstants.{S_THREAD_LOCAL_VARIABLES}
use Rattle.macho_model.specs.Objects.{num_sections, section_at}

-- what a stub text says: its library's install name, and the names that it offers
pub record StubReading : Type 0 where
  pub install_name : List ℕ
  pub names : List (List ℕ)
  pub weak_names : List (List ℕ)

-- An input, with the kind that its bytes have. What a stub's text says is told beside it.
pub data Input : Type 0 where
  Object : (bytes : List ℕ) → Input
  Dylib : (bytes : List ℕ) → Input
  Stub : (text : List ℕ) (says : StubReading) → Input

-- What is linked. Files are numbered by their place among the inputs, from 0.
pub record Link : Type 0 where
  -- an executable, else a dynamic library
  pub executable : Bool
  pub output : List ℕ
  pub entry : List ℕ
  -- the install name that was given, else the output path; only a dynamic library has it written
  pub install_name : List ℕ
  pub rpaths : List (List ℕ)
  -- the least version of macOS and that of the SDK, where they were given
  pub versions : Option (ℕ × ℕ)
  pub dead_strip_dylibs : Bool
  pub headerpad : Bool
  pub inputs : List Input
  -- the texts of the export lists
  pub export_lists : List (List ℕ)

-- the bytes of an object, none for another input
abbrev pub object_bytes : Input → List ℕ
object_bytes (Object bytes) = bytes
object_bytes library = []

-- the bytes of a file that is an object, none where there is no such object
abbrev pub object_of : Link → ℕ → List ℕ
object_of l file = object_bytes (get_or l.inputs file (Object []))

-- A section of an object, by file and number.
pub record SectionId : Type 0 where
  pub file : ℕ
  pub section : ℕ

abbrev pub section_id : ℕ → ℕ → SectionId
section_id file section = record { file = file; section = section }

abbrev pub header_at : Link → SectionId → SectionHeader
header_at l s = section_at (object_of l s.file) s.section

-- initializers and compact unwind entries are turned into sections of the image's own
abbrev pub is_initializers : SectionHeader → Bool
is_initializers h = bytes_eq (section_name_of h) (codes "__mod_init_func")

abbrev pub is_unwind_entries : SectionHeader → Bool
is_unwind_entries h = bytes_eq (section_name_of h) (codes "__compact_unwind")

-- a section goes into the image as it is
abbrev pub is_carried : SectionHeader → Bool
is_carried h = not (should_exclude_of h) && not (is_initializers h) && not (is_unwind_entries h)

-- a carried section of the thread-local template
abbrev pub is_template : SectionHeader → Bool
is_template h = is_carried h && is_template_type (type_of h)

-- the numbers of an object's sections or symbols, of which `count` tells how many there are; a library has none
abbrev pub numbers_in : (List ℕ → ℕ) → Input → List ℕ
numbers_in count (Object bytes) = range_with_len 0 (count bytes)
numbers_in count library = []

-- all sections of all objects, by file, then section
unfoldable pub sections_of : Link → List SectionId
sections_of l = flat_map (λ i. map (section_id i.0) (numbers_in num_sections i.1)) (enumerate_from 0 l.inputs)

-- the carried ones, in the same order
unfoldable pub carried_of : Link → List SectionId
carried_of l = filter (λ s. is_carried (header_at l s)) (sections_of l)

-- the greatest of some numbers, 0 of none
abbrev pub greatest : List ℕ → ℕ
greatest [] = 0
greatest (n ∷ ns) = max n (greatest ns)

-- the alignment of the template: the greatest of its sections'
unfoldable pub template_exponent : Link → ℕ
template_exponent l = greatest (map (λ s. (header_at l s).align) (filter (λ s. is_template (header_at l s)) (sections_of l)))

-- The alignment that a carried section is placed at, as an exponent of 2: its own; that of the template in the
-- template; at least that of a pointer where thread-local variables are described.
unfoldable pub placed_exponent : Link → SectionId → ℕ
placed_exponent l s =
    if is_template (header_at l s) then template_exponent l
    else if type_of (header_at l s) == S_THREAD_LOCAL_VARIABLES then max 3 (header_at l s).align
    else (header_at l s).align

-- what stands where there is no input
abbrev pub no_input : Input
no_input = Object []

-- the sections of one file
abbrev pub sections_of_file : ℕ → Input → List SectionId
sections_of_file file x = map (section_id file) (numbers_in num_sections x)
