-- What the objects ask for, in the order of one walk: carried relocations, then initializers, then personality
-- functions of unwind entries, then the plain names of the export lists. From it come imports and libraries.
use Rattle.std.specs.Prelude.{ℕ, ◌+◌, ◌-◌, ◌*◌, ◌/◌, ◌==◌, ◌&&◌, ◌||◌, not, if◌then◌else◌, Bool, List, [], ◌∷◌, ◌++◌, map, filter, Option, Some, None, is_some, get_or}
use Rattle.std.specs.List.{flat_map, filter_map, range_with_len, list_any}
use Rattle.std.specs.Option.{unwrap_or}
use Rattle.std.specs.Str.{bytes_eq}
use Rattle.macho_records.specs.RelocationInfo.{RelocationInfo}
use Rattle.macho_records.specs.Sections.{should_exclude_of}
use Rattle.macho_records.specs.declared.constants.TheConstants.{ARM64_RELOC_ADDEND}
use Rattle.macho_records.specs.Symbols.{is_global}
use Rattle.macho_model.specs.Objects.{relocation_at}
use Rattle.macho_model.specs.ExportLists.{plain_entries}
use Rattle.macho_model.specs.Links.{Object, Link, object_of, SectionId, header_at, is_initializers, is_unwind_entries, sections_of, carried_of}
use Rattle.macho_model.specs.Resolution.{SymbolId, definition_of, entry_at, name_at, library_in, library_of_input}

-- the bytes of a pointer, a slot or a word on a chain and of a compact unwind entry, and the place of the personality in the latter
-- (`mach-o/compact_unwind_encoding.h`)
abbrev pub POINTER_SIZE : ℕ
POINTER_SIZE = 8

abbrev pub UNWIND_ENTRY_SIZE : ℕ
UNWIND_ENTRY_SIZE = 32

abbrev pub PERSONALITY_PLACE : ℕ
PERSONALITY_PLACE = 16

-- A relocation of an object, by its section and number.
abbrev pub RelocationId : Type 0
RelocationId = SectionId × ℕ

abbrev pub relocation_in : Link → SectionId → ℕ → RelocationInfo
relocation_in l s r = relocation_at (object_of l s.file) s.section r

-- the section that a relocation names by number, from 1
abbrev pub section_named : Link → SectionId → ℕ → SectionId
section_named l s r = record { file = s.file; section = (relocation_in l s r).r_symbolnum - 1 }

-- the relocations of a section, by number
abbrev pub relocations_of : Link → SectionId → List ℕ
relocations_of l s = range_with_len 0 (header_at l s).nreloc

-- the relocations of a section at a place
abbrev pub relocations_at : Link → SectionId → ℕ → List ℕ
relocations_at l s place = filter (λ r. (relocation_in l s r).r_address == place) (relocations_of l s)

-- the sections with initializers, and those with unwind entries, which go into the image in another form
unfoldable pub initializer_sections : Link → List SectionId
initializer_sections l = filter (λ s. not (should_exclude_of (header_at l s)) && is_initializers (header_at l s)) (sections_of l)

unfoldable pub unwind_sections : Link → List SectionId
unwind_sections l = filter (λ s. not (should_exclude_of (header_at l s)) && is_unwind_entries (header_at l s)) (sections_of l)

-- the relocations of carried sections, by file, then section
unfoldable pub carried_relocations : Link → List RelocationId
carried_relocations l = flat_map (λ s. map (λ r. (s, r)) (relocations_of l s)) (carried_of l)

-- the relocations at one place in each record of a section, whose records have this size
abbrev pub relocations_in_records : Link → ℕ → ℕ → SectionId → List RelocationId
relocations_in_records l size place s =
    flat_map (λ k. map (λ r. (s, r)) (relocations_at l s (size * k + place))) (range_with_len 0 ((header_at l s).size / size))

-- those of initializers, by slot, and those of personality functions, by entry
unfoldable pub initializer_relocations : Link → List RelocationId
initializer_relocations l = flat_map (relocations_in_records l POINTER_SIZE 0) (initializer_sections l)

unfoldable pub personality_relocations : Link → List RelocationId
personality_relocations l = flat_map (relocations_in_records l UNWIND_ENTRY_SIZE PERSONALITY_PLACE) (unwind_sections l)

-- the symbol that a relocation names, if it names one
abbrev pub symbol_of_relocation : Link → SectionId → ℕ → Option SymbolId
symbol_of_relocation l s r =
    if (relocation_in l s r).r_extern && not ((relocation_in l s r).r_type == ARM64_RELOC_ADDEND)
    then Some (record { file = s.file; symbol = (relocation_in l s r).r_symbolnum }) else None

-- the global symbols that some relocations name, in order
abbrev pub globals_used : Link → List RelocationId → List SymbolId
globals_used l us = filter (λ s. is_global (entry_at l s)) (filter_map (λ u. symbol_of_relocation l u.0 u.1) us)

-- a list with repeats taken out: each element stands where it stood first
abbrev pub distinct : {X : Type 0} → (X → X → Bool) → List X → List X
distinct same [] = []
distinct same (x ∷ xs) = x ∷ filter (λ y. not (same x y)) (distinct same xs)

abbrev pub is_imported : Link → List ℕ → Bool
is_imported l name = is_some (library_in (definition_of l name))

-- the imported names, by first use; an import is numbered by its place here
unfoldable pub imports_of : Link → List (List ℕ)
imports_of l =
    distinct bytes_eq (filter (is_imported l)
    (map (name_at l) (globals_used l (carried_relocations l ++ initializer_relocations l ++ personality_relocations l))
    ++ plain_entries l.export_lists))

-- the install name of the library that an import is bound to
abbrev pub import_library : Link → List ℕ → List ℕ
import_library l name =
    let file = unwrap_or (library_in (definition_of l name)) 0 in
    unwrap_or (library_of_input (get_or l.inputs file (Object []))) []

-- the libraries of the image, by install name in input order: all of them, or only those that an import is bound to
unfoldable pub libraries_needed : Link → List (List ℕ)
libraries_needed l =
    filter (λ library. not l.dead_strip_dylibs || list_any (λ name. bytes_eq (import_library l name) library) (imports_of l))
    (distinct bytes_eq (filter_map library_of_input l.inputs))
