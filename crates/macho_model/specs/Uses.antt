-- What the objects ask for, one use behind the other, in the order of one walk: what the crates below the linker note as they go.
-- `proofs/Uses` shows that imports, slots and stubs are those of all uses.
use Rattle.std.specs.Prelude.{ℕ, ◌+◌, ◌*◌, ◌/◌, ◌==◌, ◌&&◌, ◌||◌, if◌then◌else◌, Bool, true, false, List, ◌++◌, map, filter, Option, Some, None}
use Rattle.std.specs.List.{flat_map, range_with_len}
use Rattle.macho_records.specs.Symbols.{is_global}
use Rattle.macho_records.specs.declared.constants.TheConstants.{ARM64_RELOC_BRANCH26, ARM64_RELOC_GOT_LOAD_PAGE21, ARM64_RELOC_GOT_LOAD_PAGEOFF12, ARM64_RELOC_POINTER_TO_GOT, ARM64_RELOC_TLVP_LOAD_PAGE21, ARM64_RELOC_TLVP_LOAD_PAGEOFF12}
use Rattle.macho_model.specs.declared.targets.Target.{Target}
use Rattle.macho_model.specs.ExportLists.{plain_entries}
use Rattle.macho_model.specs.Links.{Link, SectionId, header_at, carried_of}
use Rattle.macho_model.specs.Resolution.{SymbolId, entry_at, name_at, definition_of}
use Rattle.macho_model.specs.Needs.{relocation_in, relocations_of, relocations_at, initializer_sections, unwind_sections, symbol_of_relocation, is_imported, POINTER_SIZE, UNWIND_ENTRY_SIZE, PERSONALITY_PLACE}
use Rattle.macho_model.specs.Targets.{target_of_relocation, own_target, definition_target, is_import}
use Rattle.macho_model.specs.Consumed.{is_plain_pointer}

-- A use of a symbol: by a relocation of a section, or by a name of an export list.
pub data Use : Type 0 where
  ByRelocation : (s : SectionId) (relocation : ℕ) → Use
  ByInitializer : (s : SectionId) (relocation : ℕ) → Use
  ByPersonality : (s : SectionId) (relocation : ℕ) → Use
  ByName : (name : List ℕ) → Use

abbrev pub carried_uses : Link → SectionId → List Use
carried_uses l s = map (ByRelocation s) (relocations_of l s)

abbrev pub initializer_uses : Link → SectionId → List Use
initializer_uses l s =
    flat_map (λ slot. map (ByInitializer s) (relocations_at l s (POINTER_SIZE * slot)))
    (range_with_len 0 ((header_at l s).size / POINTER_SIZE))

abbrev pub personality_uses : Link → SectionId → List Use
personality_uses l s =
    flat_map (λ entry. map (ByPersonality s) (relocations_at l s (UNWIND_ENTRY_SIZE * entry + PERSONALITY_PLACE)))
    (range_with_len 0 ((header_at l s).size / UNWIND_ENTRY_SIZE))

unfoldable pub uses_of : Link → List Use
uses_of l =
    flat_map (carried_uses l) (carried_of l) ++ flat_map (initializer_uses l) (initializer_sections l)
    ++ flat_map (personality_uses l) (unwind_sections l) ++ map ByName (filter (is_imported l) (plain_entries l.export_lists))

abbrev pub symbol_used : Link → Use → Option SymbolId
symbol_used l (ByRelocation s r) = symbol_of_relocation l s r
symbol_used l (ByInitializer s r) = symbol_of_relocation l s r
symbol_used l (ByPersonality s r) = symbol_of_relocation l s r
symbol_used l (ByName name) = None

-- a use names a symbol: that of a consumed section only where its relocation has the form that is read
abbrev pub names_symbol : Link → Use → Bool
names_symbol l (ByRelocation s r) = true
names_symbol l (ByInitializer s r) = is_plain_pointer (relocation_in l s r)
names_symbol l (ByPersonality s r) = is_plain_pointer (relocation_in l s r)
names_symbol l (ByName name) = false

-- the global name that a symbol stands for
abbrev pub global_name : Link → Option SymbolId → Option (List ℕ)
global_name l None = None
global_name l (Some s) = if is_global (entry_at l s) then Some (name_at l s) else None

-- the global name that is used, if one is
abbrev pub name_used : Link → Use → Option (List ℕ)
name_used l (ByRelocation s r) = global_name l (symbol_of_relocation l s r)
name_used l (ByInitializer s r) = global_name l (symbol_of_relocation l s r)
name_used l (ByPersonality s r) = global_name l (symbol_of_relocation l s r)
name_used l (ByName name) = Some name

-- The target of a symbol where some imports are noted: that of its name where it is global, else its own place or value, if it has one.
abbrev pub target_with : Link → List (List ℕ) → SymbolId → Target
target_with l noted s =
    if is_global (entry_at l s) then definition_target l noted (name_at l s) (definition_of l (name_at l s)) else own_target l s

-- a reference of a type goes through a slot where its target is an import
abbrev pub goes_by_slot : ℕ → Bool
goes_by_slot type =
    (type == ARM64_RELOC_BRANCH26) || (type == ARM64_RELOC_GOT_LOAD_PAGE21) || (type == ARM64_RELOC_GOT_LOAD_PAGEOFF12)
    || (type == ARM64_RELOC_TLVP_LOAD_PAGE21) || (type == ARM64_RELOC_TLVP_LOAD_PAGEOFF12)

-- the target that a use needs a slot for, if it needs one: an import that is loaded or called, and whatever a pointer
-- to a slot or a personality function names
abbrev pub slot_of_relocation : ℕ → Target → Option Target
slot_of_relocation type t = if (type == ARM64_RELOC_POINTER_TO_GOT) || (goes_by_slot type && is_import t) then Some t else None

abbrev pub slot_of_use : Link → Use → Option Target
slot_of_use l (ByRelocation s r) = slot_of_relocation (relocation_in l s r).r_type (target_of_relocation l s r)
slot_of_use l (ByPersonality s r) = Some (target_of_relocation l s r)
slot_of_use l u = None

-- the import that a use calls through a stub, if it calls one
abbrev pub stub_of_relocation : ℕ → Target → Option Target
stub_of_relocation type t = if (type == ARM64_RELOC_BRANCH26) && is_import t then Some t else None

abbrev pub stub_of_use : Link → Use → Option Target
stub_of_use l (ByRelocation s r) = stub_of_relocation (relocation_in l s r).r_type (target_of_relocation l s r)
stub_of_use l u = None
