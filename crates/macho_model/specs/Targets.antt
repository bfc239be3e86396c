-- Targets: what a symbol and a relocation lead to; and the slots and stubs that references need.
use Rattle.std.specs.Prelude.{ℕ, ◌-◌, ◌==◌, ◌&&◌, ◌||◌, if◌then◌else◌, Bool, true, false, List, [], ◌∷◌, ◌++◌, map, filter, Option, Some, None, option_map, nat_eq}
use Rattle.std.specs.List.{position_or_len, list_any}
use Rattle.std.specs.Str.{bytes_eq}
use Rattle.std.specs.Option.{unwrap_or}
use Rattle.macho_model.specs.declared.targets.Target.{Target}
use Rattle.macho_model.specs.declared.targets.Target.TheVariants as target
use Rattle.macho_records.specs.Symbols.{is_common_of, has_type, is_global}
use Rattle.macho_records.specs.declared.constants.TheConstants.{ARM64_RELOC_BRANCH26, ARM64_RELOC_GOT_LOAD_PAGE21, ARM64_RELOC_GOT_LOAD_PAGEOFF12, ARM64_RELOC_POINTER_TO_GOT, ARM64_RELOC_TLVP_LOAD_PAGE21, ARM64_RELOC_TLVP_LOAD_PAGEOFF12, N_ABS}
use Rattle.macho_model.specs.Links.{Link, SectionId, header_at, is_carried}
use Rattle.macho_model.specs.Resolution.{SymbolId, Definition, Symbol, Library, ImageBase, entry_at, name_at, same_symbol, section_of_symbol, stands_in_carried, definition_of, chosen_commons}
use Rattle.macho_model.specs.Needs.{RelocationId, relocation_in, section_named, symbol_of_relocation, carried_relocations, personality_relocations, imports_of, distinct}

-- what a symbol leads to by itself: its place in a section that goes into the image, its value, its number among the commons, or nothing
abbrev pub own_target : Link → SymbolId → Target
own_target l s =
    if stands_in_carried l s
    then target.Section s.file ((entry_at l s).n_sect - 1) ((entry_at l s).n_value - (header_at l (section_of_symbol l s)).addr)
    else if has_type N_ABS (entry_at l s) then target.Absolute (entry_at l s).n_value
    else if is_common_of (entry_at l s) then target.Common (position_or_len (same_symbol s) (chosen_commons l))
    else target.None

-- what a definition of a name leads to, where some imports are noted; one that isn't noted will be the next
abbrev pub definition_target : Link → List (List ℕ) → List ℕ → Option Definition → Target
definition_target l noted name None = target.None
definition_target l noted name (Some (Symbol s)) = own_target l s
definition_target l noted name (Some (Library file)) = target.Import (position_or_len (bytes_eq name) noted)
definition_target l noted name (Some ImageBase) = target.Base

-- the target of a global name, where all imports are noted
abbrev pub target_of_name : Link → List ℕ → Target
target_of_name l name = definition_target l (imports_of l) name (definition_of l name)

-- The target of a symbol: that of its name where it is global, else its own place or value, if it has one.
unfoldable pub target_of : Link → SymbolId → Target
target_of l s = if is_global (entry_at l s) then target_of_name l (name_at l s) else own_target l s

-- the target of a relocation: of its symbol, or the start of the carried section that it names by number
unfoldable pub target_of_relocation : Link → SectionId → ℕ → Target
target_of_relocation l s r =
    if (relocation_in l s r).r_extern then unwrap_or (option_map (target_of l) (symbol_of_relocation l s r)) target.None
    else if is_carried (header_at l (section_named l s r)) then target.Section s.file (section_named l s r).section 0
    else target.None

abbrev pub is_import : Target → Bool
is_import (target.Import id) = true
is_import t = false

-- a target that moves with the image: a section, a common or the image's base
abbrev pub is_defined : Target → Bool
is_defined (target.Section file section offset) = true
is_defined (target.Common id) = true
is_defined target.Base = true
is_defined t = false

abbrev pub same_target : Target → Target → Bool
same_target (target.Section f s o) (target.Section g t p) = (f == g) && (s == t) && (o == p)
same_target (target.Common i) (target.Common j) = i == j
same_target (target.Import i) (target.Import j) = i == j
same_target target.Base target.Base = true
same_target (target.Absolute v) (target.Absolute w) = v == w
same_target target.None target.None = true
same_target t u = false

-- the targets of some relocations
abbrev pub targets_at : Link → List RelocationId → List Target
targets_at l us = map (λ u. target_of_relocation l u.0 u.1) us

-- a relocation needs a slot for an import that it calls or loads, and for whatever a pointer to a slot names
abbrev pub needs_slot : Link → RelocationId → Bool
needs_slot l u =
    let type = (relocation_in l u.0 u.1).r_type in
    (type == ARM64_RELOC_POINTER_TO_GOT)
    || (list_any (nat_eq type) (ARM64_RELOC_BRANCH26 ∷ ARM64_RELOC_GOT_LOAD_PAGE21 ∷ ARM64_RELOC_GOT_LOAD_PAGEOFF12
    ∷ ARM64_RELOC_TLVP_LOAD_PAGE21 ∷ ARM64_RELOC_TLVP_LOAD_PAGEOFF12 ∷ []) && is_import (target_of_relocation l u.0 u.1))

-- the targets that have a slot, by first need, in carried sections and then in unwind entries; a slot is numbered by its place here
unfoldable pub slots_of : Link → List Target
slots_of l = distinct same_target (targets_at l (filter (needs_slot l) (carried_relocations l) ++ personality_relocations l))

abbrev pub slot_number : Link → Target → ℕ
slot_number l t = position_or_len (same_target t) (slots_of l)

-- the imports that are called, by first call: each has a stub, which is numbered by its place here
unfoldable pub stubs_of : Link → List Target
stubs_of l =
    distinct same_target (filter is_import
    (targets_at l (filter (λ u. (relocation_in l u.0 u.1).r_type == ARM64_RELOC_BRANCH26) (carried_relocations l))))
