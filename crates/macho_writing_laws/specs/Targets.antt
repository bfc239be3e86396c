-- What symbols, names and relocations lead to has a place between the base and the end of addresses.
use Rattle.std.specs.Prelude.{◌≡◌, ℕ, ◌^◌, ◌<◌, ◌≤◌, ◌==◌, true, false, List, Contains}
use Rattle.macho_records.specs.declared.constants.TheConstants.{ARM64_RELOC_ADDEND}
use Rattle.macho_model.specs.declared.placed.Counts.{Counts}
use Rattle.macho_model.specs.declared.targets.Target.{Target}
use Rattle.macho_model.specs.Links.{Link, SectionId, header_at, sections_of}
use Rattle.macho_model.specs.Resolution.{SymbolId, symbols_of, definition_of}
use Rattle.macho_model.specs.Needs.{relocation_in}
use Rattle.macho_model.specs.Targets.{definition_target, target_of_relocation, is_defined, is_import}
use Rattle.macho_model.specs.Uses.{target_with}
use Rattle.macho_model.specs.Placement.{Placed}
use Rattle.macho_model.specs.Addresses.{address_of}
use Rattle.macho_layout_laws.specs.Laws.{IsWhollyPlaced, NonePasses}
use Rattle.macho_placed_laws.specs.Targets.{IsOfLink}
use Rattle.macho_model.specs.Grammar.{ObjectsAreRead}
use Rattle.macho_image_laws.specs.Leads.{HasPlace}

-- what moves with the image and is named by a symbol, a name or a relocation lies in a part of the link, or at its end
abbrev pub SymbolsHavePlaces : Type 0
SymbolsHavePlaces =
    (l : Link) (noted : List (List ℕ)) (s : SymbolId) → ObjectsAreRead l → Contains (symbols_of l) s
    → is_defined (target_with l noted s) ≡ true
    → HasPlace l (target_with l noted s)

abbrev pub NamesHavePlaces : Type 0
NamesHavePlaces =
    (l : Link) (noted : List (List ℕ)) (name : List ℕ) → ObjectsAreRead l
    → is_defined (definition_target l noted name (definition_of l name)) ≡ true
    → HasPlace l (definition_target l noted name (definition_of l name))

abbrev pub RelocationsHavePlaces : Type 0
RelocationsHavePlaces =
    (l : Link) (s : SectionId) (r : ℕ) → ObjectsAreRead l → Contains (sections_of l) s → r < (header_at l s).nreloc
    → ((relocation_in l s r).r_type == ARM64_RELOC_ADDEND) ≡ false → is_defined (target_of_relocation l s r) ≡ true
    → HasPlace l (target_of_relocation l s r)

-- what has a place and is no import is of the link
abbrev pub PlacesAreOfLink : Type 0
PlacesAreOfLink = (l : Link) (t : Target) → HasPlace l t → is_import t ≡ false → IsOfLink l t

-- its address is below 2 ^ 64, and that of what is no import is not below the base
abbrev pub PlacesAreLow : Type 0
PlacesAreLow =
    (l : Link) (counts : Counts) (p : Placed) (t : Target) → IsWhollyPlaced l counts p → NonePasses l counts p → HasPlace l t
    → address_of p t < 2 ^ 64

abbrev pub PlacesAreAbove : Type 0
PlacesAreAbove =
    (l : Link) (counts : Counts) (p : Placed) (t : Target) → IsWhollyPlaced l counts p → HasPlace l t → is_import t ≡ false
    → p.base ≤ address_of p t
