-- A target that moves with the image has one place in a placement of its link. Each law is the contract of a function of `src/laws.rt`.
use Rattle.std.specs.Prelude.{◌≡◌, ℕ, ◌+◌, ◌<◌, ◌≤◌, ◌==◌, true, false, List, length, map, Contains}
use Rattle.std.specs.List.{range_with_len}
use Rattle.macho_records.specs.declared.constants.TheConstants.{ARM64_RELOC_ADDEND}
use Rattle.macho_model.specs.declared.placed.Counts.{Counts}
use Rattle.macho_model.specs.declared.targets.Target.{Target}
use Rattle.macho_model.specs.declared.targets.Target.TheVariants as target
use Rattle.macho_model.specs.Grammar.{ObjectsAreRead}
use Rattle.macho_model.specs.Links.{Link, SectionId, section_id, header_at, sections_of, carried_of}
use Rattle.macho_model.specs.Resolution.{SymbolId, symbols_of, definition_of, chosen_commons}
use Rattle.macho_model.specs.Needs.{relocation_in}
use Rattle.macho_model.specs.Targets.{definition_target, target_of_relocation, is_defined, slots_of}
use Rattle.macho_model.specs.Uses.{target_with}
use Rattle.macho_model.specs.Placement.{Placed, IsPlaced, id_of}
use Rattle.macho_model.specs.Addresses.{address_of, slot_address}
use Rattle.macho_model.specs.Memory.{Choice}
use Rattle.macho_model.specs.Stands.{IsAt, SlotAt}

-- A placement lists the carried sections, the chosen commons and the slots of its link, in order.
pub record ListsAll (l : Link) (p : Placed) : Type 0 where
  pub sections : map id_of p.sections ≡ carried_of l
  pub commons : map (λ c. c.id) p.commons ≡ range_with_len 0 (length (chosen_commons l))
  pub slots : map (λ s. s.target) p.slots ≡ slots_of l

-- a target is a carried section, a chosen common or the image's base
abbrev pub IsOfLink : Link → Target → Type 0
IsOfLink l (target.Section file section offset) = Contains (carried_of l) (section_id file section)
IsOfLink l (target.Common id) = id < length (chosen_commons l)
IsOfLink l (target.Import id) = ⊥
IsOfLink l target.Base = Unit {0}
IsOfLink l (target.Absolute value) = ⊥
IsOfLink l target.None = ⊥

-- a symbol's target that moves is of the link, and so is that of a name and of a relocation, but for an addend, which names nothing
abbrev pub SymbolTargetsAreOfLink : Type 0
SymbolTargetsAreOfLink =
    (l : Link) (noted : List (List ℕ)) (s : SymbolId) → ObjectsAreRead l → Contains (symbols_of l) s
    → is_defined (target_with l noted s) ≡ true
    → IsOfLink l (target_with l noted s)

abbrev pub NameTargetsAreOfLink : Type 0
NameTargetsAreOfLink =
    (l : Link) (noted : List (List ℕ)) (name : List ℕ) → ObjectsAreRead l
    → is_defined (definition_target l noted name (definition_of l name)) ≡ true
    → IsOfLink l (definition_target l noted name (definition_of l name))

abbrev pub RelocationTargetsAreOfLink : Type 0
RelocationTargetsAreOfLink =
    (l : Link) (s : SectionId) (r : ℕ) → ObjectsAreRead l → Contains (sections_of l) s → r < (header_at l s).nreloc
    → ((relocation_in l s r).r_type == ARM64_RELOC_ADDEND) ≡ false → is_defined (target_of_relocation l s r) ≡ true
    → IsOfLink l (target_of_relocation l s r)

-- what is of the link has its address, moved by the slide, and no other
abbrev pub TargetsHavePlaces : Type 0
TargetsHavePlaces =
    (l : Link) (p : Placed) (s : ℕ) (choice : Choice) (t : Target) → ListsAll l p → IsOfLink l t → IsAt l p s choice t (address_of p t + s)

abbrev pub PlacesAreOne : Type 0
PlacesAreOne =
    (l : Link) (p : Placed) (s : ℕ) (choice : Choice) (t : Target) (x : ℕ) → ListsAll l p → is_defined t ≡ true → IsAt l p s choice t x
    → x ≡ address_of p t + s

-- a slot's target has the slot's address, moved by the slide, and no other
abbrev pub SlotsHavePlaces : Type 0
SlotsHavePlaces =
    (l : Link) (p : Placed) (s : ℕ) (t : Target) → ListsAll l p → Contains (slots_of l) t → SlotAt p s t (slot_address p t + s)

abbrev pub SlotPlacesAreOne : Type 0
SlotPlacesAreOne = (l : Link) (p : Placed) (s : ℕ) (t : Target) (x : ℕ) → ListsAll l p → SlotAt p s t x → x ≡ slot_address p t + s

-- what is of the link stands at the base or above it
abbrev pub TargetsStandAbove : Type 0
TargetsStandAbove =
    (l : Link) (counts : Counts) (p : Placed) (t : Target) → IsPlaced l counts p → ListsAll l p → IsOfLink l t → p.base ≤ address_of p t
