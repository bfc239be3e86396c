-- What is told of the words that a link needs, said of the link's slots and pointers: the contracts of functions of `src/laws.rt`.
use Rattle.std.specs.Prelude.{◌≡◌, ℕ, ◌+◌, ◌⊎◌, List, Option, Some, None, All}
use Rattle.macho_model.specs.declared.placed.PlacedSection.{PlacedSection}
use Rattle.macho_model.specs.declared.placed.Slot.{Slot}
use Rattle.macho_model.specs.declared.targets.Site.{Site}
use Rattle.macho_model.specs.declared.targets.Site.TheVariants as site
use Rattle.macho_model.specs.Lists.{IsNumber}
use Rattle.macho_model.specs.Links.{Link}
use Rattle.macho_model.specs.Fields.{Field}
use Rattle.macho_model.specs.Placement.{Placed}
use Rattle.macho_model.specs.Chain.{OnChainOf}
use Rattle.macho_model.specs.Fixups.{IsFixupPlace, ChainIsWhole}
use Rattle.macho_verify_laws.specs.InFile.{WordLeads}
use Rattle.macho_image_rules.specs.declared.chain.Needed.{Needed}
use Rattle.macho_image_rules.specs.Chain.{IsFirstDifference}
use Rattle.macho_image_rules.specs.Needing.{IsPointer, IsNeededBy, AreNeededBy}
use Rattle.macho_image_rules.specs.Asking.{LeadsAsNeeded}

-- an address is on the chains and needs no fixup, or it needs one and isn't on the chains
abbrev pub DiffersAt : Link → List ℕ → Placed → ℕ → Type 0
DiffersAt l b p a = (OnChainOf b a × (IsFixupPlace l p a → ⊥)) ⊎ (IsFixupPlace l p a × (OnChainOf b a → ⊥))

-- the chains of an image are those of a link but for such an address, or whole where there is none
abbrev pub IsDifferenceOf : Link → List ℕ → Placed → Option ℕ → Type 0
IsDifferenceOf l b p None = ChainIsWhole l b p
IsDifferenceOf l b p (Some a) = DiffersAt l b p a

-- what is told of the words that a link needs is so of the link
abbrev pub DifferencesAreOfTheLink : Type 0
DifferencesAreOfTheLink =
    (l : Link) (b : List ℕ) (p : Placed) (needed : List Needed) (told : Option ℕ) → AreNeededBy l p needed
    → IsFirstDifference b needed told → IsDifferenceOf l b p told

-- the word of a slot leads to its target
abbrev pub SlotLeads : Link → List ℕ → Placed → Slot → Type 0
SlotLeads l b p s = WordLeads l b p s.address s.target 0

-- the word of a field leads to its target, with its addend
abbrev pub PointerLeads : Link → List ℕ → Placed → PlacedSection → Field → Type 0
PointerLeads l b p q f = WordLeads l b p (q.address + f.offset) f.target f.addend

-- Each slot and each pointer leads.
pub record AllLead (l : Link) (b : List ℕ) (p : Placed) : Type 0 where
  pub slots : All (SlotLeads l b p) p.slots
  pub pointers : (q : PlacedSection) (f : Field) → IsPointer l p q f → PointerLeads l b p q f

-- where each needed word leads as it is to, each slot and each pointer does
abbrev pub NeededWordsAreAll : Type 0
NeededWordsAreAll =
    (l : Link) (b : List ℕ) (p : Placed) (needed : List Needed) → AreNeededBy l p needed → All (LeadsAsNeeded l b p) needed
    → AllLead l b p

-- The pointer of a relocation is misled.
pub record IsMisledPointer (l : Link) (b : List ℕ) (p : Placed) (file section relocation : ℕ) : Type 0 where
  pub place : PlacedSection
  pub field : Field
  pub pointer : IsPointer l p place field
  pub file_is : place.file ≡ file
  pub section_is : place.section ≡ section
  pub relocation_is : field.relocation ≡ relocation
  pub misled : PointerLeads l b p place field → ⊥

-- the slot or the pointer of a site is misled
abbrev pub IsMisledSite : Link → List ℕ → Placed → Site → Type 0
IsMisledSite l b p (site.Slot k) = (s : Slot) × IsNumber p.slots k s × (SlotLeads l b p s → ⊥)
IsMisledSite l b p (site.Field file section relocation) = IsMisledPointer l b p file section relocation
IsMisledSite l b p (site.Stub k) = ⊥

-- a needed word that is misled is that of a slot or a pointer that is
abbrev pub MisledWordsAreOfSites : Type 0
MisledWordsAreOfSites =
    (l : Link) (b : List ℕ) (p : Placed) (word : Needed) → IsNeededBy l p word → (LeadsAsNeeded l b p word → ⊥)
    → IsMisledSite l b p word.site
