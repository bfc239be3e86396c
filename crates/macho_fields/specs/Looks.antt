-- What filling a section looks up: what symbols lead to, and where things are. And what these look-ups have to tell of a
-- link and a placement of it.
use Rattle.std.specs.Prelude.{◌≡◌, ℕ, ◌<◌, ◌%◌, ◌==◌, true, false, Bool, filter, Option, Contains, IfSome, is_some, ◌+◌, ◌^◌}
use Rattle.macho_model.specs.declared.placed.PlacedSection.{PlacedSection}
use Rattle.macho_model.specs.declared.placed.PlacedCommon.{PlacedCommon}
use Rattle.macho_model.specs.declared.placed.Slot.{Slot}
use Rattle.macho_model.specs.declared.placed.Stub.{Stub}
use Rattle.macho_model.specs.declared.placed.Range64.{Range64}
use Rattle.macho_model.specs.declared.targets.Target.{Target}
use Rattle.macho_model.specs.declared.targets.Target.TheVariants as target
use Rattle.macho_records.specs.declared.constants.TheConstants.{ARM64_RELOC_ADDEND}
use Rattle.macho_model.specs.Objects.{num_symbols}
use Rattle.macho_model.specs.Links.{Link, SectionId, object_of, header_at, carried_of, is_template}
use Rattle.macho_model.specs.Needs.{relocation_in}
use Rattle.macho_model.specs.Targets.{target_of, target_of_relocation}
use Rattle.macho_model.specs.Uses.{slot_of_relocation, stub_of_relocation}
use Rattle.macho_model.specs.Placement.{Placed, id_of}
use Rattle.macho_model.specs.Lists.{of_first}
use Rattle.macho_model.specs.Addresses.{section_address, common_address, slot_address}
use Rattle.macho_promise.specs.FixupsSay.{own_number}

-- What is looked up, as plain functions.
pub record Look : Type 0 where
  -- what a symbol of a file leads to
  pub target : ℕ → ℕ → Target
  -- a section of a file lies in the thread-local template
  pub in_template : ℕ → ℕ → Bool
  -- the number of an import's entry of its own, by its addend
  pub own : ℕ → ℕ → ℕ
  -- addresses: of the image's base, a section of a file, a common, the slot of a target, the stub of an import
  pub base : ℕ
  pub section : ℕ → ℕ → ℕ
  pub common : ℕ → ℕ
  pub slot : Target → ℕ
  pub stub : ℕ → ℕ
  -- the thread-local template
  pub template : Option Range64

-- the address of a target by what is looked up, where it is in the image, or its value; 0 for an import, which is elsewhere
abbrev pub address_in : Look → Target → ℕ
address_in look (target.Section file section offset) = look.section file section + offset
address_in look (target.Common id) = look.common id
address_in look target.Base = look.base
address_in look (target.Absolute value) = value
address_in look (target.Import id) = 0
address_in look target.None = 0

-- the same as a number of 64 bits: of what is looked up only the sum may be more, which is taken modulo 2 ^ 64
abbrev pub wrapped_in : Look → Target → ℕ
wrapped_in look (target.Section file section offset) = (look.section file section + offset) % 2 ^ 64
wrapped_in look (target.Common id) = look.common id
wrapped_in look target.Base = look.base
wrapped_in look (target.Absolute value) = value
wrapped_in look (target.Import id) = 0
wrapped_in look target.None = 0

-- the address of the stub of an import, 0 where it has none
unfoldable pub stub_address : Placed → ℕ → ℕ
stub_address p id = of_first 0 (λ s. s.address) (filter (λ s. s.import == id) p.stubs)

-- The look-ups tell the addresses of a placement.
pub record TellsAddresses (p : Placed) (look : Look) : Type 0 where
  pub base : look.base ≡ p.base
  pub sections : (file section : ℕ) → look.section file section ≡ section_address p file section
  pub commons : (id : ℕ) → look.common id ≡ common_address p id
  pub slots : (t : Target) → look.slot t ≡ slot_address p t
  pub stubs : (id : ℕ) → look.stub id ≡ stub_address p id
  pub template : look.template ≡ p.template

-- The look-ups tell of a link and a placement of it.
pub record Tells (l : Link) (p : Placed) (look : Look) : Type 0 where
  pub addresses : TellsAddresses p look
  pub targets : (file symbol : ℕ) → symbol < num_symbols (object_of l file)
      → look.target file symbol ≡ target_of l (record { file = file; symbol = symbol })
  pub in_template : (q : PlacedSection) → Contains p.sections q → look.in_template q.file q.section ≡ is_template (header_at l (id_of q))
  pub own : (id addend : ℕ) → look.own id addend ≡ own_number l id addend

-- a target has its place: its section or its common is placed
abbrev pub IsThere : Placed → Target → Type 0
IsThere p (target.Section file section offset) = (q : PlacedSection) × Contains p.sections q × (q.file ≡ file) × (q.section ≡ section)
IsThere p (target.Common id) = (c : PlacedCommon) × Contains p.commons c × (c.id ≡ id)
IsThere p t = Unit {0}

-- a target has a slot, an import its stub
abbrev pub HasSlot : Placed → Target → Type 0
HasSlot p t = (s : Slot) × Contains p.slots s × (s.target ≡ t)

abbrev pub HasStub : Placed → Target → Type 0
HasStub p t = (s : Stub) × Contains p.stubs s × (target.Import s.import ≡ t)

-- Each thing that is placed has one address.
pub record IsPlacedOnce (p : Placed) : Type 0 where
  pub sections : (q : PlacedSection) → Contains p.sections q → section_address p q.file q.section ≡ q.address
  pub commons : (c : PlacedCommon) → Contains p.commons c → common_address p c.id ≡ c.address
  pub slots : (s : Slot) → Contains p.slots s → slot_address p s.target ≡ s.address
  pub stubs : (s : Stub) → Contains p.stubs s → stub_address p s.import ≡ s.address

-- a relocation of a carried section that leads somewhere: an addend names nothing
pub record Leads (l : Link) (s : SectionId) (r : ℕ) : Type 0 where
  pub carried : Contains (carried_of l) s
  pub among : r < (header_at l s).nreloc
  pub no_addend : ((relocation_in l s r).r_type == ARM64_RELOC_ADDEND) ≡ false

-- Whatever the relocations of carried sections lead to has its place.
pub record IsFound (l : Link) (p : Placed) : Type 0 where
  pub once : IsPlacedOnce p
  pub targets : (s : SectionId) (r : ℕ) → Leads l s r → IsThere p (target_of_relocation l s r)
  pub slots : (s : SectionId) (r : ℕ) → Contains (carried_of l) s → r < (header_at l s).nreloc
      → IfSome (slot_of_relocation (relocation_in l s r).r_type (target_of_relocation l s r)) (HasSlot p)
  pub stubs : (s : SectionId) (r : ℕ) → Contains (carried_of l) s → r < (header_at l s).nreloc
      → IfSome (stub_of_relocation (relocation_in l s r).r_type (target_of_relocation l s r)) (HasStub p)
  pub aligned : (s : Slot) → Contains p.slots s → s.address % 8 ≡ 0
  pub template : (q : PlacedSection) → Contains p.sections q → is_template (header_at l (id_of q)) ≡ true → is_some p.template ≡ true
