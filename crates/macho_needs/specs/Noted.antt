-- What needs hold after some uses: the numbered lists are the model's, of these uses, and each name that was used has a
-- definition.
use Rattle.std.specs.Prelude.{◌≡◌, ℕ, ◌<◌, ◌==◌, ◌&&◌, not, if◌then◌else◌, Bool, true, List, [], ◌∷◌, ◌++◌, Option, Some, None, All}
use Rattle.std.specs.List.{filter_map}
use Rattle.macho_wire.specs.declared.relocations.RelocationInfo.{RelocationInfo}
use Rattle.macho_records.specs.declared.constants.TheConstants.{ARM64_RELOC_ADDEND}
use Rattle.macho_model.specs.declared.targets.Target.{Target}
use Rattle.macho_model.specs.declared.targets.Target.TheVariants as target
use Rattle.macho_model.specs.Objects.{num_sections}
use Rattle.macho_model.specs.Links.{Link, SectionId, object_of, header_at}
use Rattle.macho_model.specs.Resolution.{SymbolId}
use Rattle.macho_model.specs.Needs.{relocation_in, distinct}
use Rattle.macho_model.specs.Uses.{Use, ByRelocation, ByInitializer, ByPersonality, ByName, symbol_used}
use Rattle.macho_model.specs.Targets.{target_of_relocation}
use Rattle.macho_model.specs.Fields.{field_of}
use Rattle.macho_model.specs.Fixups.{EntryOfImport, same_entry, own_entry}
use Rattle.macho_model.specs.Values.{is_pointer}
use Rattle.macho_symbols.specs.Kept.{ResolvedRows, IsResolved, HasSymbol}
use Rattle.macho_symbols.specs.Told.{IsDefined}
use Rattle.macho_object.specs.Views.{FileBytes}
use Rattle.macho_promise.specs.Noted.{BeginsWith, Needed, imports_in, slots_in, stubs_in}
use Rattle.macho_needs.specs.declared.needs.Needs.{Needs}

-- what a relocation leads to; an addend leads nowhere
abbrev pub referent : Link → SectionId → ℕ → Target
referent l s r = if (relocation_in l s r).r_type == ARM64_RELOC_ADDEND then target.None else target_of_relocation l s r

-- the addend of a relocation that is a pointer of 8 bytes
abbrev pub pointer_of : Link → SectionId → ℕ → Option ℕ
pointer_of l s r = if is_pointer (field_of l s r) then Some (field_of l s r).addend else None

-- the import entry of its own that a use needs
abbrev pub own_of_use : Link → Use → Option EntryOfImport
own_of_use l (ByRelocation s r) = own_entry (is_pointer (field_of l s r)) (field_of l s r).target (field_of l s r).addend
own_of_use l (ByInitializer s r) = None
own_of_use l (ByPersonality s r) = None
own_of_use l (ByName name) = None

-- the entries that pointers among some uses need of their own, each by first need
unfoldable pub own_in : Link → List Use → List EntryOfImport
own_in l us = distinct same_entry (filter_map (own_of_use l) us)

-- the symbol that is used has a definition, where it is global
abbrev pub IsFound : Link → Use → Type 0
IsFound l u = (s : SymbolId) → symbol_used l u ≡ Some s → IsDefined l s

-- THE needs of some uses.
pub record IsNoted (l : Link) (us : List Use) (n : Needs) : Type 0 where
  pub imports : IsResolved l (imports_in l us) n.resolved
  pub slots : n.tables.slots ≡ slots_in l us
  pub stubs : n.tables.stubs ≡ stubs_in l us
  pub own : n.tables.own ≡ own_in l us
  pub found : All (IsFound l) us

-- the lists, of all uses
abbrev pub needed_of : Needs → Needed
needed_of n = record { imports = n.resolved.noted; slots = n.tables.slots; stubs = n.tables.stubs; own = n.tables.own }

-- a use comes next in the walk
abbrev pub IsNext : Link → List Use → Use → Type 0
IsNext l us u = BeginsWith l (us ++ u ∷ [])

-- a relocation names a symbol
abbrev pub names_symbol : RelocationInfo → Bool
names_symbol rel = rel.r_extern && not (rel.r_type == ARM64_RELOC_ADDEND)

-- the symbol that a relocation names, if it names one, is one of a file of the link
abbrev pub HasReferent : ResolvedRows → ℕ → RelocationInfo → Type 0
HasReferent rows file rel = names_symbol rel ≡ true → HasSymbol rows file rel.r_symbolnum

-- A relocation is that of a number in the table of a section of an object.
pub record IsRelocationOf (l : Link) (s : SectionId) (r : ℕ) (object : FileBytes) (rel : RelocationInfo) : Type 0 where
  pub object_is : object_of l s.file ≡ object.bytes
  pub section : s.section < num_sections object.bytes
  pub number : r < (header_at l s).nreloc
  pub is : rel ≡ relocation_in l s r
