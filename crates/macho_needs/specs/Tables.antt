-- Tables of slots, stubs and import entries of their own: lists in which each element stands once, at its number.
use Rattle.std.specs.Prelude.{ℕ, Bool, true, List, [], Option, Some, None, position}
use Rattle.indexmap.specs.IndexSet.{insert_key}
use Rattle.macho_model.specs.declared.targets.Target.{Target}
use Rattle.macho_model.specs.declared.targets.Target.TheVariants as target
use Rattle.macho_model.specs.Fixups.{EntryOfImport, own_entry}
use Rattle.macho_needs.specs.declared.keys.SlotKey.{SlotKey}
use Rattle.macho_needs.specs.declared.keys.SlotKey.TheVariants.{Section, Common, Import, Base, Absolute, Nothing}

-- What is numbered beside imports, each by its place.
pub record Numbered : Type 0 where
  -- the targets that have a slot
  pub slots : List Target
  -- the imports that have a stub
  pub stubs : List Target
  -- the import entries that pointers need of their own
  pub own : List EntryOfImport

abbrev pub no_tables : Numbered
no_tables = record { slots = []; stubs = []; own = [] }

-- the target that a key of a slot stands for
abbrev pub target_of : SlotKey → Target
target_of (Section file section offset) = target.Section file section offset
target_of (Common id) = target.Common id
target_of (Import id) = target.Import id
target_of Base = target.Base
target_of (Absolute value) = target.Absolute value
target_of Nothing = target.None

-- a list with an element put last that it lacks, if there is one
abbrev pub with_some : {X : Type 0} → (X → X → Bool) → List X → Option X → List X
with_some same xs None = xs
with_some same xs (Some x) = insert_key same xs x

-- the number of an element, where it is there
abbrev pub number_of : {X : Type 0} → (X → X → Bool) → List X → X → Option ℕ
number_of same xs x = position (same x) xs

-- the entry that a pointer to a target needs of its own
abbrev pub own_of_pointer : Target → Option ℕ → Option EntryOfImport
own_of_pointer t None = None
own_of_pointer t (Some addend) = own_entry true t addend
