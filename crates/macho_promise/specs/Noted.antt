-- What is noted on the walk over what the objects ask for: imports, slots, stubs and import entries of their own, each numbered by first
-- need. After some uses the lists are the model's, of these uses.
use Rattle.std.specs.Prelude.{◌≡◌, ℕ, List, ◌++◌, filter}
use Rattle.std.specs.List.{flat_map, filter_map}
use Rattle.std.specs.Str.{bytes_eq}
use Rattle.macho_model.specs.declared.targets.Target.{Target}
use Rattle.macho_model.specs.Links.{Link, carried_of}
use Rattle.macho_model.specs.Needs.{is_imported, distinct, initializer_sections, unwind_sections, imports_of}
use Rattle.macho_model.specs.Uses.{Use, uses_of, name_used, carried_uses, initializer_uses, personality_uses, slot_of_use, stub_of_use}
use Rattle.macho_model.specs.Targets.{same_target, slots_of, stubs_of}
use Rattle.macho_model.specs.Fixups.{EntryOfImport, own_entries}

-- the walk begins with these uses
pub record BeginsWith (l : Link) (us : List Use) : Type 0 where
  pub rest : List Use
  pub is : uses_of l ≡ us ++ rest

-- the imported names, the targets with a slot and the imports with a stub, of some uses, each by first need
unfoldable pub imports_in : Link → List Use → List (List ℕ)
imports_in l us = distinct bytes_eq (filter (is_imported l) (filter_map (name_used l) us))

unfoldable pub slots_in : Link → List Use → List Target
slots_in l us = distinct same_target (filter_map (slot_of_use l) us)

unfoldable pub stubs_in : Link → List Use → List Target
stubs_in l us = distinct same_target (filter_map (stub_of_use l) us)

-- the uses of the carried sections, of initializers and of personalities
unfoldable pub uses_of_carried : Link → List Use
uses_of_carried l = flat_map (carried_uses l) (carried_of l)

unfoldable pub uses_of_initializers : Link → List Use
uses_of_initializers l = flat_map (initializer_uses l) (initializer_sections l)

unfoldable pub uses_of_personalities : Link → List Use
uses_of_personalities l = flat_map (personality_uses l) (unwind_sections l)

-- What a link needs, whole: numbers of imports, slots, stubs and import entries are places in these lists.
pub record Needed : Type 0 where
  pub imports : List (List ℕ)
  pub slots : List Target
  pub stubs : List Target
  pub own : List EntryOfImport

-- THE needs of a link.
pub record AreNeeds (l : Link) (n : Needed) : Type 0 where
  pub imports : n.imports ≡ imports_of l
  pub slots : n.slots ≡ slots_of l
  pub stubs : n.stubs ≡ stubs_of l
  pub own : n.own ≡ own_entries l
