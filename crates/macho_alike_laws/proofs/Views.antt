-- Two links that agree in what they see of inputs agree in each definition that is a function: in what names are defined as, in what
-- objects need, in the parts of an image and in the sizes of tables. Each is rewritten by those that it rests on.
use Rattle.std.proofs.Common.{◌≡◌, ℕ, List, Option, Some, None, refl}
use Rattle.macho_model.specs.Links.{Link, SectionId, carried_of, template_exponent, placed_exponent}
use Rattle.macho_model.specs.Resolution.{SymbolId, Definition, Symbol, Library, name_at, ImageBase, strong_of, commons_of, greatest_of, definition_of, chosen_commons}
use Rattle.macho_model.specs.Needs.{relocations_in_records, is_imported, initializer_sections, unwind_sections, carried_relocations, initializer_relocations, personality_relocations, imports_of, import_library, libraries_needed}
use Rattle.macho_model.specs.Targets.{own_target, definition_target, target_of_name, target_of, target_of_relocation, needs_slot, slots_of, stubs_of}
use Rattle.macho_alike_laws.proofs.Inputs.{Agree}

-- functions that are equal at each argument are equal
pub each_same : {A : Type 0} {B : Type 0} {f g : A → B} → ((x : A) → f x ≡ g x) → f ≡ g
each_same same = λ i x. same x i

module _ (l m : Link) (same : Agree l m) where
  -- the carried sections
  pub carried : carried_of l ≡ carried_of m
  unfolding carried_of
  carried = simp (same.object, same.sections)

  template : template_exponent l ≡ template_exponent m
  unfolding template_exponent
  template = simp (same.object, same.sections)

  -- the alignment that a section is placed at
  pub exponent : (s : SectionId) → placed_exponent l s ≡ placed_exponent m s
  unfolding placed_exponent
  exponent s = simp (same.object, template)

  -- ---- names

  -- the strong definitions of a name
  pub strong : (name : List ℕ) → strong_of l name ≡ strong_of m name
  unfolding strong_of
  strong name = simp (same.object, same.symbols)

  commons_with : (name : List ℕ) → commons_of l name ≡ commons_of m name
  unfolding commons_of
  commons_with name = simp (same.object, same.symbols)

  greatest_with : (name : List ℕ) → greatest_of l name ≡ greatest_of m name
  unfolding greatest_of
  greatest_with name = simp (same.object, commons_with)

  -- THE definition of a name: the lists that it is the first of are the same
  pub definition : (name : List ℕ) → definition_of l name ≡ definition_of m name
  unfolding definition_of
  definition name = simp (same.object, same.symbols, strong, greatest_with, same.offering)

  -- the chosen commons
  pub commons : chosen_commons l ≡ chosen_commons m
  unfolding chosen_commons
  commons = simp (same.object, same.symbols, definition)

  -- ---- needs

  -- the sections of initializers, and of unwind entries
  pub initializer_parts : initializer_sections l ≡ initializer_sections m
  unfolding initializer_sections
  initializer_parts = simp (same.object, same.sections)

  pub unwind_parts : unwind_sections l ≡ unwind_sections m
  unfolding unwind_sections
  unwind_parts = simp (same.object, same.sections)

  -- the relocations of carried sections, of initializers and of personalities
  pub relocations : carried_relocations l ≡ carried_relocations m
  unfolding carried_relocations
  relocations = simp (same.object, carried)

  in_records : (size place : ℕ) → relocations_in_records l size place ≡ relocations_in_records m size place
  in_records size place = each_same (λ s. simp same.object)

  pub initializer_uses : initializer_relocations l ≡ initializer_relocations m
  unfolding initializer_relocations
  initializer_uses = simp (in_records, initializer_parts)

  pub personality_uses : personality_relocations l ≡ personality_relocations m
  unfolding personality_relocations
  personality_uses = simp (in_records, unwind_parts)

  -- the names of symbols
  pub names : name_at l ≡ name_at m
  names = each_same (λ s. simp same.object)

  imported : is_imported l ≡ is_imported m
  imported = each_same (λ name. simp definition)

  -- THE imports: the used names that libraries define
  pub imports : imports_of l ≡ imports_of m
  unfolding imports_of
  imports = simp (same.object, same.lists, imported, names, relocations, initializer_uses, personality_uses)

  -- the library that an import is bound to
  pub library_with : (name : List ℕ) → import_library l name ≡ import_library m name
  library_with name = simp (definition, same.library)

  -- the libraries needed: the install names of inputs are the same
  pub libraries : libraries_needed l ≡ libraries_needed m
  unfolding libraries_needed
  libraries = simp (same.dead_strip, same.names, imports, definition, same.library)

  -- ---- targets

  own : (s : SymbolId) → own_target l s ≡ own_target m s
  own s = simp (same.object, commons)

  -- what a definition leads to
  pub defined : (noted : List (List ℕ)) (name : List ℕ) (d : Option Definition)
      → definition_target l noted name d ≡ definition_target m noted name d
  defined noted name None = refl
  defined noted name (Some (Symbol s)) = own s
  defined noted name (Some (Library file)) = refl
  defined noted name (Some ImageBase) = refl

  -- what a name leads to
  pub named : (name : List ℕ) → target_of_name l name ≡ target_of_name m name
  named name = simp (imports, definition, defined)

  -- what a symbol leads to
  pub target_at : (s : SymbolId) → target_of l s ≡ target_of m s
  unfolding target_of
  target_at s = simp (same.object, named, commons)

  targets : target_of l ≡ target_of m
  targets = each_same target_at

  -- what a relocation leads to
  pub relocated : (s : SectionId) (r : ℕ) → target_of_relocation l s r ≡ target_of_relocation m s r
  unfolding target_of_relocation
  relocated s r = simp (same.object, targets)

  needs : needs_slot l ≡ needs_slot m
  needs = each_same (λ u. simp (same.object, relocated))

  -- the targets with a slot
  pub slots : slots_of l ≡ slots_of m
  unfolding slots_of
  slots = simp (needs, relocations, personality_uses, relocated)

  -- the imports with a stub
  pub stubs : stubs_of l ≡ stubs_of m
  unfolding stubs_of
  stubs = simp (same.object, relocations, relocated)
