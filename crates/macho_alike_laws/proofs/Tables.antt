-- Two links that agree in what they see of inputs agree in the tables of an image, in its head, and in each test of what objects ask for.
use Rattle.std.proofs.Common.{◌≡◌, ℕ, ◌+◌, ◌++◌, List, [], ◌∷◌, map, length, Option, Some, None, refl}
use Rattle.std.specs.List.{flat_map}
use Rattle.macho_model.specs.declared.targets.Target.{Target}
use Rattle.macho_model.specs.declared.targets.Target.TheVariants as target
use Rattle.macho_model.specs.declared.targets.Limit.{Limit}
use Rattle.macho_model.specs.declared.targets.Limit.TheVariants as limit
use Rattle.macho_model.specs.declared.placed.Counts.{Counts}
use Rattle.macho_model.specs.Links.{Link, SectionId}
use Rattle.macho_model.specs.Resolution.{SymbolId}
use Rattle.macho_model.specs.Needs.{import_library}
use Rattle.macho_model.specs.Consumed.{EntryId}
use Rattle.macho_model.specs.Stands.{is_in_template, is_template_offset}
use Rattle.macho_model.specs.Fields.{Field}
use Rattle.macho_model.specs.Values.{needs_fixup}
use Rattle.macho_model.specs.Placement.{Placed}
use Rattle.macho_model.specs.ImportTable.{fixup_count, names_text}
use Rattle.macho_model.specs.Exports.{library_number}
use Rattle.macho_model.specs.Told.{imports_told}
use Rattle.macho_model.specs.Head.{commands_for, head_for}
use Rattle.macho_model.specs.SymbolEntries.{entry_of_symbol, placed_entries, symbol_entries, strings_text}
use Rattle.macho_model.specs.Zeros.{contents_of}
use Rattle.macho_model.specs.Limits.{limited}
use Rattle.macho_model.specs.Rows.{is_supported}
use Rattle.macho_promise.specs.FixupsSay.{entry_row}
use Rattle.macho_promise.specs.UnwindSays.{start_of, moved, resolved, resolved_entries}
use Rattle.macho_alike_laws.proofs.Inputs.{Agree}
use Rattle.macho_alike_laws.proofs.Views as views
use Rattle.macho_alike_laws.proofs.Parts as parts
use Rattle.macho_alike_laws.proofs.Views.{each_same}

module _ (l m : Link) (same : Agree l m) where
  -- ---- pointers

  -- a target lies in the thread-local template
  pub in_template : (t : Target) → is_in_template l t ≡ is_in_template m t
  in_template (target.Section file section offset) = simp same.object
  in_template (target.Common id) = refl
  in_template (target.Import id) = refl
  in_template target.Base = refl
  in_template (target.Absolute value) = refl
  in_template target.None = refl

  -- a pointer is an offset from the template
  pub offset : (s : SectionId) (f : Field) → is_template_offset l s f ≡ is_template_offset m s f
  offset s f = simp (same.object, in_template)

  fixed : (s : SectionId) → needs_fixup l s ≡ needs_fixup m s
  fixed s = each_same (λ f. simp (same.object, in_template))

  -- how many words the loader writes
  pub fixups_counted : fixup_count l ≡ fixup_count m
  unfolding fixup_count
  fixups_counted = simp (views.slots l m same, views.carried l m same, fixed, parts.fields l m same)

  -- ---- the import table

  number : (library : List ℕ) → library_number l library ≡ library_number m library
  number library = simp (views.libraries l m same)

  -- the names of the imports, as they are written
  pub names_said : names_text l ≡ names_text m
  unfolding names_text
  names_said = simp (views.imports l m same)

  -- the library of an import, and its number
  pub library_of : import_library l ≡ import_library m
  library_of = each_same (views.library_with l m same)

  pub numbered : library_number l ≡ library_number m
  numbered = each_same number

  -- what is told of imports
  pub told : imports_told l ≡ imports_told m
  unfolding imports_told
  told = λ i. map (λ name. record { library = numbered i (library_of i name); name = name }) (views.imports l m same i)

  -- an entry of the import table as it is written
  pub import_row : entry_row l ≡ entry_row m
  import_row =
      each_same (λ e. simp (
        views.libraries l m same,
        views.imports l m same,
        views.definition l m same,
        same.library,
        parts.have_addends l m same,
      ))

  -- ---- the head

  -- the load commands
  pub commands : (counts : Counts) (p : Placed) (uuid : List ℕ) (trie : ℕ)
      → commands_for l counts p uuid trie ≡ commands_for m counts p uuid trie
  unfolding commands_for
  commands counts p uuid trie =
      simp (
        same.executable,
        same.versions,
        same.install_name,
        same.rpaths,
        same.entry,
        views.libraries l m same,
        views.imports l m same,
        views.definition l m same,
        views.defined l m same,
      )

  -- the head of the file
  pub head : (p : Placed) (commands : List (List ℕ)) → head_for l p commands ≡ head_for m p commands
  unfolding head_for
  head p commands = simp same.executable

  -- ---- symbols

  entry : (counts : Counts) (p : Placed) (place : ℕ) (s : SymbolId)
      → entry_of_symbol l counts p place s ≡ entry_of_symbol m counts p place s
  entry counts p place s = simp (same.object, same.lists, views.commons l m same, parts.output_sections l m same)

  entries_from : (counts : Counts) (p : Placed) (place : ℕ) (ss : List SymbolId)
      → placed_entries l counts p place ss ≡ placed_entries m counts p place ss
  entries_from counts p place [] = refl
  entries_from counts p place (s ∷ ss) =
      λ i. entry counts p place s i ∷ (entries_from counts p (place + (length (views.names l m same i s) + 1)) ss i)

  -- the entries of the symbol table, and the names of its string table
  pub entries : (counts : Counts) (p : Placed) → symbol_entries l counts p ≡ symbol_entries m counts p
  unfolding symbol_entries
  entries counts p = λ i. entries_from counts p 1 (parts.table l m same i) i

  pub strings : strings_text l ≡ strings_text m
  unfolding strings_text
  strings = λ i. 0 ∷ flat_map (λ s. views.names l m same i s ++ 0 ∷ []) (parts.table l m same i)

  -- ---- unwind information

  started : (p : Placed) (d : EntryId) (r : Option ℕ) → start_of l p d r ≡ start_of m p d r
  started p d (Some r) = simp same.object
  started p d None = refl

  moves : (p : Placed) (d : EntryId) (address : ℕ) → moved l p d address ≡ moved m p d address
  moves p d address = each_same (λ r. simp same.object)

  one_resolved : (p : Placed) → resolved l p ≡ resolved m p
  one_resolved p =
      each_same (λ d. simp (moves, same.object, started, views.slots l m same, views.relocated l m same))

  -- the unwind entries at their final addresses
  pub resolved_same : (p : Placed) → resolved_entries l p ≡ resolved_entries m p
  unfolding resolved_entries
  resolved_same p = simp (one_resolved, parts.entries l m same)

  -- ---- what has content, and limits

  -- the ranges of the file that have content
  pub contents : (b : List ℕ) (p : Placed) (unwind : ℕ) → contents_of l b p unwind ≡ contents_of m b p unwind
  unfolding contents_of
  contents b p unwind = simp (same.object, names_said)

  -- a number that has a limit
  pub limits : (counts : Counts) (what : Limit) → limited l counts what ≡ limited m counts what
  limits counts limit.Segments = simp (parts.segments l m same)
  limits counts limit.Libraries = simp (views.libraries l m same)
  limits counts limit.Sections = simp (parts.sections_count l m same)
  limits counts limit.Personalities = simp (parts.personalities l m same)
  limits counts limit.Imports = refl
  limits counts limit.NameBytes = refl
  limits counts limit.Symbols = simp (same.symbols, same.lists)
  limits counts limit.Pages = refl

  -- whether a relocation is supported
  pub supported : (s : SectionId) (r : ℕ) → is_supported l s r ≡ is_supported m s r
  unfolding is_supported
  supported s r = simp (same.object, views.relocated l m same)
