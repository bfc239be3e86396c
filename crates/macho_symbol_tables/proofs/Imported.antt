-- Imports by their numbers: each is of its name, and of the library that the name is bound to.
use Rattle.std.proofs.Common.{◌≡◌, ℕ, ◌<◌, true, List, [], length, get_or, ◌∷◌, refl, sym, ap, subst, ◌∙◌, arith, Contains}
use Rattle.std.specs.Prelude.{Option, Some}
use Rattle.std.specs.Str.{bytes_eq}
use Rattle.std.proofs.lemmas.List.{get_or-map}
use Rattle.std.proofs.lemmas.List.Sums.{passes_at_first}
use Rattle.std.proofs.lemmas.Slice.Eq.{bytes_eq-Decides}
use Rattle.std.specs.List.{position_or_len}
use Rattle.macho_model.specs.Links.{Link}
use Rattle.macho_model.specs.Needs.{imports_of, import_library}
use Rattle.macho_model.specs.steps.Resolved.{library_file}
use Rattle.macho_model.specs.Resolution.{Definition, Library, definition_of, library_name}
use Rattle.macho_symbols.specs.declared.solved.Import.{Import}
use Rattle.macho_symbols.specs.Told.{ImportsAre}
use Rattle.macho_symbol_tables.specs.steps.Says.{library_at}
use Rattle.macho_bytes.proofs.Members.{position_below}

-- An import by its number.
pub record IsImported (l : Link) (imports : List Import) (name : List ℕ) (id : ℕ) : Type 0 where
  pub below : id < length imports
  pub file : ℕ
  pub defined : definition_of l name ≡ Some (Library file)
  pub library : library_at imports id ≡ import_library l name

-- the import of a number
pub imported_at : (l : Link) (imports : List Import) (id : ℕ) → ImportsAre l (imports_of l) imports → id < length imports
    → IsImported l imports (get_or (imports_of l) id []) id
imported_at l imports id are below =
    by (get_or imports id (first imports below)) (are.each id (first imports below) below)
    (get_or-map (λ (i : Import). i.library.items) imports id (first imports below) [] below)
  where
    first : (xs : List Import) → id < length xs → Import
    first (x ∷ xs) lt = x
    first [] lt = absurd (omega (arith, lt))

    by : (i : Import) → (i.name.items ≡ get_or (imports_of l) id [])
        × (definition_of l (get_or (imports_of l) id []) ≡ Some (Library i.file)) × (i.library.items ≡ library_name l i.file)
        → library_at imports id ≡ i.library.items → IsImported l imports (get_or (imports_of l) id []) id
    by i (named, defined, library) at = record {
      below = below;
      file = i.file;
      defined = defined;
      library = at ∙ library ∙ sym (ap (λ (d : Option Definition). library_name l (library_file d)) defined);
    }

-- the import of a name that is among them
pub imported : (l : Link) (imports : List Import) (name : List ℕ) → ImportsAre l (imports_of l) imports → Contains (imports_of l) name
    → IsImported l imports name (position_or_len (bytes_eq name) (imports_of l))
imported l imports name are among =
    let id = position_or_len (bytes_eq name) (imports_of l) in
    let itself : bytes_eq name name ≡ true = (bytes_eq-Decides name name).1 refl in
    let below : id < length (imports_of l) = position_below (bytes_eq name) (imports_of l) name among itself in
    let is : name ≡ get_or (imports_of l) id [] =
    (bytes_eq-Decides name (get_or (imports_of l) id [])).0 (passes_at_first (bytes_eq name) (imports_of l) [] below) in
    by (get_or (imports_of l) id []) is (imported_at l imports id are (omega (arith, below, are.long)))
  where
    by : (other : List ℕ) → name ≡ other → IsImported l imports other (position_or_len (bytes_eq name) (imports_of l))
        → IsImported l imports name (position_or_len (bytes_eq name) (imports_of l))
    by other same one = subst (λ (n : List ℕ). IsImported l imports n (position_or_len (bytes_eq name) (imports_of l))) (sym same) one
