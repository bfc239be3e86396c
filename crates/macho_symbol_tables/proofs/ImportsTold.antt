-- The imports are told by their names and the numbers of their libraries.
use Rattle.std.proofs.Common.{◌≡◌, ℕ, ◌<◌, List, [], ◌∷◌, map, length, get_or, sym, ap, ◌∙◌, arith}
use Rattle.std.specs.Prelude.{Option, Some}
use Rattle.std.proofs.lemmas.List.{ext_get_or, get_or-map, length-map}
use Rattle.macho_model.specs.Links.{Link}
use Rattle.macho_model.specs.Needs.{imports_of, import_library, libraries_needed}
use Rattle.macho_model.specs.steps.Resolved.{library_file}
use Rattle.macho_model.specs.Resolution.{Definition, Library, definition_of, library_name}
use Rattle.macho_model.specs.Exports.{library_number}
use Rattle.macho_model.specs.Told.{ToldImport, imports_told}
use Rattle.macho_symbols.specs.declared.solved.Import.{Import}
use Rattle.macho_symbols.specs.Told.{ImportsAre}
use Rattle.macho_symbol_tables.specs.steps.Says.{number_in, told_in}

-- an import of the link as it is told
abbrev told_for : Link → List ℕ → ToldImport
told_for l name = record { library = library_number l (import_library l name); name = name }

first : (n : ℕ) (xs : List Import) → n < length xs → Import
first n (x ∷ xs) lt = x
first n [] lt = absurd (omega (arith, lt))

one : (l : Link) (libraries : List (List ℕ)) (text : List ℕ) (i : Import) → libraries ≡ libraries_needed l
    → (i.name.items ≡ text) × (definition_of l text ≡ Some (Library i.file)) × (i.library.items ≡ library_name l i.file)
    → told_in libraries i ≡ told_for l text
one l libraries text i are (named, defined, library) =
    let bound : i.library.items ≡ import_library l text =
    library ∙ sym (ap (λ (d : Option Definition). library_name l (library_file d)) defined) in
    ap (λ (t : List ℕ). told_with (number_in libraries t) i.name.items) bound
    ∙ ap (λ (ls : List (List ℕ)). told_with (number_in ls (import_library l text)) i.name.items) are
    ∙ ap (told_with (library_number l (import_library l text))) named
  where
    told_with : ℕ → List ℕ → ToldImport
    told_with library name = record { library = library; name = name }

pub all_imports : (l : Link) (imports : List Import) (libraries : List (List ℕ)) → ImportsAre l (imports_of l) imports
    → libraries ≡ libraries_needed l → map (told_in libraries) imports ≡ imports_told l
unfolding imports_told
all_imports l imports libraries are needed =
    ext_get_or d (map (told_in libraries) imports) (map (told_for l) (imports_of l))
    (omega (arith, length-map imports (told_in libraries), length-map (imports_of l) (told_for l), are.long))
    (λ k lt. at k (omega (arith, lt, length-map imports (told_in libraries))))
  where
    d : ToldImport
    d = record { library = 0; name = [] }

    at : (k : ℕ) → k < length imports → get_or (map (told_in libraries) imports) k d ≡ get_or (map (told_for l) (imports_of l)) k d
    at k lt =
        let i : Import = get_or imports k (first k imports lt) in
        get_or-map (told_in libraries) imports k (first k imports lt) d lt
        ∙ one l libraries (get_or (imports_of l) k []) i needed (are.each k (first k imports lt) lt)
        ∙ sym (get_or-map (told_for l) (imports_of l) k [] d (omega (arith, lt, are.long)))
