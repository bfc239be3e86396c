-- The entries of an import list.
--
-- An entry of the loaded list, as an import, stands at the same place; so its names are those of the import of its number.
use Rattle.std.proofs.Common.{◌≡◌, ℕ, ◌-◌, ◌<◌, List, [], map, length, get_or, sym, ap, ◌∙◌, arith}
use Rattle.std.proofs.lemmas.List.{length-map, get_or-map}
use Rattle.macho_loader.specs.Lists.{import_of}
use Rattle.macho_loader.specs.declared.imports.LoadedImport.{LoadedImport}
use Rattle.macho_image_rules.specs.steps.Entries.{no_import, IsEntry}

pub is_entry : (imports : List LoadedImport) (libraries : List (List ℕ)) (number : ℕ) (entry : LoadedImport) (library name : List ℕ)
    → number < length imports → entry ≡ get_or imports number entry → entry.name.now ≡ name
    → get_or libraries (entry.library - 1) [] ≡ library → IsEntry (map import_of imports) libraries number library name
is_entry imports libraries number entry library name low at named of =
    let here = get_or-map import_of imports number entry no_import low ∙ ap import_of (sym at) in
    record {
      among = omega (arith, low, length-map imports import_of);
      library_is = ap (λ i. get_or libraries (i.library - 1) []) here ∙ of;
      name_is = ap (λ i. i.name) here ∙ named;
    }

pub entry_is : (imports : List LoadedImport) (libraries : List (List ℕ)) (number : ℕ) (entry : LoadedImport) (library name : List ℕ)
    → number < length imports → entry ≡ get_or imports number entry → IsEntry (map import_of imports) libraries number library name
    → (entry.name.now ≡ name) × (get_or libraries (entry.library - 1) [] ≡ library)
entry_is imports libraries number entry library name low at has =
    let here = get_or-map import_of imports number entry no_import low ∙ ap import_of (sym at) in
    (sym (ap (λ i. i.name) here) ∙ has.name_is, sym (ap (λ i. get_or libraries (i.library - 1) []) here) ∙ has.library_is)
