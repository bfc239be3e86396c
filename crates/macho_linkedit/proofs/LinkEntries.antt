-- The import table that is made, in the words of a link.
--
-- The names are those of the link's imports, place by place, so the bytes in front of a name are the same; the first place of
-- a library's name among the libraries that the link needs is the library's number less 1. Entries of imports come first, as
-- they do in the link's list; the own ones stand behind them in the link's order.
use Rattle.std.proofs.Common.{◌≡◌, ℕ, ◌+◌, ◌-◌, ◌^◌, ◌<◌, ◌==◌, if◌then◌else◌, Bool, true, false, List, [], ◌∷◌, ◌++◌, map, take, length, get_or, refl, sym, ap, subst, ◌∙◌, arith, inl, inr, ◌⊎◌, Option, Vec, Global, pos}
use Rattle.std.specs.Prelude.{All, sum_by}
use Rattle.std.specs.Str.{bytes_eq}
use Rattle.std.specs.List.{flat_map, position_or_len, range_with_len}
use Rattle.std.proofs.Math.Seq.{take-length}
use Rattle.std.proofs.lemmas.Bool.{cases_lt}
use Rattle.std.proofs.lemmas.Bool.Decides.{nat_tests}
use Rattle.std.proofs.lemmas.List.{get_or_append_left, get_or-append-add, get_or-map, length-map, length-append, take-map, ext_get_or}
use Rattle.std.proofs.lemmas.List.Folds.{flat_map-map}
use Rattle.std.proofs.lemmas.List.FromFn.{get_or-map-range_with_len, length-map-range_with_len}
use Rattle.std.proofs.lemmas.List.Sums.{sum_by-cons}
use Rattle.macho_model.specs.Links.{Link}
use Rattle.macho_model.specs.Resolution.{Definition, library_name}
use Rattle.macho_model.specs.Needs.{imports_of, import_library}
use Rattle.macho_model.specs.steps.Resolved.{library_file}
use Rattle.macho_model.specs.Exports.{library_number}
use Rattle.macho_model.specs.Fixups.{EntryOfImport, own_entries, import_entries_of, entries_have_addends, import_format}
use Rattle.macho_model.specs.ImportTable.{names_text, name_place, entry_of_link}
use Rattle.macho_symbols.specs.declared.solved.Import.{Import}
use Rattle.macho_symbols.specs.Told.{ImportsAre, IsImportOf}
use Rattle.macho_fixups.specs.declared.imports.ImportEntry.{ImportEntry}
use Rattle.macho_fixups.specs.Calls.{AreEntries}
use Rattle.macho_symbols.specs.declared.solved.OwnEntry.{OwnEntry}
use Rattle.macho_linkedit.specs.Imports.{FitTable, AreOfLink, IsEntryFor, AreEntriesOf, IsImportTable, texts}
use Rattle.macho_symbols.specs.Entries.{entry_of}
use Rattle.macho_linkedit.specs.steps.Entries.{names_of, plain_at}
use Rattle.macho_linkedit.proofs.Entries.{AreMade, entries_many, plain_there, some_import, IsOwnEntry, own_there, names_left}
use Rattle.macho_model.specs.steps.ImportTable.{no_entry}

abbrev name_in : Import → List ℕ
name_in i = i.name.items

-- the names of imports are those of the link
pub named : (l : Link) (imports : List Import) → ImportsAre l (imports_of l) imports → map name_in imports ≡ imports_of l
named l imports are = ext_get_or [] (map name_in imports) (imports_of l) (omega (arith, length-map imports name_in, are.long)) each
  where
    each : (k : ℕ) → k < length (map name_in imports) → get_or (map name_in imports) k [] ≡ get_or (imports_of l) k []
    each k lt = by imports are (omega (arith, length-map imports name_in))
      where
        by : (xs : List Import) → ImportsAre l (imports_of l) xs → k < length xs → get_or (map name_in xs) k [] ≡ get_or (imports_of l) k []
        by [] is inside = absurd (omega arith)
        by (x ∷ xs) is inside = get_or-map name_in (x ∷ xs) k x [] inside ∙ (is.each k x inside).0

-- so are their bytes, and the bytes in front of each
texts_are : (l : Link) (imports : List Import) → ImportsAre l (imports_of l) imports → names_of imports ≡ names_text l
unfolding names_text
texts_are l imports are =
    sym (flat_map-map (λ (name : List ℕ). name ++ 0 ∷ []) name_in imports)
    ∙ ap (λ (names : List (List ℕ)). flat_map (λ (name : List ℕ). name ++ 0 ∷ []) names) (named l imports are)

places_are : (l : Link) (imports : List Import) (k : ℕ) → ImportsAre l (imports_of l) imports → length
    (names_of (take k imports)) ≡ name_place l k
places_are l imports k are =
    ap (λ (x : List ℕ). length x) (sym (flat_map-map (λ (name : List ℕ). name ++ 0 ∷ []) name_in (take k imports)))
    ∙ ap (λ (names : List (List ℕ)). length (flat_map (λ (name : List ℕ). name ++ 0 ∷ []) names))
    (sym (take-map name_in k imports) ∙ ap (take k) (named l imports are))
    ∙ sum_long (take k (imports_of l))
  where
    sum_long : (names : List (List ℕ)) → length (flat_map (λ (name : List ℕ). name ++ 0 ∷ []) names) ≡ sum_by
        (λ name. length name + 1) names
    sum_long [] = refl
    sum_long (x ∷ xs) =
        omega (
          arith,
          length-append (x ++ 0 ∷ []) (flat_map (λ (name : List ℕ). name ++ 0 ∷ []) xs),
          length-append x (0 ∷ []),
          sum_long xs,
          sum_by-cons (λ (name : List ℕ). length name + 1) x xs,
        )

-- the number of an import's library
number_is : (l : Link) (imports : List Import) (own : List OwnEntry) (libraries : List (Vec ℕ Global)) (k : ℕ) (i : Import)
    → AreOfLink l imports own libraries → k < length imports
    → position_or_len (bytes_eq (get_or imports k i).library.items) (texts libraries) + 1 ≡ library_number l
    (import_library l (get_or (imports_of l) k []))
number_is l imports own libraries k i are lt =
    let here : IsImportOf l (get_or (imports_of l) k []) (get_or imports k i) = are.imports_are.each k i lt in
    ap (λ (x : List ℕ). position_or_len (bytes_eq x) (texts libraries) + 1)
    (here.2 ∙ ap (λ (d : Option Definition). library_name l (library_file d)) (sym here.1))
    ∙ ap (λ (xs : List (List ℕ)). position_or_len (bytes_eq (import_library l (get_or (imports_of l) k []))) xs + 1) are.libraries_are

-- the entries of a link, by number
pub plain_of_link : (l : Link) (k : ℕ) → k < length (imports_of l) → entry_of_link l k ≡ record { import = k; addend = 0 }
unfolding import_entries_of
plain_of_link l k lt =
    get_or_append_left (map e (range_with_len 0 (length (imports_of l)))) (own_entries l) no_entry k
    (omega (arith, length-map-range_with_len e 0 (length (imports_of l))))
    ∙ get_or-map-range_with_len e 0 (length (imports_of l)) k k no_entry lt (omega arith)
  where
    e : ℕ → EntryOfImport
    e id = record { import = id; addend = 0 }

pub own_of_link : (l : Link) (j k : ℕ) → k ≡ length (imports_of l) + j → entry_of_link l k ≡ get_or (own_entries l) j no_entry
unfolding import_entries_of
own_of_link l j k at =
    ap (λ (m : ℕ). get_or (map e (range_with_len 0 (length (imports_of l))) ++ own_entries l) m no_entry) place
    ∙ get_or-append-add (map e (range_with_len 0 (length (imports_of l)))) (own_entries l) j no_entry
  where
    e : ℕ → EntryOfImport
    e id = record { import = id; addend = 0 }

    place : k ≡ length (map e (range_with_len 0 (length (imports_of l)))) + j
    place = omega (arith, length-map-range_with_len e 0 (length (imports_of l)))

pub entries_long : (l : Link) → length (import_entries_of l) ≡ length (imports_of l) + length (own_entries l)
unfolding import_entries_of
entries_long l =
    omega (
      arith,
      length-append (map e (range_with_len 0 (length (imports_of l)))) (own_entries l),
      length-map-range_with_len e 0
          (length (imports_of l)),
    )
  where
    e : ℕ → EntryOfImport
    e id = record { import = id; addend = 0 }

-- THE entries.
pub entries_are : (l : Link) (imports : List Import) (own : List OwnEntry) (libraries : List (Vec ℕ Global)) (entries : List ImportEntry)
    (names : List ℕ)
    → FitTable imports own libraries → AreOfLink l imports own libraries → AreMade (texts libraries) imports own entries names
    → AreEntriesOf l entries
entries_are l imports own libraries entries names fit are made = record {
  long = omega (arith, many, entries_long l, own_many, are.imports_are.long);
  each = each;
}
  where
    many : length entries ≡ length imports + length own
    many = entries_many (texts libraries) imports own entries names made

    own_many : length own ≡ length (own_entries l)
    own_many = omega (arith, length-map own entry_of, ap length are.own_are)

    plain : (k : ℕ) (d : ImportEntry) → k < length imports → (i : Import) → IsEntryFor l (record { import = k; addend = 0 })
        (get_or entries k d)
    plain k d lt i =
        subst (λ (e : ImportEntry). IsEntryFor l (record { import = k; addend = 0 }) e)
        (sym (plain_there (texts libraries) imports own entries names k d i made lt))
        (record { library = number_is l imports own libraries k i are lt; place = places_are l imports k are.imports_are; addend = refl })

    special : (k j : ℕ) (d : ImportEntry) (o : OwnEntry) → k ≡ length imports + j → j < length own → (i : Import)
        → IsEntryFor l (entry_of (get_or own j o)) (get_or entries k d)
    special k j d o at lt i =
        let here : IsOwnEntry (texts libraries) imports (get_or own j o) (get_or entries k d)
        = own_there (texts libraries) imports own entries names k j d o made fit.among at lt in
        record {
          library = here.library i ∙ number_is l imports own libraries (get_or own j o).import i are (fit.among j o lt);
          place = here.place ∙ places_are l imports (get_or own j o).import are.imports_are;
          addend = here.addend;
        }

    each : (k : ℕ) (d : ImportEntry) → k < length entries → IsEntryFor l (entry_of_link l k) (get_or entries k d)
    each k d lt =
        elim (cases_lt k (length imports)) [
          | inl first ↦
              subst (λ (e : EntryOfImport). IsEntryFor l e (get_or entries k d))
              (sym (plain_of_link l k (omega (arith, are.imports_are.long))))
              (with_import k first (λ i. plain k d first i))
          | inr past ↦ behind (k - length imports) (omega arith) (omega (arith, many))
        ]
      where
        with_import : {P : Type 0} (k : ℕ) → k < length imports → (Import → P) → P
        with_import {P} k inside f = by imports inside
          where
            by : (xs : List Import) → k < length xs → P
            by [] inside = absurd (omega arith)
            by (x ∷ xs) inside = f x

        behind : (j : ℕ) → k ≡ length imports + j → j < length own → IsEntryFor l (entry_of_link l k) (get_or entries k d)
        behind j at inside =
            subst (λ (e : EntryOfImport). IsEntryFor l e (get_or entries k d)) (sym (own_at j at inside))
            (with_import (get_or own j none).import (fit.among j none inside) (λ i. special k j d none at inside i))
          where
            none : OwnEntry
            none = record { import = 0; addend = 0 }

            own_at : (j : ℕ) → k ≡ length imports + j → j < length own → entry_of_link l k ≡ entry_of (get_or own j none)
            own_at j at inside =
                own_of_link l j k (omega (arith, are.imports_are.long))
                ∙ ap (λ (xs : List EntryOfImport). get_or xs j no_entry) (sym are.own_are)
                ∙ get_or-map entry_of own j none no_entry inside

-- the format of the entries, by whether there are no own ones
abbrev pub format_for : Bool → ℕ
format_for b = if b then 1 else 2

format_is : (l : Link) (own : List OwnEntry) (b : Bool) (format : ℕ) → map entry_of own ≡ own_entries l → b ≡ (length own == 0)
    → format ≡ format_for b → format ≡ import_format l
unfolding entries_have_addends
format_is l own b format are is picked = picked ∙ by b is
  where
    same : length own ≡ length (own_entries l)
    same = omega (arith, length-map own entry_of, ap length are)

    by : (b : Bool) → b ≡ (length own == 0) → format_for b ≡ import_format l
    by true is = let e : length own ≡ length (own_entries l) = same in let none : (length (own_entries l) == 0) ≡ true = grind
        (arith, nat_tests) in rw none refl
    by false is = let e : length own ≡ length (own_entries l) = same in let some : (length (own_entries l) == 0) ≡ false = grind
        (arith, nat_tests) in rw some refl

-- THE table.
pub table_is : (l : Link) (imports : List Import) (own : List OwnEntry) (libraries : List (Vec ℕ Global)) (entries : List ImportEntry)
    (names : List ℕ)
    (b : Bool) (format : ℕ) → FitTable imports own libraries → AreMade (texts libraries) imports own entries names → b ≡ (length own == 0)
    → format ≡ format_for b → AreOfLink l imports own libraries → IsImportTable l format entries names
table_is l imports own libraries entries names b format fit made empty picked are = record {
  format_is = format_is l own b format are.own_are empty picked;
  entries_are = entries_are l imports own libraries entries names fit are made;
  names_are = made.first.text ∙ ap names_of (take-length imports) ∙ texts_are l imports are.imports_are;
}

-- what the writer of a table asks of the entries
pub table_fits : (imports : List Import) (own : List OwnEntry) (libraries : List (Vec ℕ Global)) (entries : List ImportEntry)
    (names : List ℕ)
    (b : Bool) (format : ℕ) → FitTable imports own libraries → AreMade (texts libraries) imports own entries names → b ≡ (length own == 0)
    → format ≡ format_for b → AreEntries format entries
table_fits imports own libraries entries names b format fit made empty picked = record {
  known = known b picked;
  plain = plain b empty picked;
  count = omega (arith, many, fit.entries_few);
  names = named;
}
  where
    many : length entries ≡ length imports + length own
    many = entries_many (texts libraries) imports own entries names made

    known : (b : Bool) → format ≡ format_for b → (format ≡ 1) ⊎ (format ≡ 2)
    known true is = inl is
    known false is = inr is

    first : (k : ℕ) (d : ImportEntry) → k < length imports → (i : Import) → get_or entries k d ≡ plain_at (texts libraries) imports k i
    first k d lt i = plain_there (texts libraries) imports own entries names k d i made lt

    plain : (b : Bool) → b ≡ (length own == 0) → format ≡ format_for b → format ≡ 1 → All (λ e. e.addend ≡ pos 0) entries
    plain true is chosen one k d lt =
        let none : length own ≡ 0 = grind (arith, nat_tests) in
        let inside : k < length imports = omega (arith, many) in
        ap (λ (e : ImportEntry). e.addend) (first k d inside (some_import imports k inside))
    plain false is chosen one k d lt = absurd (omega arith)

    named : All (λ e. e.name_offset < 2 ^ 23) entries
    named k d lt =
        elim (cases_lt k (length imports)) [
          | inl inside ↦
              let i = some_import imports k inside in
              omega (arith, ap (λ (e : ImportEntry). e.name_offset) (first k d inside i), names_left imports k i inside, fit.names_short)
          | inr past ↦ own_named (k - length imports) (omega arith) (omega (arith, many))
        ]
      where
        own_named : (j : ℕ) → k ≡ length imports + j → j < length own → (get_or entries k d).name_offset < 2 ^ 23
        own_named j at inside =
            let o : OwnEntry = get_or own j (record { import = 0; addend = 0 }) in
            let within : o.import < length imports = fit.among j (record { import = 0; addend = 0 }) inside in
            let here : IsOwnEntry (texts libraries) imports o (get_or entries k d)
            = own_there (texts libraries) imports own entries names k j d (record { import = 0; addend = 0 }) made fit.among at inside in
            let i = some_import imports o.import within in
            omega (arith, here.place, names_left imports o.import i within, fit.names_short)
