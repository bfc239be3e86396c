-- A link of objects, libraries and stubs has one list of sizes.
--
-- An exported name is that of a symbol of an object, or an import. The name of a symbol is some bytes of its file in front of a NUL. An
-- import is defined by a library, which offers it: a dynamic library by the name of a symbol, a stub by one of the symbols that it
-- names. So exported names are spelled, and the link has sizes; and it has one list of them at most.
use Rattle.std.proofs.Common.{◌≡◌, ℕ, ◌+◌, ◌-◌, ◌<◌, ◌≤◌, ◌==◌, Bool, true, false, List, [], ◌∷◌, length, map, drop, get_or, Option, Some, None, refl, sym, subst, arith, inl, inr, All, if◌then◌else◌, not, filter, ap, ◌∙◌}
use Rattle.std.specs.Prelude.{Contains}
use Rattle.std.specs.List.{list_any, enumerate_from, filter_map, range_with_len, position_or_len}
use Rattle.std.specs.Str.{bytes_eq}
use Rattle.std.proofs.lemmas.Bool.{and_parts, or_cases, cases_lt}
use Rattle.std.proofs.lemmas.Bool.Decides.{nat_tests}
use Rattle.std.proofs.lemmas.List.{get_or-take, length-take, get_or_past}
use Rattle.std.proofs.lemmas.List.Sums.{fails_before_first}
use Rattle.std.proofs.lemmas.List.Elements.{All-nil, All-take, All-drop}
use Rattle.std.proofs.lemmas.Slice.Eq.{bytes_eq-Decides}
use Rattle.macho_records.specs.ByteTexts.{name_of}
use Rattle.macho_bytes.proofs.Members.{all_contains, contains_first, contains_later, contains_cases, filter_contains, map_contains, enumerate_contains, any_contains}
use Rattle.macho_model.specs.Objects.{num_symbols, symbol_at, symbol_name, strings_of, symtab_of}
use Rattle.macho_model.specs.Links.{Link, Input, Object, Dylib, Stub, object_bytes, object_of, no_input}
use Rattle.macho_model.specs.Resolution.{SymbolId, Definition, Symbol, Library, ImageBase, strong_of, greatest_of, offers, libraries_with}
use Rattle.macho_model.specs.steps.Resolved.{weak_of, is_offered_symbol, first_or, DSO_HANDLE, is_library, first_definition}
use Rattle.macho_model.specs.Needs.{is_imported, imports_of, distinct}
use Rattle.macho_model.specs.Uses.{name_used, uses_of}
use Rattle.macho_model.specs.Told.{from_object, from_library}
use Rattle.macho_promise.specs.Inputs.{IsInput}
use Rattle.macho_size_laws.proofs.One.{sizes_one}
use Rattle.macho_sizes_exist_laws.specs.Laws.{ExportsAreSpelled, HasBytes, LinksHaveSizes}
use Rattle.macho_sizes_exist_laws.proofs.Utf8.{IsByte}
use Rattle.macho_sizes_exist_laws.proofs.StubNames.{IsLetter, stub_names}
use Rattle.macho_sizes_exist_laws.proofs.Sized.{sizes_are}
use Rattle.macho_model.proofs.Uses.{imports_are}
use Rattle.macho_model.proofs.Resolved.{definition_is_first}
use Rattle.macho_model.proofs.Definitions.{defined_by, library_behind_symbols, some_library}

some_byte : (x : ℕ) → (x == 0) ≡ false → 1 ≤ x
some_byte x e = grind (arith, nat_tests)

-- bytes in front of a NUL
in_front : (bytes : List ℕ) → All IsByte bytes → All IsLetter (name_of bytes)
in_front bytes all k d within =
    let first : ℕ = position_or_len (λ b. b == 0) bytes in
    let low : k < first = omega (arith, within, length-take first bytes) in
    let inside : k < length bytes = omega (arith, within, length-take first bytes) in
    let some = some_byte (get_or bytes k d) (fails_before_first (λ b. b == 0) bytes k d low) in
    let is = get_or-take first bytes k d low in
    (omega (arith, is, some), omega (arith, is, all k d inside))

symbol_spelled : (b : List ℕ) (k : ℕ) → All IsByte b → All IsLetter (symbol_name b k)
unfolding symbol_name strings_of
symbol_spelled b k all = by ((symbol_at b k).n_strx == 0) refl
  where
    start : ℕ
    start = (symtab_of b).stroff

    strings : All IsByte (strings_of b)
    strings = All-take IsByte (start + (symtab_of b).strsize - start) (drop start b) (All-drop IsByte start b all)

    by : (x : Bool) → ((symbol_at b k).n_strx == 0) ≡ x → All IsLetter (symbol_name b k)
    by true e = rw e (All-nil IsLetter)
    by false e =
        rw e (in_front (drop (symbol_at b k).n_strx (strings_of b)) (All-drop IsByte (symbol_at b k).n_strx (strings_of b) strings))

-- the bytes of a file that is an object
object_has : (x : Input) → HasBytes x → All IsByte (object_bytes x)
object_has (Object b) has = has
object_has (Dylib b) has = All-nil IsByte
object_has (Stub text says) has = All-nil IsByte

file_has : (l : Link) (file : ℕ) → All HasBytes l.inputs → All IsByte (object_of l file)
file_has l file all = elim (cases_lt file (length l.inputs)) [
  | inl within ↦ object_has (get_or l.inputs file no_input) (all file no_input within)
  | inr past ↦
      let B : Input → Type 0 = λ x. All IsByte (object_bytes x) in
      subst B (sym (get_or_past l.inputs file no_input past)) (All-nil IsByte)
]

-- what a library offers
listed_spelled : (names : List (List ℕ)) (name : List ℕ) → All (All IsLetter) names → list_any (λ n. bytes_eq n name) names ≡ true
    → All IsLetter name
listed_spelled names name all e =
    let m = any_contains (λ n. bytes_eq n name) names e in
    subst (All IsLetter) ((bytes_eq-Decides m.0 name).0 m.2) (all_contains (All IsLetter) names m.0 all m.1)

offered_spelled : (name : List ℕ) (x : Input) → IsInput x → HasBytes x → offers name x ≡ true → All IsLetter name
offered_spelled name (Object b) is has e = cc
offered_spelled name (Dylib b) is has e =
    let m = any_contains (is_offered_symbol b name) (range_with_len 0 (num_symbols b)) e in
    let same = and_parts _ (bytes_eq (symbol_name b m.0) name) m.2 in
    subst (All IsLetter) ((bytes_eq-Decides (symbol_name b m.0) name).0 same.1) (symbol_spelled b m.0 has)
offered_spelled name (Stub text says) is has e =
    let letters = stub_names text says is in
    elim (or_cases (list_any (λ n. bytes_eq n name) says.names) (list_any (λ n. bytes_eq n name) says.weak_names) e) [
      | inl strong ↦ listed_spelled says.names name letters.names strong
      | inr weak ↦ listed_spelled says.weak_names name letters.weak_names weak
    ]

imported_spelled : (l : Link) (name : List ℕ) → All IsInput l.inputs → All HasBytes l.inputs → is_imported l name ≡ true → All IsLetter name
unfolding first_definition libraries_with
imported_spelled l name are have e =
    let found = some_library (libraries_with l name) (bytes_eq name DSO_HANDLE)
    (library_behind_symbols (greatest_of l name) _
    (library_behind_symbols (weak_of l name) _ (library_behind_symbols (strong_of l name) _
    (ap is_library (sym (definition_is_first l name)) ∙ e)))) in
    let m = map_contains (λ (i : ℕ × Input). i.0) (filter (λ i. offers name i.1) (enumerate_from 0 l.inputs)) found.0 found.1 in
    let of = filter_contains (λ (i : ℕ × Input). offers name i.1) (enumerate_from 0 l.inputs) m.0 m.1 in
    let number = enumerate_contains l.inputs m.0 of.0 in
    offered_spelled name m.0.1 (all_contains IsInput l.inputs m.0.1 are (m.0.0, number.0, number.1))
    (all_contains HasBytes l.inputs m.0.1 have (m.0.0, number.0, number.1)) of.1

-- repeats taken out
of_distinct : (xs : List (List ℕ)) (x : List ℕ) → Contains (distinct bytes_eq xs) x → Contains xs x
of_distinct [] x there = there
of_distinct (y ∷ xs) x there =
    elim (contains_cases y (filter (λ z. not (bytes_eq y z)) (distinct bytes_eq xs)) x there) [
      | inl is ↦ subst (λ (z : List ℕ). Contains (y ∷ xs) z) is (contains_first y xs)
      | inr later ↦ contains_later y xs x (of_distinct xs x
          (filter_contains (λ z. not (bytes_eq y z)) (distinct bytes_eq xs) x later).0)
    ]

import_spelled : (l : Link) (name : List ℕ) → All IsInput l.inputs → All HasBytes l.inputs → Contains (imports_of l) name
    → All IsLetter name
import_spelled l name are have there =
    imported_spelled l name are have
    (filter_contains (is_imported l) (filter_map (name_used l) (uses_of l)) name
    (of_distinct (filter (is_imported l) (filter_map (name_used l) (uses_of l))) name
    (subst (λ (ns : List (List ℕ)). Contains ns name) (imports_are l) there))).1

exports_spelled : (l : Link) → All IsInput l.inputs → All HasBytes l.inputs → ExportsAreSpelled l
exports_spelled l are have name weak (from_object s exported) =
    let d = defined_by l name s exported.0 in
    let letters = subst (All IsLetter) d.named (symbol_spelled (object_of l s.file) s.symbol (file_has l s.file have)) in
    λ k within. letters k 0 within
exports_spelled l are have name weak (from_library r) = λ k within. import_spelled l name are have r.0 k 0 within

pub links_have_sizes : LinksHaveSizes
links_have_sizes l are have =
    let c = sizes_are l (exports_spelled l are have) in
    record { counts = c.0; are = c.1; one = λ others same. sizes_one l others c.0 same c.1 }
