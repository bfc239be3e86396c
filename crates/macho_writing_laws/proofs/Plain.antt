-- The names of imports and of libraries hold no NUL.
--
-- An import's definition is a library that offers its name: a symbol's name of a dynamic library, which ends in front of the first NUL,
-- or one that a stub tells. An install name is told by a load command up to the first NUL, or by a stub.
use Rattle.std.proofs.Common.{◌≡◌, ℕ, suc, ◌+◌, inl, inr, ◌||◌, ◌==◌, not, if◌then◌else◌, Bool, true, false, List, [], ◌∷◌, map, take, Option, Some, None, refl, sym, ap, subst, ◌∙◌, arith, All}
use Rattle.std.specs.Prelude.{Contains, filter, drop, slice_range, ◌≢◌}
use Rattle.std.specs.List.{list_any, enumerate_from, filter_map, range_with_len}
use Rattle.std.specs.Str.{bytes_eq}
use Rattle.std.proofs.lemmas.Bool.{and_parts, or_cases, eqb-true}
use Rattle.std.proofs.lemmas.Slice.Eq.{bytes_eq-Decides}
use Rattle.macho_bytes.specs.Texts.{name_of}
use Rattle.macho_bytes.specs.Layouts.{reading}
use Rattle.macho_wire.specs.Layouts.{dylib_command}
use Rattle.macho_records.specs.declared.constants.TheConstants.{LC_ID_DYLIB}
use Rattle.macho_bytes.proofs.Members.{all_contains, contains_all, filter_contains, map_contains, enumerate_contains, any_contains, filter_map_contains}
use Rattle.macho_model.specs.Lists.{IsNumber, of_first}
use Rattle.macho_model.specs.Commands.{Command, numbered, path_of}
use Rattle.macho_model.specs.Objects.{num_symbols, symbol_at, symbol_name, strings_of, install_name_of}
use Rattle.macho_model.specs.Links.{Link, Input, Object, Dylib, Stub}
use Rattle.macho_model.specs.Resolution.{SymbolId, Definition, Symbol, Library, ImageBase, strong_of, greatest_of, library_of_input, offers, libraries_with}
use Rattle.macho_model.specs.steps.Resolved.{weak_of, is_offered_symbol, first_or, DSO_HANDLE, is_library, first_definition}
use Rattle.macho_model.specs.Needs.{is_imported, imports_of, distinct, libraries_needed, import_library}
use Rattle.macho_model.specs.Uses.{name_used, uses_of}
use Rattle.macho_placed_laws.proofs.Names.{name_of-name}
use Rattle.macho_promise.specs.Views.{IsPlain}
use Rattle.macho_writing_laws.specs.Names.{StubsArePlain, ImportsArePlain, ImportsAreTellable, LibrariesAreWhole}
use Rattle.macho_model.proofs.Uses.{imports_are}
use Rattle.macho_model.proofs.Resolved.{definition_is_first}
use Rattle.macho_bytes.proofs.Names.{named-cons}
use Rattle.macho_model.proofs.Distinct.{distinct_contains}
use Rattle.macho_model.proofs.Definitions.{library_behind_symbols, some_library}
use Rattle.macho_promise.proofs.Plain.{symbol_plain}

plain_whole : (text : List ℕ) → IsPlain text → name_of text ≡ text
plain_whole [] plain = refl
plain_whole (x ∷ text) plain = by (plain_whole text (λ k d lt. plain (suc k) d (omega arith))) (x == 0) refl
  where
    by : name_of text ≡ text → (b : Bool) → (x == 0) ≡ b → name_of (x ∷ text) ≡ x ∷ text
    by rest true e = absurd (plain 0 x (omega arith) (eqb-true x 0 e))
    by rest false e = named-cons x text e ∙ ap (λ (t : List ℕ). x ∷ t) rest

-- what a library offers is plain
listed_plain : (names : List (List ℕ)) (name : List ℕ) → All IsPlain names → list_any (λ n. bytes_eq n name) names ≡ true → IsPlain name
listed_plain names name plain e =
    let m = any_contains (λ n. bytes_eq n name) names e in
    subst IsPlain ((bytes_eq-Decides m.0 name).0 m.2) (all_contains IsPlain names m.0 plain m.1)

offered_plain : (l : Link) (name : List ℕ) (file : ℕ) (x : Input) → StubsArePlain l → IsNumber l.inputs file x → offers name x ≡ true
    → IsPlain name
offered_plain l name file (Object b) plain number e = cc
offered_plain l name file (Dylib b) plain number e =
    let m = any_contains (is_offered_symbol b name) (range_with_len 0 (num_symbols b)) e in
    let same = and_parts _ (bytes_eq (symbol_name b m.0) name) m.2 in
    subst IsPlain ((bytes_eq-Decides (symbol_name b m.0) name).0 same.1) (symbol_plain b m.0)
offered_plain l name file (Stub text says) plain number e =
    let reading = plain file text says number in
    elim (or_cases (list_any (λ n. bytes_eq n name) says.names) (list_any (λ n. bytes_eq n name) says.weak_names) e) [
      | inl strong ↦ listed_plain says.names name reading.names strong
      | inr weak ↦ listed_plain says.weak_names name reading.weak_names weak
    ]

imported_plain : (l : Link) (name : List ℕ) → StubsArePlain l → is_imported l name ≡ true → IsPlain name
unfolding first_definition libraries_with
imported_plain l name plain e =
    let found = some_library (libraries_with l name) (bytes_eq name DSO_HANDLE)
    (library_behind_symbols (greatest_of l name) _
    (library_behind_symbols (weak_of l name) _ (library_behind_symbols (strong_of l name) _
    (ap is_library (sym (definition_is_first l name)) ∙ e)))) in
    let m = map_contains (λ (i : ℕ × Input). i.0) (filter (λ i. offers name i.1) (enumerate_from 0 l.inputs)) found.0 found.1 in
    let of = filter_contains (λ (i : ℕ × Input). offers name i.1) (enumerate_from 0 l.inputs) m.0 m.1 in
    offered_plain l name m.0.0 m.0.1 plain (enumerate_contains l.inputs m.0 of.0) of.1

pub imports_plain : ImportsArePlain
imports_plain l plain =
    subst (All IsPlain) (sym (imports_are l))
    (contains_all IsPlain (distinct bytes_eq (filter (is_imported l) (filter_map (name_used l) (uses_of l))))
    (λ name has. imported_plain l name plain
    (filter_contains (is_imported l) (filter_map (name_used l) (uses_of l)) name
    (distinct_contains bytes_eq (filter (is_imported l) (filter_map (name_used l) (uses_of l))) name has)).1))

pub imports_tellable : ImportsAreTellable
imports_tellable l plain few = record { plain = imports_plain l plain; libraries_few = few }

-- an install name is whole
path_whole : (b : List ℕ) (cs : List Command)
    → name_of (of_first [] (λ (c : Command). path_of b c (reading dylib_command b c.at).name_offset) cs)
    ≡ of_first [] (λ (c : Command). path_of b c (reading dylib_command b c.at).name_offset) cs
path_whole b [] = refl
path_whole b (c ∷ cs) = name_of-name (slice_range b (c.at + (reading dylib_command b c.at).name_offset) (c.at + c.size))

library_whole : (l : Link) (file : ℕ) (x : Input) (name : List ℕ) → StubsArePlain l → IsNumber l.inputs file x
    → library_of_input x ≡ Some name → name_of name ≡ name
unfolding install_name_of
library_whole l file (Object b) name plain number e = cc
library_whole l file (Dylib b) name plain number e =
    let is : install_name_of b ≡ name = cc in
    subst (λ (n : List ℕ). name_of n ≡ n) is (path_whole b (numbered LC_ID_DYLIB b))
library_whole l file (Stub text says) name plain number e =
    let is : says.install_name ≡ name = cc in
    subst (λ (n : List ℕ). name_of n ≡ n) is (plain_whole says.install_name (plain file text says number).install_name)

pub libraries_whole : LibrariesAreWhole
unfolding libraries_needed
libraries_whole l plain =
    contains_all (λ name. name_of name ≡ name)
    (filter (λ library. not l.dead_strip_dylibs || list_any (λ name. bytes_eq (import_library l name) library) (imports_of l))
    (distinct bytes_eq (filter_map library_of_input l.inputs)))
    (λ name has.
    let listed = filter_contains
    (λ library. not l.dead_strip_dylibs || list_any (λ name. bytes_eq (import_library l name) library) (imports_of l))
    (distinct bytes_eq (filter_map library_of_input l.inputs)) name has in
    let made = filter_map_contains library_of_input l.inputs name
    (distinct_contains bytes_eq (filter_map library_of_input l.inputs) name listed.0) in
    library_whole l made.1.0 made.0 name plain (made.1.1, made.1.2) made.2)
