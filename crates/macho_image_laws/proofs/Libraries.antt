-- Each import's library is one of those that the image names.
--
-- An imported name is defined by a library: its definition is the first one that offers it, an input with an install name. That
-- name is among those of the inputs, so also with repeats taken out; and it is needed, since the import is bound to it.
use Rattle.std.proofs.Common.{◌≡◌, ℕ, ◌+◌, ◌-◌, ◌<◌, ◌≤◌, Bool, true, false, not, ◌||◌, if◌then◌else◌, List, [], ◌∷◌, length, get_or, map, filter, refl, sym, ap, subst, ◌∙◌, arith, inl, inr, Option, Some, None}
use Rattle.std.specs.Prelude.{Contains}
use Rattle.std.specs.Option.{unwrap_or}
use Rattle.std.specs.List.{position_or_len, enumerate_from, filter_map, list_any}
use Rattle.std.specs.Str.{bytes_eq}
use Rattle.std.proofs.lemmas.Bool.{or_right, true≢false}
use Rattle.std.proofs.lemmas.List.FromFn.{length-enumerate_from, get_or-enumerate_from}
use Rattle.std.proofs.lemmas.List.{get_or_default}
use Rattle.macho_model.specs.Links.{Link, Input, Object, Dylib, Stub, no_input}
use Rattle.macho_model.specs.Resolution.{Definition, Symbol, Library, ImageBase, strong_of, greatest_of, libraries_with, library_of_input, offers, definition_of, library_name}
use Rattle.macho_model.specs.steps.Resolved.{first_or, weak_of, DSO_HANDLE, is_library, library_file, first_definition}
use Rattle.macho_model.specs.Needs.{distinct, imports_of, is_imported, import_library, libraries_needed}
use Rattle.macho_model.specs.Uses.{uses_of, name_used}
use Rattle.macho_model.specs.Exports.{library_number}
use Rattle.macho_image_laws.proofs.Distinct.{in_distinct, first_is}
use Rattle.macho_model.proofs.Resolved.{definition_is_first}
use Rattle.macho_bytes.proofs.Comparing.{bytes_same, same_bytes}
use Rattle.macho_bytes.proofs.Members.{contains_first, contains_cases, nil_contains, map_contains, contains_filter, filter_contains, position_below, contains_filter_map}
use Rattle.macho_model.proofs.Distinct.{imported}

-- a definition by a library names one that offers the name
by_library : (d : Option Definition) → is_library d ≡ true → (file : ℕ) × (d ≡ Some (Library file))
by_library None h = absurd (true≢false (sym h))
by_library (Some (Symbol s)) h = absurd (true≢false (sym h))
by_library (Some (Library file)) h = (file, refl)
by_library (Some ImageBase) h = absurd (true≢false (sym h))

-- symbols are no libraries
past_symbols : {S : Type 0} (f : S → Definition) (ss : List S) (other : Option Definition) (file : ℕ) → ((s : S) → f s ≡ Library file → ⊥)
    → first_or (map f ss) other ≡ Some (Library file) → other ≡ Some (Library file)
past_symbols f [] other file never h = h
past_symbols f (s ∷ ss) other file never h = let e : f s ≡ Library file = cc in absurd (never s e)

image_or_none : (b : Bool) (file : ℕ) → (if b then Some ImageBase else None) ≡ Some (Library file) → ⊥
image_or_none true file h = cc
image_or_none false file h = cc

first_library : (files : List ℕ) (b : Bool) (file : ℕ) → first_or (map Library files) (if b then Some ImageBase else None)
    ≡ Some (Library file)
    → Contains files file
first_library [] b file h = absurd (image_or_none b file h)
first_library (f ∷ files) b file h = let e : f ≡ file = cc in subst (λ n. Contains (f ∷ files) n) e (contains_first f files)

library_offers : (l : Link) (name : List ℕ) (file : ℕ) → definition_of l name ≡ Some (Library file) → Contains (libraries_with l name) file
unfolding first_definition
library_offers l name file h =
    first_library (libraries_with l name) (bytes_eq name DSO_HANDLE) file
    (past_symbols Symbol (greatest_of l name) _ file (λ s e. cc)
    (past_symbols Symbol (weak_of l name) _ file (λ s e. cc)
    (past_symbols Symbol (strong_of l name) _ file (λ s e. cc) (sym (definition_is_first l name) ∙ h))))

-- which is an input with an install name
has_install_name : (name : List ℕ) (x : Input) → offers name x ≡ true → library_of_input x ≡ Some (unwrap_or (library_of_input x) [])
has_install_name name (Object bytes) h = absurd (true≢false (sym h))
has_install_name name (Dylib bytes) h = refl
has_install_name name (Stub text says) h = refl

offering_input : (l : Link) (name : List ℕ) (file : ℕ) → Contains (libraries_with l name) file
    → Contains l.inputs (get_or l.inputs file no_input) × (offers name (get_or l.inputs file no_input) ≡ true)
unfolding libraries_with
offering_input l name file h =
    let m = map_contains (λ (i : ℕ × Input). i.0) (filter (λ (i : ℕ × Input). offers name i.1) (enumerate_from 0 l.inputs)) file h in
    let f = filter_contains (λ (i : ℕ × Input). offers name i.1) (enumerate_from 0 l.inputs) m.0 m.1 in
    at_number m.0 f.0 f.1 m.2
  where
    at_number : (i : ℕ × Input) → Contains (enumerate_from 0 l.inputs) i → offers name i.1 ≡ true → i.0 ≡ file
        → Contains l.inputs (get_or l.inputs file no_input) × (offers name (get_or l.inputs file no_input) ≡ true)
    at_number i (k, lt, at) offered number =
        let within : k < length l.inputs = omega (arith, lt, length-enumerate_from 0 l.inputs) in
        let pair : (0 + k, get_or l.inputs k i.1) ≡ i = sym (get_or-enumerate_from 0 l.inputs k i within) ∙ at in
        let n : k ≡ file = omega (arith, ap (λ (x : ℕ × Input). x.0) pair, number) in
        let x : get_or l.inputs file no_input ≡ i.1 =
        ap (λ (j : ℕ). get_or l.inputs j no_input) (sym n) ∙ get_or_default l.inputs k no_input i.1 within
        ∙ ap (λ (x : ℕ × Input). x.1) pair in (
          (
            file,
            omega (arith, n, within),
            get_or_default l.inputs file (get_or l.inputs file no_input) no_input
                (omega (arith, n, within)),
          ),
          ap (offers name) x ∙ offered,
        )

-- some element passes
some_passes : {X : Type 0} (p : X → Bool) (xs : List X) (x : X) → Contains xs x → p x ≡ true → list_any p xs ≡ true
some_passes p [] x h passes = absurd (nil_contains x h)
some_passes {X} p (y ∷ xs) x h passes = elim (contains_cases y xs x h) [
  | inl here ↦ rw (here, passes) refl
  | inr there ↦ or_right (p y) (list_any p xs) (some_passes p xs x there passes)
]

-- THE library of an import is named.
pub library_is_needed : (l : Link) (name : List ℕ) → Contains (imports_of l) name → Contains (libraries_needed l) (import_library l name)
unfolding libraries_needed
library_is_needed l name one =
    contains_filter (λ (library : List ℕ). not l.dead_strip_dylibs || list_any (λ name. bytes_eq (import_library l name) library)
    (imports_of l))
    (distinct bytes_eq (filter_map library_of_input l.inputs))
    (import_library l name)
    (in_distinct bytes_eq same_bytes (filter_map library_of_input l.inputs) (import_library l name) among)
    (or_right (not l.dead_strip_dylibs) (list_any (λ other. bytes_eq (import_library l other) (import_library l name)) (imports_of l))
    (some_passes (λ (n : List ℕ). bytes_eq (import_library l n) (import_library l name)) (imports_of l) name one
    (bytes_same (import_library l name))))
  where
    defined : (file : ℕ) × (definition_of l name ≡ Some (Library file))
    defined = by_library (definition_of l name) (imported l name one)

    input : Contains l.inputs (get_or l.inputs defined.0 no_input) × (offers name (get_or l.inputs defined.0 no_input) ≡ true)
    input = offering_input l name defined.0 (library_offers l name defined.0 defined.1)

    among : Contains (filter_map library_of_input l.inputs) (import_library l name)
    among =
        let file : library_file (definition_of l name) ≡ defined.0 = ap library_file defined.1 in
        let there = contains_filter_map library_of_input l.inputs (get_or l.inputs defined.0 no_input)
        (unwrap_or (library_of_input (get_or l.inputs defined.0 no_input)) []) input.0
        (has_install_name name (get_or l.inputs defined.0 no_input) input.1) in
        subst (λ (n : ℕ). Contains (filter_map library_of_input l.inputs) (library_name l n)) (sym file) there

-- so its number finds it
pub library_is_found : (l : Link) (name : List ℕ) → Contains (imports_of l) name
    → get_or (libraries_needed l) (library_number l (import_library l name) - 1) [] ≡ import_library l name
library_is_found l name one =
    let L : List ℕ = import_library l name in
    let less : library_number l L - 1 ≡ position_or_len (bytes_eq L) (libraries_needed l) = omega arith in
    ap (λ (n : ℕ). get_or (libraries_needed l) n []) less
    ∙ first_is bytes_eq same_bytes (libraries_needed l) L [] (library_is_needed l name one) (bytes_same L)

pub library_number_fits : (l : Link) (name : List ℕ) → Contains (imports_of l) name
    → library_number l (import_library l name) ≤ length (libraries_needed l)
library_number_fits l name one =
    omega (
      arith,
      position_below (bytes_eq (import_library l name)) (libraries_needed l) (import_library l name) (library_is_needed l name one)
          (bytes_same (import_library l name)),
    )
