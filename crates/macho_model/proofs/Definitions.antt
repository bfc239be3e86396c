-- What defines a name, and what doesn't.
--
-- The definition of a name is the first of a list: a strong definition, a common, a weak one, a library, the image's base. So a symbol that
-- is the definition is one of the first three lists, and each of these has only symbols that define the name.
use Rattle.std.proofs.Common.{◌≡◌, ℕ, true, List, ◌⊎◌, inl, inr, [], ◌∷◌, map, subst, Bool, false, ◌&&◌, not, refl, nat_le, sym, ◌∙◌, Option, Some, None, if◌then◌else◌, ap}
use Rattle.std.specs.Prelude.{Contains, Option, Some, None, if◌then◌else◌}
use Rattle.macho_records.specs.Symbols.{is_global, is_common_of, is_stab_of, has_type}
use Rattle.macho_model.specs.Links.{Link}
use Rattle.macho_model.specs.Resolution.{SymbolId, symbols_of, entry_at, name_at, Definition, Symbol, Library, ImageBase, strong_of, has_name, commons_of, greatest_of, libraries_with, definition_of, is_symbol, chosen_commons}
use Rattle.macho_bytes.proofs.Members.{contains_first, filter_contains, contains_filter}
use Rattle.macho_model.specs.steps.Resolved.{first_or, is_strong, weak_of, is_weak, DSO_HANDLE, first_definition, is_library}
use Rattle.std.proofs.lemmas.Slice.Eq.{bytes_eq-Decides}
use Rattle.macho_bytes.proofs.Bools.{and_left, and_right}
use Rattle.macho_records.specs.declared.symbols.SymtabEntry.{SymtabEntry}
use Rattle.macho_records.specs.declared.constants.TheConstants.{N_UNDF, N_EXT}
use Rattle.macho_records.specs.Flags.{has_any}
use Rattle.std.specs.List.{list_all}
use Rattle.std.specs.Str.{bytes_eq}
use Rattle.macho_model.proofs.Resolved.{definition_is_first}
use Rattle.macho_model.specs.LinkLaws.{is_chosen}
use Rattle.macho_model.proofs.CommonNumbers.{is_same}

-- a symbol that defines a name
pub record Defines (l : Link) (name : List ℕ) (s : SymbolId) : Type 0 where
  pub there : Contains (symbols_of l) s
  pub global : is_global (entry_at l s) ≡ true
  pub named : name_at l s ≡ name

-- the first of a list of symbols is one of them
pub symbol_found : (xs : List SymbolId) (other : Option Definition) (s : SymbolId) → first_or (map Symbol xs) other ≡ Some (Symbol s)
    → Contains xs s ⊎ (other ≡ Some (Symbol s))
symbol_found [] other s e = inr e
symbol_found (x ∷ xs) other s e =
    let same : x ≡ s = cc in
    inl (subst (λ (y : SymbolId). Contains (x ∷ xs) y) same (contains_first x xs))

pub library_passed : (files : List ℕ) (other : Option Definition) (s : SymbolId) → first_or (map Library files) other ≡ Some (Symbol s)
    → other ≡ Some (Symbol s)
library_passed [] other s e = e
library_passed (f ∷ files) other s e = cc

pub image_passed : (b : Bool) (s : SymbolId) → (if b then Some ImageBase else None) ≡ Some (Symbol s) → ⊥
image_passed true s e = cc
image_passed false s e = cc

pub strong_defines : (l : Link) (name : List ℕ) (s : SymbolId) → Contains (strong_of l name) s → Defines l name s
unfolding strong_of
strong_defines l name s has =
    let of = filter_contains (λ t. is_strong l t && has_name l name t) (symbols_of l) s has in
    record {
      there = of.0;
      global = and_left _ _ (and_left _ _ (and_left _ _ of.1));
      named = (bytes_eq-Decides (name_at l s) name).0 (and_right _ _ of.1);
    }

pub weak_defines : (l : Link) (name : List ℕ) (s : SymbolId) → Contains (weak_of l name) s → Defines l name s
unfolding weak_of
weak_defines l name s has =
    let of = filter_contains (λ t. is_weak l t && has_name l name t) (symbols_of l) s has in
    record {
      there = of.0;
      global = and_left _ _ (and_left _ _ (and_left _ _ of.1));
      named = (bytes_eq-Decides (name_at l s) name).0 (and_right _ _ of.1);
    }

-- a common is global
pub common_global : (e : SymtabEntry) → is_common_of e ≡ true → is_global e ≡ true
common_global e is =
    let first : (has_type N_UNDF e && has_any N_EXT e.n_type) ≡ true = and_left _ _ is in
    both (not (is_stab_of e)) (has_any N_EXT e.n_type) (and_left _ _ (and_left _ _ first)) (and_right _ _ first)
  where
    both : (a b : Bool) → a ≡ true → b ≡ true → (a && b) ≡ true
    both a b p q = rw (p, q) refl

pub common_defines : (l : Link) (name : List ℕ) (s : SymbolId) → Contains (greatest_of l name) s → Defines l name s
unfolding greatest_of commons_of
common_defines l name s has =
    let great = filter_contains (λ t. list_all (λ u. nat_le (entry_at l u).n_value (entry_at l t).n_value) (commons_of l name))
    (commons_of l name) s has in
    let of = filter_contains (λ t. is_common_of (entry_at l t) && has_name l name t) (symbols_of l) s great.0 in
    record {
      there = of.0;
      global = common_global (entry_at l s) (and_left _ _ of.1);
      named = (bytes_eq-Decides (name_at l s) name).0 (and_right _ _ of.1);
    }

-- THE definition of a name, where it is a symbol
pub defined_by : (l : Link) (name : List ℕ) (s : SymbolId) → definition_of l name ≡ Some (Symbol s) → Defines l name s
unfolding first_definition
defined_by l name s e = strong (symbol_found (strong_of l name) _ s (sym (definition_is_first l name) ∙ e))
  where
    image : first_or (map Library (libraries_with l name)) (if bytes_eq name DSO_HANDLE then Some ImageBase else None) ≡ Some (Symbol s)
        → Defines l name s
    image e = absurd (image_passed (bytes_eq name DSO_HANDLE) s (library_passed (libraries_with l name) _ s e))

    common : Contains (greatest_of l name) s
        ⊎ (first_or (map Library (libraries_with l name)) (if bytes_eq name DSO_HANDLE then Some ImageBase else None) ≡ Some (Symbol s))
        → Defines l name s
    common (inl has) = common_defines l name s has
    common (inr e) = image e

    weak : Contains (weak_of l name) s
        ⊎ (first_or (map Symbol (greatest_of l name))
        (first_or (map Library (libraries_with l name)) (if bytes_eq name DSO_HANDLE then Some ImageBase else None)) ≡ Some (Symbol s))
        → Defines l name s
    weak (inl has) = weak_defines l name s has
    weak (inr e) = common (symbol_found (greatest_of l name) _ s e)

    strong : Contains (strong_of l name) s
        ⊎ (first_or (map Symbol (weak_of l name)) (first_or (map Symbol (greatest_of l name))
        (first_or (map Library (libraries_with l name)) (if bytes_eq name DSO_HANDLE then Some ImageBase else None))) ≡ Some
        (Symbol s)) → Defines l name s
    strong (inl has) = strong_defines l name s has
    strong (inr e) = weak (symbol_found (weak_of l name) _ s e)

-- an imported name is offered by a library
pub library_behind_symbols : (ss : List SymbolId) (other : Option Definition) → is_library
    (first_or (map Symbol ss) other) ≡ true → is_library other ≡ true
library_behind_symbols [] other e = e
library_behind_symbols (s ∷ ss) other e = cc

pub some_library : (files : List ℕ) (b : Bool) → is_library (first_or (map Library files) (if b then Some ImageBase else None)) ≡ true
    → (file : ℕ) × Contains files file
some_library [] true e = cc
some_library [] false e = cc
some_library (file ∷ files) b e = (file, contains_first file files)

-- a common that defines its name is chosen
pub common_is_chosen : (l : Link) (name : List ℕ) (s : SymbolId) → definition_of l name ≡ Some (Symbol s) → is_common_of
    (entry_at l s) ≡ true
    → Contains (chosen_commons l) s
unfolding chosen_commons
common_is_chosen l name s e common =
    let d = defined_by l name s e in
    let own : is_symbol s (definition_of l (name_at l s)) ≡ true =
    ap (λ (n : List ℕ). is_symbol s (definition_of l n)) d.named ∙ ap (is_symbol s) e ∙ is_same s in
    contains_filter (is_chosen l) (symbols_of l) s d.there
    (all_of (is_common_of (entry_at l s)) (is_global (entry_at l s)) _ common d.global own)
  where
    all_of : (a b c : Bool) → a ≡ true → b ≡ true → c ≡ true → (a && (b && c)) ≡ true
    all_of a b c p q r = rw (p, q, r) refl

pub no_symbol_behind : (files : List ℕ) (b : Bool) (t : SymbolId) → first_or (map Library files) (if b then Some ImageBase else None)
    ≡ Some (Symbol t) → ⊥
no_symbol_behind [] true t h = cc
no_symbol_behind [] false t h = cc
no_symbol_behind (f ∷ files) b t h = cc
