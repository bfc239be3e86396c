-- The text stands for the library: what it says, the library offers, each name once.
--
-- A name is in one of the two lists exactly where a first symbol has it, since each first symbol is weak or not; and a first symbol has it
-- exactly where an offered one does. The two lists together are the names of the first symbols in another order, and no two of these have
-- one name. Each name can be written, since none is the first that can't.
use Rattle.std.proofs.Common.{◌≡◌, ◌≢◌, ℕ, Bool, true, false, cond, not, ◌||◌, List, [], ◌∷◌, ◌++◌, map, filter, find, None, Some, refl, sym, ap, subst, ◌∙◌}
use Rattle.std.specs.List.{AllByRecursion, AllPairs, IsDistinct, list_any, range_with_len}
use Rattle.std.specs.Option.{option_map}
use Rattle.std.specs.Str.{bytes_eq, IsUtf8, is_utf8}
use Rattle.std.proofs.Math.Bool.{Bool-set}
use Rattle.std.proofs.Math.Logic.{∥∥₁_elim}
use Rattle.std.proofs.lemmas.Bool.{not-false}
use Rattle.std.proofs.lemmas.List.{map-append}
use Rattle.std.proofs.lemmas.List.Sorted.{IsPermutation-filter_both}
use Rattle.std.proofs.lemmas.Map.Keys.{IsDistinct-IsPermutation}
use Rattle.std.proofs.lemmas.Map.Made.{AllPairs-from_IsDistinct}
use Rattle.std.proofs.lemmas.Slice.Eq.{bytes_eq-Decides}
use Rattle.std.proofs.lemmas.Str.{IsUtf8-from_is_utf8, is_utf8-from_IsUtf8}
use Rattle.macho_model.specs.Grammar.{IsDylib}
use Rattle.macho_model.specs.Links.{Dylib, Stub}
use Rattle.macho_model.specs.Needs.{distinct}
use Rattle.macho_model.specs.Objects.{num_symbols, symbol_name, install_name_of}
use Rattle.macho_model.specs.Resolution.{offers}
use Rattle.macho_symbol_names.specs.Kept.{is_offered}
use Rattle.macho_tbd.specs.Offered.{same_name, is_weak_at, said_of, first_symbols, offered_symbols}
use Rattle.macho_tbd.specs.Writable.{Named, is_writable, names_of, unwritable_of}
use Rattle.macho_tbd.specs.Text.{text_of}
use Rattle.macho_promise.specs.Inputs.{IsStubInput}
use Rattle.macho_tbd.specs.Answer.{AreAlike, IsStubOf}
use Rattle.macho_tbd.proofs.Lists.{any_parts, distinct-IsDistinct}
use Rattle.macho_tbd.proofs.Scalars.{IsQuotable, quotable}
use Rattle.macho_tbd.proofs.Documents.{IsSayable, text_says}
use Rattle.macho_bytes.proofs.Comparing.{bytes_turn}
use Rattle.macho_bytes.proofs.Maps.{any_map, any_filter, all_filter}
use Rattle.macho_model.proofs.Distinct.{any_distinct}

-- ---- the names that are offered

pub offer : (b text name : List ℕ) → offers name (Dylib b) ≡ offers name (Stub text (said_of b))
unfolding said_of first_symbols offered_symbols
offer b text name =
    let has : ℕ → Bool = λ k. bytes_eq (symbol_name b k) name in
    let all : List ℕ = filter (is_offered b) (range_with_len 0 (num_symbols b)) in
    let firsts : List ℕ = distinct (same_name b) all in
    sym (any_filter has (is_offered b) (range_with_len 0 (num_symbols b)))
    ∙ sym (any_distinct (same_name b) has
    (λ j k same. ap (λ (n : List ℕ). bytes_eq n name) ((bytes_eq-Decides (symbol_name b j) (symbol_name b k)).0 same)) all)
    ∙ sym (any_parts has (is_weak_at b) firsts)
    ∙ sym (ap (λ (t : Bool). t || list_any (λ n. bytes_eq n name) (map (symbol_name b) (filter (is_weak_at b) firsts)))
    (any_map (λ n. bytes_eq n name) (symbol_name b) (filter (λ k. not (is_weak_at b k)) firsts))
    ∙ ap (λ (t : Bool). list_any has (filter (λ k. not (is_weak_at b k)) firsts) || t)
    (any_map (λ n. bytes_eq n name) (symbol_name b) (filter (is_weak_at b) firsts)))

pub alike : (b text : List ℕ) → AreAlike (Dylib b) (Stub text (said_of b))
unfolding said_of
alike b text = record { is_library = λ e. absurd cc; library = refl; offer = offer b text }

-- ---- each once

-- symbols of which no two have one name have names of which no two are the same
names_differ : (name : ℕ → List ℕ) (xs : List ℕ) → IsDistinct (λ j k. bytes_eq (name j) (name k)) xs
    → IsDistinct bytes_eq (map name xs)
unfolding IsDistinct
names_differ name [] h = tt
names_differ name (x ∷ xs) h = (each xs h.0, names_differ name xs h.1)
  where
    each : (ys : List ℕ) → AllByRecursion (λ y. bytes_eq (name x) (name y) ≡ false) ys
        → AllByRecursion (λ n. bytes_eq (name x) n ≡ false) (map name ys)
    each [] h = tt
    each (y ∷ ys) h = (h.0, each ys h.1)

pub once : (b : List ℕ) → AllPairs (λ x y. x ≢ y) ((said_of b).names ++ (said_of b).weak_names)
unfolding said_of first_symbols
once b =
    let firsts : List ℕ = distinct (same_name b) (offered_symbols b) in
    let strong : List ℕ = filter (λ k. not (is_weak_at b k)) firsts in
    let weak : List ℕ = filter (is_weak_at b) firsts in
    let apart : IsDistinct (same_name b) (strong ++ weak)
    = IsDistinct-IsPermutation (same_name b) (λ j k. bytes_turn (symbol_name b j) (symbol_name b k)) firsts (strong ++ weak)
    (IsPermutation-filter_both (λ k. not (is_weak_at b k)) (is_weak_at b) (λ k. twice (is_weak_at b k)) firsts)
    (distinct-IsDistinct (same_name b) (offered_symbols b)) in
    subst (λ (names : List (List ℕ)). AllPairs (λ x y. x ≢ y) names) (map-append (symbol_name b) strong weak)
    (AllPairs-from_IsDistinct bytes_eq-Decides (map (symbol_name b) (strong ++ weak)) (names_differ (symbol_name b) (strong ++ weak) apart))
  where
    twice : (t : Bool) → t ≡ not (not t)
    twice true = refl
    twice false = refl

-- ---- each can be written

-- where nothing is found, nothing passes
none_found : {X : Type 0} {Y : Type 0} (f : X → Y) (p : X → Bool) (xs : List X) → option_map f (find p xs) ≡ None
    → AllByRecursion (λ x. p x ≡ false) xs
none_found f p [] e = tt
none_found {X} {Y} f p (x ∷ xs) e = (this.0, none_found f p xs this.1)
  where
    by : (t : Bool) → option_map f (cond t (Some x) (find p xs)) ≡ None → (t ≡ false) × (option_map f (find p xs) ≡ None)
    by true e = absurd cc
    by false e = (refl, e)

    this : (p x ≡ false) × (option_map f (find p xs) ≡ None)
    this = by (p x) e

-- what is left when repeats are taken out was there
each_first : {X : Type 0} (P : X → Type 0) (same : X → X → Bool) (xs : List X) → AllByRecursion P xs
    → AllByRecursion P (distinct same xs)
each_first P same [] h = tt
each_first P same (x ∷ xs) h = (h.0, all_filter P (λ y. not (same x y)) (distinct same xs) (each_first P same xs h.1))

-- names of some symbols
each_named : (b : List ℕ) (ks : List ℕ) → AllByRecursion (λ k. IsQuotable (symbol_name b k)) ks
    → AllByRecursion IsQuotable (map (symbol_name b) ks)
each_named b [] h = tt
each_named b (k ∷ ks) h = (h.0, each_named b ks h.1)

can : (name : List ℕ) → not (is_writable name) ≡ false → IsQuotable name
can name e = quotable name (not-false (is_writable name) e)

-- what holds of each named symbol
each_symbol : (b : List ℕ) (ks : List ℕ)
    → AllByRecursion (λ (named : Named). not (is_writable named.name) ≡ false)
    (map (λ k. record { symbol = Some k; name = symbol_name b k }) ks)
    → AllByRecursion (λ k. IsQuotable (symbol_name b k)) ks
each_symbol b [] h = tt
each_symbol b (k ∷ ks) h = (can (symbol_name b k) h.0, each_symbol b ks h.1)

pub sayable : (b : List ℕ) → unwritable_of b ≡ None → IsSayable (said_of b)
unfolding said_of first_symbols unwritable_of names_of
sayable b none =
    let each = none_found (λ (named : Named). named.symbol) (λ (named : Named). not (is_writable named.name)) (names_of b) none in
    let symbols = each_first (λ k. IsQuotable (symbol_name b k)) (same_name b) (offered_symbols b)
    (each_symbol b (offered_symbols b) each.1) in
    record {
      install_name = can (install_name_of b) each.0;
      names = each_named b _ (all_filter _ (λ k. not (is_weak_at b k)) (distinct (same_name b) (offered_symbols b)) symbols);
      weak_names = each_named b _ (all_filter _ (is_weak_at b) (distinct (same_name b) (offered_symbols b)) symbols);
    }

-- what a string says of its bytes, with nothing left open
utf8_is : (bytes : List ℕ) → ∥ IsUtf8 bytes ∥₁ → IsUtf8 bytes
utf8_is bytes t = IsUtf8-from_is_utf8 bytes (∥∥₁_elim t (Bool-set (is_utf8 bytes) true) (is_utf8-from_IsUtf8 bytes))

-- THE text is the library's stub.
pub stub_of : (b text : List ℕ) → IsDylib b → unwritable_of b ≡ None → text ≡ text_of (said_of b) → ∥ IsUtf8 text ∥₁ → IsStubOf b text
stub_of b text dylib none is utf8 = record {
  dylib = dylib;
  writable = none;
  is = is;
  reads = subst (λ (t : List ℕ). IsStubInput t (said_of b)) (sym is)
      (text_says (said_of b) (sayable b none) (subst IsUtf8 is (utf8_is text utf8)));
  once = once b;
  alike = alike b text;
}
