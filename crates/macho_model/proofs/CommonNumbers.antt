-- The number of a chosen common is how many chosen ones stand before it. The symbols of a link rise by file and number
-- (`symbols_rise`): those of one file by their numbers, and each file's before the next one's. So no symbol before a place is
-- the one at it, and the first that is the same among the chosen ones is itself (`position_counts`).
use Rattle.std.proofs.Common.{◌≡◌, ℕ, zero, suc, ◌+◌, ◌<◌, ◌≤◌, ◌⊎◌, Bool, true, false, List, [], ◌∷◌, ◌++◌, length, map, filter, inl, inr, refl, ap, sym, subst, ◌∙◌, arith}
use Rattle.std.specs.List.{flat_map, enumerate_from, range_with_len, position_or_len, AllByRecursion}
use Rattle.std.proofs.lemmas.Bool.Decides.{nat_tests}
use Rattle.std.proofs.lemmas.List.Concat.{flat_map-cons}
use Rattle.macho_model.specs.Links.{Input, Object, Dylib, Stub}
use Rattle.macho_model.specs.Objects.{num_symbols}
use Rattle.macho_model.specs.Resolution.{SymbolId, same_symbol, symbols_of_file, symbols_of, chosen_commons}
use Rattle.macho_model.specs.LinkLaws.{is_chosen, CommonsAreCounted}

-- one symbol stands before another, by file and then by number
abbrev Before : SymbolId → SymbolId → Type 0
Before s t = (s.file < t.file) ⊎ ((s.file ≡ t.file) × (s.symbol < t.symbol))

abbrev Rises : List SymbolId → Type 0
Rises [] = Unit {0}
Rises (s ∷ ss) = AllByRecursion (Before s) ss × Rises ss

-- what holds of two lists holds of them joined, and what holds of all holds of the middle
all_joined : (P : SymbolId → Type 0) (xs ys : List SymbolId) → AllByRecursion P xs → AllByRecursion P ys → AllByRecursion P (xs ++ ys)
all_joined P [] ys hx hy = hy
all_joined P (x ∷ xs) ys hx hy = (hx.0, all_joined P xs ys hx.1 hy)

all_middle : (P : SymbolId → Type 0) (xs ys : List SymbolId) (y : SymbolId) → AllByRecursion P (xs ++ y ∷ ys) → P y
all_middle P [] ys y h = h.0
all_middle P (x ∷ xs) ys y h = all_middle P xs ys y h.1

rises_joined : (xs ys : List SymbolId) → Rises xs → Rises ys → AllByRecursion (λ x. AllByRecursion (Before x) ys) xs → Rises (xs ++ ys)
rises_joined [] ys hx hy cross = hy
rises_joined (x ∷ xs) ys hx hy cross = (all_joined (Before x) xs ys hx.0 cross.0, rises_joined xs ys hx.1 hy cross.1)

-- a symbol of a file
abbrev symbol_in : ℕ → ℕ → SymbolId
symbol_in file k = record { file = file; symbol = k }

above : (file k from n : ℕ) → k < from → AllByRecursion (Before (symbol_in file k)) (map (symbol_in file) (range_with_len from n))
above file k from zero lt = tt
above file k from (suc n) lt = (inr (refl, lt), above file k (from + 1) n (omega (arith, lt)))

file_rises : (file from n : ℕ) → Rises (map (symbol_in file) (range_with_len from n))
file_rises file from zero = tt
file_rises file from (suc n) = (above file from (from + 1) n (omega arith), file_rises file (from + 1) n)

-- the symbols of inputs from a number on
abbrev symbols_from : ℕ → List Input → List SymbolId
symbols_from n inputs = flat_map (λ i. symbols_of_file i.0 i.1) (enumerate_from n inputs)

in_file : (file m from n : ℕ) → m ≤ file → AllByRecursion (λ s. m ≤ s.file) (map (symbol_in file) (range_with_len from n))
in_file file m from zero le = tt
in_file file m from (suc n) le = (le, in_file file m (from + 1) n le)

file_at_least : (m file : ℕ) (x : Input) → m ≤ file → AllByRecursion (λ s. m ≤ s.file) (symbols_of_file file x)
file_at_least m file (Object bytes) le = in_file file m 0 (num_symbols bytes) le
file_at_least m file (Dylib bytes) le = tt
file_at_least m file (Stub text says) le = tt

at_least : (m n : ℕ) (inputs : List Input) → m ≤ n → AllByRecursion (λ s. m ≤ s.file) (symbols_from n inputs)
at_least m n [] le = tt
at_least m n (x ∷ inputs) le =
    subst (AllByRecursion (λ s. m ≤ s.file)) (sym (flat_map-cons (λ i. symbols_of_file i.0 i.1) (n, x) (enumerate_from (n + 1) inputs)))
    (all_joined (λ s. m ≤ s.file) (symbols_of_file n x) (symbols_from (n + 1) inputs) (file_at_least m n x le)
    (at_least m (n + 1) inputs (omega (arith, le))))

-- the symbols of a file stand before all of later files
later : (file k : ℕ) (ys : List SymbolId) → AllByRecursion (λ s. file + 1 ≤ s.file) ys → AllByRecursion (Before (symbol_in file k)) ys
later file k [] h = tt
later file k (y ∷ ys) h = (inl (omega (arith, h.0)), later file k ys h.1)

each_later : (file : ℕ) (ks : List ℕ) (ys : List SymbolId) → AllByRecursion (λ s. file + 1 ≤ s.file) ys
    → AllByRecursion (λ x. AllByRecursion (Before x) ys) (map (symbol_in file) ks)
each_later file [] ys h = tt
each_later file (k ∷ ks) ys h = (later file k ys h, each_later file ks ys h)

crosses : (file : ℕ) (x : Input) (ys : List SymbolId) → AllByRecursion (λ s. file + 1 ≤ s.file) ys
    → AllByRecursion (λ x. AllByRecursion (Before x) ys) (symbols_of_file file x)
crosses file (Object bytes) ys h = each_later file (range_with_len 0 (num_symbols bytes)) ys h
crosses file (Dylib bytes) ys h = tt
crosses file (Stub text says) ys h = tt

one_rises : (file : ℕ) (x : Input) → Rises (symbols_of_file file x)
one_rises file (Object bytes) = file_rises file 0 (num_symbols bytes)
one_rises file (Dylib bytes) = tt
one_rises file (Stub text says) = tt

symbols_rise : (n : ℕ) (inputs : List Input) → Rises (symbols_from n inputs)
symbols_rise n [] = tt
symbols_rise n (x ∷ inputs) =
    subst Rises (sym (flat_map-cons (λ i. symbols_of_file i.0 i.1) (n, x) (enumerate_from (n + 1) inputs)))
    (rises_joined (symbols_of_file n x) (symbols_from (n + 1) inputs) (one_rises n x) (symbols_rise (n + 1) inputs)
    (crosses n x (symbols_from (n + 1) inputs) (at_least (n + 1) (n + 1) inputs (omega arith))))

-- so none before a symbol is the same
others : (s t : SymbolId) → Before t s → same_symbol s t ≡ false
others s t (inl less) = grind (arith, nat_tests, less)
others s t (inr same) = grind (arith, nat_tests, same.0, same.1)

all_others : (before after : List SymbolId) (s : SymbolId) → Rises (before ++ s ∷ after)
    → AllByRecursion (λ t. same_symbol s t ≡ false) before
all_others [] after s h = tt
all_others (t ∷ before) after s h = (others s t (all_middle (Before t) before after s h.0), all_others before after s h.1)

-- the first that passes among those that are kept
position_counts : (keep same : SymbolId → Bool) (before after : List SymbolId) (s : SymbolId) → keep s ≡ true → same s ≡ true
    → AllByRecursion (λ t. same t ≡ false) before → position_or_len same (filter keep (before ++ s ∷ after)) ≡ length (filter keep before)
position_counts keep same [] after s kept here none = rw (kept, here) refl
position_counts keep same (t ∷ before) after s kept here none = by (position_counts keep same before after s kept here none.1) (keep t) refl
  where
    by : position_or_len same (filter keep (before ++ s ∷ after)) ≡ length (filter keep before) → (b : Bool) → keep t ≡ b
        → position_or_len same (filter keep (t ∷ before ++ s ∷ after)) ≡ length (filter keep (t ∷ before))
    by rest true is = rw (is, none.0, rest) (omega arith)
    by rest false is = rw (is, rest) refl

pub is_same : (s : SymbolId) → same_symbol s s ≡ true
is_same s = grind (arith, nat_tests)

pub commons_are_counted : CommonsAreCounted
unfolding symbols_of chosen_commons
commons_are_counted l before after s are chosen =
    ap (λ (ss : List SymbolId). position_or_len (same_symbol s) (filter (is_chosen l) ss)) are
    ∙ position_counts (is_chosen l) (same_symbol s) before after s chosen (is_same s)
    (all_others before after s (subst Rises are (symbols_rise 0 l.inputs)))
