-- The rows that are kept of a link's inputs, and the link's own symbols. The events are the symbols of the objects, each
-- with its row, and the names that libraries offer. So what a filter leaves of the symbols, by a test of their rows that
-- no offered name passes, are the events that the same test leaves.
use Rattle.std.proofs.Common.{◌≡◌, ℕ, ◌<◌, Bool, false, List, [], ◌++◌, length, map, filter, get_or, refl, ap, sym, ◌∙◌, arith}
use Rattle.std.specs.List.{flat_map, range_with_len}
use Rattle.std.proofs.lemmas.List.{get_or-map, length-map}
use Rattle.std.proofs.lemmas.List.FromFn.{length-map-range_with_len, get_or-map-range_with_len}
use Rattle.macho_model.specs.Links.{Input, Object, Dylib, Stub, StubReading, Link, no_input, object_bytes}
use Rattle.macho_model.specs.Objects.{num_symbols, symbol_name}
use Rattle.macho_model.specs.Resolution.{SymbolId, symbols_of, symbols_of_file}
use Rattle.macho_symbol_names.specs.Kept.{Row, no_file, no_row, kept_of, row_of_symbol, rows_of_object, rows_of_dylib, rows_of_stub, offered_row, is_offered}
use Rattle.macho_symbol_names.specs.Events.{Event, row_at, row_count, event_at, events_of_file, events_of, events}
use Rattle.macho_symbols.specs.steps.Targets.{row_of, event_of}
use Rattle.macho_symbols.proofs.ListsMore.{flat_map_same, filter_made, filter_nothing}
use Rattle.macho_bytes.proofs.Maps.{filter-flat_map, enumerated, flat_map-map}
use Rattle.macho_model.proofs.Uses.{map_flat}

-- what is kept of an input, by its number
pub file_at : (inputs : List Input) (i : ℕ) → i < length inputs → get_or (map kept_of inputs) i no_file ≡ kept_of (get_or inputs i no_input)
file_at inputs i within = get_or-map kept_of inputs i no_input no_file within

-- an offered name passes no test that we ask of symbols
abbrev pub PassesNone : (Row → Bool) → Type 0
PassesNone test = (name : List ℕ) → test (offered_row name) ≡ false

-- every row of a library is one of an offered name
offered_all : {X : Type 0} (f : X → List ℕ) (xs : List X) (k : ℕ) (d : X) → k < length xs
    → get_or (map (λ x. offered_row (f x)) xs) k no_row ≡ offered_row (f (get_or xs k d))
offered_all f xs k d within = get_or-map (λ x. offered_row (f x)) xs k d no_row within

-- the row that is kept of a symbol
pub row_kept : (l : Link) (i k : ℕ) (b : List ℕ) → i < length l.inputs → get_or l.inputs i no_input ≡ Object b → k < num_symbols b
    → row_at (map kept_of l.inputs) i k ≡ row_of l (record { file = i; symbol = k })
unfolding rows_of_object
row_kept l i k b within is among =
    ap (λ f. get_or f.rows k no_row) (file_at l.inputs i within ∙ ap kept_of is)
    ∙ get_or-map-range_with_len (row_of_symbol b) 0 (num_symbols b) k k no_row among (omega arith)
    ∙ ap (λ x. row_of_symbol (object_bytes x) k) (sym is)

pub count_kept : (l : Link) (i : ℕ) (b : List ℕ) → i < length l.inputs → get_or l.inputs i no_input ≡ Object b
    → row_count (map kept_of l.inputs) i ≡ num_symbols b
unfolding rows_of_object
count_kept l i b within is =
    ap (λ f. length f.rows) (file_at l.inputs i within ∙ ap kept_of is) ∙ length-map-range_with_len (row_of_symbol b) 0 (num_symbols b)

-- rows of a library
dylib_row : (l : Link) (i k : ℕ) (b : List ℕ) → i < length l.inputs → get_or l.inputs i no_input ≡ Dylib b
    → k < row_count (map kept_of l.inputs) i
    → (name : List ℕ) × (row_at (map kept_of l.inputs) i k ≡ offered_row name)
unfolding rows_of_dylib
dylib_row l i k b within is among =
    let file : get_or (map kept_of l.inputs) i no_file ≡ kept_of (Dylib b) = file_at l.inputs i within ∙ ap kept_of is in
    let rows = filter (is_offered b) (range_with_len 0 (num_symbols b)) in
    let long = length-map rows (λ j. offered_row (symbol_name b j)) in (
      symbol_name b (get_or rows k 0),
      ap (λ f. get_or f.rows k no_row) file
          ∙ offered_all (symbol_name b) rows k 0 (omega (arith, among, ap (λ f. length f.rows) file, long)),
    )

stub_row : (l : Link) (i k : ℕ) (text : List ℕ) (says : StubReading) → i < length l.inputs → get_or l.inputs i no_input ≡ Stub text says
    → k < row_count (map kept_of l.inputs) i
    → (name : List ℕ) × (row_at (map kept_of l.inputs) i k ≡ offered_row name)
unfolding rows_of_stub
stub_row l i k text says within is among =
    let file : get_or (map kept_of l.inputs) i no_file ≡ kept_of (Stub text says) = file_at l.inputs i within ∙ ap kept_of is in
    let rows : List (List ℕ) = says.names ++ says.weak_names in
    let long = length-map rows offered_row in (
      get_or rows k [],
      ap (λ f. get_or f.rows k no_row) file
          ∙ offered_all (λ n. n) rows k [] (omega (arith, among, ap (λ f. length f.rows) file, long)),
    )

-- the symbols of one input that pass are the events of its file that pass
passing_file : (l : Link) (test : Row → Bool) → PassesNone test → (i : ℕ) → i < length l.inputs → (x : Input)
    → get_or l.inputs i no_input ≡ x
    → map (event_of l) (filter (λ s. test (row_of l s)) (symbols_of_file i x)) ≡ filter (λ e. test e.row)
    (events_of_file (map kept_of l.inputs) i (row_count (map kept_of l.inputs) i))
unfolding events_of_file
passing_file l test none i within (Object b) is =
    rw (count_kept l i b within is)
    (sym (filter_made (λ e. test e.row) (λ s. test (row_of l s)) (event_at (map kept_of l.inputs) i)
    (λ k. record { file = i; symbol = k }) (event_of l) 0 (num_symbols b)
    (λ k low high.
    let same = row_kept l i k b within is (omega (arith, high)) in
    (ap (λ r. record { file = i; at = k; row = r }) (sym same), ap test same))))
passing_file l test none i within (Dylib b) is =
    sym (filter_nothing (λ e. test e.row) (event_at (map kept_of l.inputs) i) 0 (row_count (map kept_of l.inputs) i)
    (λ k low high. let row = dylib_row l i k b within is (omega (arith, high)) in ap test row.1 ∙ none row.0))
passing_file l test none i within (Stub text says) is =
    sym (filter_nothing (λ e. test e.row) (event_at (map kept_of l.inputs) i) 0 (row_count (map kept_of l.inputs) i)
    (λ k low high. let row = stub_row l i k text says within is (omega (arith, high)) in ap test row.1 ∙ none row.0))

-- The symbols that pass a test of rows are the events that pass it.
pub passing : (l : Link) (test : Row → Bool) → PassesNone test
    → map (event_of l) (filter (λ s. test (row_of l s)) (symbols_of l)) ≡ filter (λ e. test e.row) (events (map kept_of l.inputs))
unfolding symbols_of events_of
passing l test none =
    let files = map kept_of l.inputs in
    let p : SymbolId → Bool = λ s. test (row_of l s) in
    let of_file : ℕ → List SymbolId = λ i. symbols_of_file i (get_or l.inputs i no_input) in
    ap (λ xs. map (event_of l) (filter p (flat_map (λ i. symbols_of_file i.0 i.1) xs))) (enumerated l.inputs no_input)
    ∙ ap (λ xs. map (event_of l) (filter p xs))
    (flat_map-map (λ (i : ℕ × Input). symbols_of_file i.0 i.1) (λ i. (i, get_or l.inputs i no_input))
    (range_with_len 0 (length l.inputs)))
    ∙ ap (map (event_of l)) (filter-flat_map p of_file (range_with_len 0 (length l.inputs)))
    ∙ map_flat (event_of l) (λ i. filter p (of_file i)) (range_with_len 0 (length l.inputs))
    ∙ flat_map_same _ _ 0 (length l.inputs)
    (λ i low high. passing_file l test none i (omega (arith, high)) (get_or l.inputs i no_input) refl)
    ∙ sym (filter-flat_map (λ (e : Event). test e.row) (λ i. events_of_file files i (row_count files i))
    (range_with_len 0 (length l.inputs)))
    ∙ ap (λ n. filter (λ e. test e.row) (events_of files n)) (sym (length-map l.inputs kept_of))
