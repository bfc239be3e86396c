-- The libraries that offer a name. A library offers it where some of its rows has it; so the first event of an offered name
-- is of the first library that offers it, and there is none where no library does.
use Rattle.std.proofs.Common.{◌≡◌, ℕ, ◌+◌, ◌<◌, ◌≤◌, ◌⊎◌, inl, inr, Bool, true, false, cond, ◌&&◌, ◌||◌, ◌==◌, if◌then◌else◌, List, [], ◌∷◌, ◌++◌, length, map, filter, get_or, refl, ap, sym, ◌∙◌, arith, suc, zero}
use Rattle.std.specs.List.{list_any, range_with_len, flat_map}
use Rattle.std.specs.Str.{bytes_eq}
use Rattle.std.proofs.lemmas.Bool.{false≢true}
use Rattle.std.proofs.lemmas.List.{get_or-map, length-map, map-id}
use Rattle.std.proofs.lemmas.List.Folds.{list_any-append}
use Rattle.macho_model.specs.Links.{Input, Object, Dylib, Stub, Link, no_input, object_of}
use Rattle.macho_model.specs.Objects.{num_symbols, symbol_name, symbol_at}
use Rattle.macho_model.specs.Resolution.{offers, libraries_with}
use Rattle.macho_symbol_names.specs.declared.notes.Sort.TheVariants.{Section, Absolute, Common, Nowhere}
use Rattle.macho_symbol_names.specs.Kept.{FileRows, no_file, no_row, kept_of, row_of_symbol, rows_of_dylib, rows_of_stub, offered_row, is_offered, sort_of, in_carried}
use Rattle.macho_symbol_names.specs.Events.{Event, row_at, row_count, event_at, events_of_file, events_of, events, strength, strength_of, is_of}
use Rattle.macho_records.specs.declared.symbols.SymtabEntry.{SymtabEntry}
use Rattle.macho_records.specs.Symbols.{is_common_of, is_weak_of, has_type}
use Rattle.macho_records.specs.declared.constants.TheConstants.{N_ABS}
use Rattle.macho_symbol_names.proofs.Chains.{cases_eq}
use Rattle.macho_symbols.proofs.Bridge.{file_at, row_kept, count_kept}
use Rattle.macho_symbols.proofs.ListsMore.{filter_nothing}
use Rattle.macho_bytes.proofs.Maps.{filter-flat_map, enumerated, filter-map, any_filter, map_map}

abbrev is_offering : List ℕ → Event → Bool
is_offering name e = (strength e.row == 1) && is_of name e

-- the names that an input offers
abbrev names_offered : Input → List (List ℕ)
names_offered (Object b) = []
names_offered (Dylib b) = map (symbol_name b) (filter (is_offered b) (range_with_len 0 (num_symbols b)))
names_offered (Stub text says) = says.names ++ says.weak_names

any_map : {X : Type 0} (p : List ℕ → Bool) (f : X → List ℕ) (xs : List X) → list_any p (map f xs) ≡ list_any (λ x. p (f x)) xs
any_map p f [] = refl
any_map p f (x ∷ xs) = ap (λ t. p (f x) || t) (any_map p f xs)

-- an input offers a name where it is among those
offers_is : (name : List ℕ) (x : Input) → offers name x ≡ list_any (λ n. bytes_eq n name) (names_offered x)
offers_is name (Object b) = refl
offers_is name (Dylib b) =
    let r = range_with_len 0 (num_symbols b) in
    sym (any_map (λ n. bytes_eq n name) (symbol_name b) (filter (is_offered b) r)
    ∙ any_filter (λ k. bytes_eq (symbol_name b k) name) (is_offered b) r)
offers_is name (Stub text says) = sym (list_any-append (λ n. bytes_eq n name) says.names says.weak_names)

-- the rows of a library are of those names
library_row : (l : Link) (i k : ℕ) (x : Input) (names : List (List ℕ)) → i < length l.inputs
    → (get_or (map kept_of l.inputs) i no_file).rows ≡ map offered_row names → k < length names
    → row_at (map kept_of l.inputs) i k ≡ offered_row (get_or names k [])
library_row l i k x names within rows among = ap (λ rs. get_or rs k no_row) rows ∙ get_or-map offered_row names k [] no_row among

library_rows : (l : Link) (i : ℕ) (x : Input) → i < length l.inputs → get_or l.inputs i no_input ≡ x → ((b : List ℕ) → x ≡ Object b → ⊥)
    → (get_or (map kept_of l.inputs) i no_file).rows ≡ map offered_row (names_offered x)
unfolding rows_of_dylib rows_of_stub
library_rows l i (Object b) within is other = absurd (other b refl)
library_rows l i (Dylib b) within is other =
    ap (λ f. f.rows) (file_at l.inputs i within ∙ ap kept_of is)
    ∙ sym (map_map offered_row (symbol_name b) (filter (is_offered b) (range_with_len 0 (num_symbols b))))
library_rows l i (Stub text says) within is other = ap (λ f. f.rows) (file_at l.inputs i within ∙ ap kept_of is)

-- the first that passes, in a list made of a range
something : {Y : Type 0} (p : Y → Bool) (f : ℕ → Y) (a n k : ℕ) → a ≤ k → k < a + n → p (f k) ≡ true
    → (j : ℕ) × (more : List Y) × (filter p (map f (range_with_len a n)) ≡ f j ∷ more)
something {Y = Y} p f a zero k low high passes = absurd (omega (arith, low, high))
something {Y = Y} p f a (suc n) k low high passes = of (p (f a)) refl (λ h. something p f (a + 1) n k h (omega (arith, high)) passes)
  where
    of : (t : Bool) → p (f a) ≡ t → (a + 1 ≤ k → (j : ℕ) × (more : List Y) × (filter p (map f (range_with_len (a + 1) n)) ≡ f j ∷ more))
        → (j : ℕ) × (more : List Y) × (filter p (map f (range_with_len a (suc n))) ≡ f j ∷ more)
    of true is rest = (a, filter p (map f (range_with_len (a + 1) n)), rw is refl)
    of false is rest =
        let later : a + 1 ≤ k = not_first (cases_eq a k low) in let r = rest later in (r.0, r.1, rw is r.2)
      where
        not_first : (a ≡ k) ⊎ (a < k) → a + 1 ≤ k
        not_first (inl same) = absurd (false≢true (sym is ∙ ap (λ j. p (f j)) same ∙ passes))
        not_first (inr less) = omega (arith, less)

any_at : (p : List ℕ → Bool) (ns : List (List ℕ)) → list_any p ns ≡ true → (k : ℕ) × (k < length ns) × (p (get_or ns k []) ≡ true)
any_at p [] e = cc
any_at p (n ∷ ns) e = of (p n) refl e (λ h. any_at p ns h)
  where
    of : (t : Bool) → p n ≡ t → (p n || list_any p ns) ≡ true
        → (list_any p ns ≡ true → (k : ℕ) × (k < length ns) × (p (get_or ns k []) ≡ true))
        → (k : ℕ) × (k < length (n ∷ ns)) × (p (get_or (n ∷ ns) k []) ≡ true)
    of true is e rest = (0, omega arith, is)
    of false is e rest = let r = rest (ap (λ t. t || list_any p ns) (sym is) ∙ e) in (suc r.0, omega (arith, r.1), r.2)

none_at : (p : List ℕ → Bool) (ns : List (List ℕ)) (k : ℕ) → list_any p ns ≡ false → k < length ns → p (get_or ns k []) ≡ false
none_at p [] k e h = absurd (omega (arith, h))
none_at p (n ∷ ns) zero e h = of (p n) (list_any p ns) e
  where
    of : (t u : Bool) → (t || u) ≡ false → t ≡ false
    of true u e = e
    of false u e = refl
none_at p (n ∷ ns) (suc k) e h = none_at p ns k (of (p n) (list_any p ns) e) (omega (arith, h))
  where
    of : (t u : Bool) → (t || u) ≡ false → u ≡ false
    of true u e = absurd (false≢true (sym e))
    of false u e = e

-- no row of an object is offered
object_sort : (b : List ℕ) (e : SymtabEntry) → (strength_of (sort_of b e) (is_weak_of e) == 1) ≡ false
object_sort b e = of (in_carried b e) (has_type N_ABS e) (is_common_of e) (is_weak_of e)
  where
    of : (c a m w : Bool) → (strength_of (if c then Section else if a then Absolute else if m then Common else Nowhere) w == 1) ≡ false
    of true a m true = refl
    of true a m false = refl
    of false true m true = refl
    of false true m false = refl
    of false false true w = refl
    of false false false w = refl

-- the events of one file of an offered name, if it offers it
abbrev offering_in : Link → List ℕ → ℕ → List Event
offering_in l name i = filter (is_offering name) (events_of_file (map kept_of l.inputs) i (row_count (map kept_of l.inputs) i))

library_not : (l : Link) (name : List ℕ) (i k : ℕ) (x : Input) → i < length l.inputs
    → (get_or (map kept_of l.inputs) i no_file).rows ≡ map offered_row (names_offered x)
    → k < row_count (map kept_of l.inputs) i → offers name x ≡ false → is_offering name (event_at (map kept_of l.inputs) i k) ≡ false
library_not l name i k x within rows among no_offer =
    let long : row_count (map kept_of l.inputs) i ≡ length (names_offered x) = ap length rows ∙ length-map (names_offered x) offered_row in
    let there : k < length (names_offered x) = omega (arith, among, long) in
    ap (λ r. (strength r == 1) && (r.global && bytes_eq r.name name)) (library_row l i k x (names_offered x) within rows there)
    ∙ none_at (λ n. bytes_eq n name) (names_offered x) k (sym (offers_is name x) ∙ no_offer) there

no_offering : (l : Link) (name : List ℕ) (i : ℕ) (x : Input) → i < length l.inputs → get_or l.inputs i no_input ≡ x
    → offers name x ≡ false → offering_in l name i ≡ []
unfolding events_of_file row_of_symbol
no_offering l name i (Object b) within is no_offer =
    filter_nothing (is_offering name) (event_at (map kept_of l.inputs) i) 0 (row_count (map kept_of l.inputs) i)
    (λ k low high.
    let row = row_kept l i k b within is (omega (arith, high, count_kept l i b within is)) in
    let weaker : (strength (row_at (map kept_of l.inputs) i k) == 1) ≡ false = ap (λ r. strength r == 1) row
    ∙ object_sort (object_of l i) (symbol_at (object_of l i) k) in
    ap (λ t. t && is_of name (event_at (map kept_of l.inputs) i k)) weaker)
no_offering l name i (Dylib b) within is no_offer =
    filter_nothing (is_offering name) (event_at (map kept_of l.inputs) i) 0 (row_count (map kept_of l.inputs) i)
    (λ k low high. library_not l name i k (Dylib b) within (library_rows l i (Dylib b) within is (λ c e. cc))
    (omega (arith, high)) no_offer)
no_offering l name i (Stub text says) within is no_offer =
    filter_nothing (is_offering name) (event_at (map kept_of l.inputs) i) 0 (row_count (map kept_of l.inputs) i)
    (λ k low high. library_not l name i k (Stub text says) within (library_rows l i (Stub text says) within is (λ c e. cc))
    (omega (arith, high)) no_offer)

-- and where it does, the first is of this file
some_offering : (l : Link) (name : List ℕ) (i : ℕ) (x : Input) → i < length l.inputs
    → (get_or (map kept_of l.inputs) i no_file).rows ≡ map offered_row (names_offered x) → offers name x ≡ true
    → (j : ℕ) × (more : List Event) × (offering_in l name i ≡ event_at (map kept_of l.inputs) i j ∷ more)
unfolding events_of_file
some_offering l name i x within rows offer =
    let named = any_at (λ n. bytes_eq n name) (names_offered x) (sym (offers_is name x) ∙ offer) in
    let long : row_count (map kept_of l.inputs) i ≡ length (names_offered x) = ap length rows ∙ length-map (names_offered x) offered_row in
    something (is_offering name) (event_at (map kept_of l.inputs) i) 0 (row_count (map kept_of l.inputs) i) named.0 (omega arith)
    (omega (arith, named.1, long))
    (ap (λ r. (strength r == 1) && (r.global && bytes_eq r.name name)) (library_row l i named.0 x (names_offered x) within rows named.1)
    ∙ named.2)

-- The libraries that offer a name, by number, in order: those numbers whose file has such events.
offering_numbers : (l : Link) (name : List ℕ) → libraries_with l name ≡ filter (λ i. offers name (get_or l.inputs i no_input))
    (range_with_len 0 (length l.inputs))
unfolding libraries_with
offering_numbers l name =
    let r = range_with_len 0 (length l.inputs) in
    let g : ℕ → ℕ × Input = λ i. (i, get_or l.inputs i no_input) in
    ap (λ xs. map (λ (i : ℕ × Input). i.0) (filter (λ (i : ℕ × Input). offers name i.1) xs)) (enumerated l.inputs no_input)
    ∙ ap (map (λ (i : ℕ × Input). i.0)) (filter-map (λ (i : ℕ × Input). offers name i.1) g r)
    ∙ map_map (λ (i : ℕ × Input). i.0) g (filter (λ i. offers name (get_or l.inputs i no_input)) r)
    ∙ map-id (filter (λ i. offers name (get_or l.inputs i no_input)) r)

-- what joined lists begin with
pub record Begins (files : List FileRows) (numbers : List ℕ) (es : List Event) : Type 0 where
  pub empty : es ≡ [] → numbers ≡ []
  pub first : (b : Event) (more : List Event) → es ≡ b ∷ more → (others : List ℕ) × (numbers ≡ b.file ∷ others)

begins_at : (l : Link) (name : List ℕ) (a n : ℕ) → a + n ≤ length l.inputs
    → Begins (map kept_of l.inputs) (filter (λ i. offers name (get_or l.inputs i no_input)) (range_with_len a n))
    (flat_map (offering_in l name) (range_with_len a n))
begins_at l name a zero within = record { empty = λ e. refl; first = λ b more e. cc }
begins_at l name a (suc n) within = of (get_or l.inputs a no_input) refl (offers name (get_or l.inputs a no_input)) refl
    (begins_at l name (a + 1) n (omega (arith, within)))
  where
    here : a < length l.inputs
    here = omega (arith, within)

    test : ℕ → Bool
    test i = offers name (get_or l.inputs i no_input)

    without : test a ≡ false → offering_in l name a ≡ []
        → Begins (map kept_of l.inputs) (filter test (range_with_len (a + 1) n)) (flat_map (offering_in l name) (range_with_len (a + 1) n))
        → Begins (map kept_of l.inputs) (filter test (range_with_len a (suc n))) (flat_map (offering_in l name) (range_with_len a (suc n)))
    without fails none rest = rw (fails, none) rest

    with_first : test a ≡ true → (j : ℕ) × (more : List Event) × (offering_in l name a ≡ event_at (map kept_of l.inputs) a j ∷ more)
        → Begins (map kept_of l.inputs) (filter test (range_with_len a (suc n))) (flat_map (offering_in l name) (range_with_len a (suc n)))
    with_first passes some = record {
      empty = λ e. absurd (none_empty (ap (λ xs. xs ++ flat_map (offering_in l name) (range_with_len (a + 1) n)) (sym some.2) ∙ e));
      first = λ b more e. (
        filter test (range_with_len (a + 1) n),
        rw passes
            (ap (λ f. f ∷ filter test (range_with_len (a + 1) n))
            (is_file b more (ap (λ xs. xs ++ flat_map (offering_in l name) (range_with_len (a + 1) n)) (sym some.2) ∙ e))),
      );
    }
      where
        none_empty : event_at (map kept_of l.inputs) a some.0 ∷ (some.1 ++ flat_map (offering_in l name) (range_with_len (a + 1) n)) ≡ []
            → ⊥
        none_empty e = cc

        is_file : (b : Event) (more : List Event)
            → event_at (map kept_of l.inputs) a some.0 ∷ (some.1 ++ flat_map (offering_in l name) (range_with_len (a + 1) n)) ≡ b ∷ more
            → a ≡ b.file
        is_file b more e = let same : event_at (map kept_of l.inputs) a some.0 ≡ b = cc in ap (λ x. x.file) same

    of : (x : Input) → get_or l.inputs a no_input ≡ x → (t : Bool) → test a ≡ t
        → Begins (map kept_of l.inputs) (filter test (range_with_len (a + 1) n)) (flat_map (offering_in l name) (range_with_len (a + 1) n))
        → Begins (map kept_of l.inputs) (filter test (range_with_len a (suc n))) (flat_map (offering_in l name) (range_with_len a (suc n)))
    of x is false fails rest = without fails (no_offering l name a x here is (ap (offers name) (sym is) ∙ fails)) rest
    of (Object b) is true passes rest = absurd (false≢true (ap (offers name) (sym is) ∙ passes))
    of (Dylib b) is true passes rest = with_first passes
        (some_offering l name a (Dylib b) here (library_rows l a (Dylib b) here is (λ c e. cc)) (ap (offers name) (sym is) ∙ passes))
    of (Stub text says) is true passes rest =
        with_first passes
        (some_offering l name a (Stub text says) here (library_rows l a (Stub text says) here is (λ c e. cc))
        (ap (offers name) (sym is) ∙ passes))

-- all files together
all_offering : (l : Link) (name : List ℕ) → filter (is_offering name) (events (map kept_of l.inputs)) ≡ flat_map (offering_in l name)
    (range_with_len 0 (length l.inputs))
unfolding events_of
all_offering l name =
    ap (λ n. filter (is_offering name) (events_of (map kept_of l.inputs) n)) (length-map l.inputs kept_of)
    ∙ filter-flat_map (is_offering name) (λ i. events_of_file (map kept_of l.inputs) i (row_count (map kept_of l.inputs) i))
    (range_with_len 0 (length l.inputs))

pub libraries_empty : (l : Link) (name : List ℕ) → filter (is_offering name) (events (map kept_of l.inputs)) ≡ []
    → libraries_with l name ≡ []
libraries_empty l name e = offering_numbers l name
    ∙ (begins_at l name 0 (length l.inputs) (omega arith)).empty (sym (all_offering l name) ∙ e)

pub libraries_first : (l : Link) (name : List ℕ) (b : Event) (more : List Event)
    → filter (is_offering name) (events (map kept_of l.inputs)) ≡ b ∷ more
    → (others : List ℕ) × (libraries_with l name ≡ b.file ∷ others)
libraries_first l name b more e =
    let first = (begins_at l name 0 (length l.inputs) (omega arith)).first b more (sym (all_offering l name) ∙ e) in
    (first.0, offering_numbers l name ∙ first.1)
