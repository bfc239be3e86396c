-- The names of the offered symbols, gathered one by one.
--
-- Of the first n + 1 symbols those are offered that were among the first n, and symbol n if it is offered. Its name is new exactly where no
-- offered symbol before has it; then the symbol is the last of the first ones, and its name the last of its list. The first name that can't
-- be written is that of the first offered symbol that fails the test: where symbol n is the first, it stays so whatever follows.
use Rattle.std.proofs.Common.{◌≡◌, ℕ, ◌+◌, ◌<◌, ◌-◌, zero, suc, Bool, true, false, cond, not, ◌||◌, List, [], ◌∷◌, ◌++◌, map, filter, find, Option, None, Some, Bor, refl, sym, ap, ◌∙◌, arith, if◌then◌else◌}
use Rattle.std.specs.List.{list_any, range_with_len}
use Rattle.std.specs.Option.{option_map, option_or}
use Rattle.std.specs.Str.{bytes_eq}
use Rattle.std.proofs.lemmas.List.{append-nil, map-append}
use Rattle.std.proofs.lemmas.List.Elements.{filter-append}
use Rattle.std.proofs.lemmas.List.Folds.{list_any-append, find-append}
use Rattle.std.proofs.lemmas.Slice.Eq.{bytes_eq-Decides}
use Rattle.indexmap.specs.IndexSet.{insert_key}
use Rattle.macho_stub_lines.specs.Lists.{texts}
use Rattle.macho_model.specs.Objects.{num_symbols, symbol_name, install_name_of}
use Rattle.macho_model.specs.Links.{StubReading}
use Rattle.macho_model.specs.Needs.{distinct}
use Rattle.macho_symbol_names.specs.Kept.{is_offered}
use Rattle.macho_tbd.specs.declared.fault.TbdFault.{TbdFault}
use Rattle.macho_tbd.specs.declared.fault.TbdFault.TheVariants.{BadDylib, Unwritable, OutOfMemory}
use Rattle.macho_tbd.specs.declared.library.Gathered.{Gathered}
use Rattle.macho_tbd.specs.Offered.{same_name, is_weak_at, said_of, offered_symbols, first_symbols}
use Rattle.macho_tbd.specs.Writable.{Named, is_writable, names_of, unwritable_of}
use Rattle.macho_tbd.specs.steps.Gathered.{Gathers, IsRead, IsStopped, IsUnread, reading, with_name, offered_below, firsts_below, is_bad, is_among}
use Rattle.macho_tbd.proofs.Lists.{distinct_push, find_map}
use Rattle.macho_bytes.proofs.Comparing.{bytes_turn}
use Rattle.macho_bytes.proofs.Maps.{range_push, any_map, any_agree}

-- a symbol with its name
abbrev named_at : List ℕ → ℕ → Named
named_at b k = record { symbol = Some k; name = symbol_name b k }

-- ---- the set of names

abbrev same_text : Bor (List ℕ) → Bor (List ℕ) → Bool
same_text x y = bytes_eq x.now y.now

pub among_keys : (name : Bor (List ℕ)) (keys : List (Bor (List ℕ))) → list_any (same_text name) keys ≡ is_among name.now keys
among_keys name keys =
    any_agree (same_text name) (λ y. bytes_eq y.now name.now) (λ y. bytes_turn name.now y.now) keys
    ∙ sym (any_map (λ other. bytes_eq other name.now) (λ (y : Bor (List ℕ)). y.now) keys)

-- a name that is the same as one among them is among them
among_same : (name other : List ℕ) (keys : List (Bor (List ℕ))) → bytes_eq name other ≡ true → is_among name keys ≡ is_among other keys
among_same name other keys e = ap (λ (n : List ℕ). is_among n keys) ((bytes_eq-Decides name other).0 e)

pub among_put : (name : Bor (List ℕ)) (old new : List (Bor (List ℕ))) (other : List ℕ) → new ≡ insert_key same_text old name
    → is_among other new ≡ (is_among other old || bytes_eq name.now other)
among_put name old new other is = ap (is_among other) is ∙ by (list_any (same_text name) old) refl
  where
    known : (t : Bool) → bytes_eq name.now other ≡ t → list_any (same_text name) old ≡ true
        → is_among other old ≡ (is_among other old || t)
    known true e there =
        let here : is_among other old ≡ true = sym (among_same name.now other old e) ∙ sym (among_keys name old) ∙ there in
        here ∙ sym (ap (λ (a : Bool). a || true) here)
    known false e there = or_false (is_among other old)
      where
        or_false : (a : Bool) → a ≡ (a || false)
        or_false true = refl
        or_false false = refl

    or_last : (a b : Bool) → (a || (b || false)) ≡ (a || b)
    or_last true b = refl
    or_last false true = refl
    or_last false false = refl

    by : (t : Bool) → list_any (same_text name) old ≡ t
        → is_among other (cond t old (old ++ name ∷ [])) ≡ (is_among other old || bytes_eq name.now other)
    by true there = known (bytes_eq name.now other) refl there
    by false new =
        ap (list_any (λ n. bytes_eq n other)) (map-append (λ (y : Bor (List ℕ)). y.now) old (name ∷ []))
        ∙ list_any-append (λ n. bytes_eq n other) (texts old) (name.now ∷ [])
        ∙ or_last (is_among other old) (bytes_eq name.now other)

-- ---- one symbol more

below_more : (b : List ℕ) (n : ℕ) → offered_below b (n + 1) ≡ offered_below b n ++ cond (is_offered b n) (n ∷ []) []
unfolding offered_below
below_more b n =
    ap (filter (is_offered b)) (range_push n) ∙ filter-append (is_offered b) (range_with_len 0 n) (n ∷ [])

below_skipped : (b : List ℕ) (n : ℕ) → is_offered b n ≡ false → offered_below b (n + 1) ≡ offered_below b n
below_skipped b n e =
    below_more b n ∙ ap (λ (t : Bool). offered_below b n ++ cond t (n ∷ []) []) e ∙ append-nil (offered_below b n)

below_pushed : (b : List ℕ) (n : ℕ) → is_offered b n ≡ true → offered_below b (n + 1) ≡ offered_below b n ++ n ∷ []
below_pushed b n e = below_more b n ∙ ap (λ (t : Bool). offered_below b n ++ cond t (n ∷ []) []) e

-- an offered symbol before has the name of this one
abbrev is_known : List ℕ → ℕ → Bool
is_known b n = list_any (λ k. bytes_eq (symbol_name b k) (symbol_name b n)) (offered_below b n)

firsts_pushed : (b : List ℕ) (n : ℕ) → is_offered b n ≡ true
    → firsts_below b (n + 1) ≡ cond (is_known b n) (firsts_below b n) (firsts_below b n ++ n ∷ [])
unfolding firsts_below
firsts_pushed b n e = ap (distinct (same_name b)) (below_pushed b n e) ∙ distinct_push (same_name b) (offered_below b n) n

pub gathers_skipped : (b : List ℕ) (n : ℕ) (g : Gathered) → is_offered b n ≡ false → Gathers b n g → Gathers b (n + 1) g
unfolding firsts_below
gathers_skipped b n g e h =
    let same : offered_below b (n + 1) ≡ offered_below b n = below_skipped b n e in
    record {
      names = h.names ∙ sym (ap (λ xs. map (symbol_name b) (filter (λ k. not (is_weak_at b k)) (distinct (same_name b) xs))) same);
      weak_names = h.weak_names ∙ sym (ap (λ xs. map (symbol_name b) (filter (is_weak_at b) (distinct (same_name b) xs))) same);
      seen = λ name. h.seen name ∙ sym (ap (list_any (λ k. bytes_eq (symbol_name b k) name)) same);
      writable = ap (find (is_bad b)) same ∙ h.writable;
    }

-- the names of some symbols, of which some pass a test, with one symbol more
names_pushed : (name : ℕ → List ℕ) (p : ℕ → Bool) (xs : List ℕ) (n : ℕ)
    → map name (filter p (xs ++ n ∷ [])) ≡ map name (filter p xs) ++ cond (p n) (name n ∷ []) []
names_pushed name p xs n =
    ap (map name) (filter-append p xs (n ∷ [])) ∙ map-append name (filter p xs) (cond (p n) (n ∷ []) [])
    ∙ ap (λ (ys : List (List ℕ)). map name (filter p xs) ++ ys) (by (p n))
  where
    by : (t : Bool) → map name (cond t (n ∷ []) []) ≡ cond t (name n ∷ []) []
    by true = refl
    by false = refl

-- the two lists of a library with one name more
names_with : (r : StubReading) (w : Bool) (name : List ℕ) → (with_name r w name).names ≡ r.names ++ cond (not w) (name ∷ []) []
names_with r true name = sym (append-nil r.names)
names_with r false name = refl

weak_names_with : (r : StubReading) (w : Bool) (name : List ℕ)
    → (with_name r w name).weak_names ≡ r.weak_names ++ cond w (name ∷ []) []
weak_names_with r true name = refl
weak_names_with r false name = sym (append-nil r.weak_names)

pub gathers_pushed : (b : List ℕ) (n : ℕ) (g h : Gathered) (name : List ℕ) → is_offered b n ≡ true → name ≡ symbol_name b n
    → is_writable name ≡ true → Gathers b n g
    → ((other : List ℕ) → is_among other h.seen.keys ≡ (is_among other g.seen.keys || bytes_eq name other))
    → reading h.library
    ≡ (if is_among name g.seen.keys then reading g.library else with_name (reading g.library) (is_weak_at b n) name)
    → Gathers b (n + 1) h
gathers_pushed b n g h name e is good so_far put says = by (is_known b n) refl
  where
    or_more : (s t : Bool) → (s || t) ≡ (s || (t || false))
    or_more true t = refl
    or_more false true = refl
    or_more false false = refl

    known : is_among name g.seen.keys ≡ is_known b n
    known = so_far.seen name ∙ ap (λ (m : List ℕ). list_any (λ k. bytes_eq (symbol_name b k) m) (offered_below b n)) is

    seen : (other : List ℕ) → is_among other h.seen.keys ≡ list_any (λ k. bytes_eq (symbol_name b k) other) (offered_below b (n + 1))
    seen other =
        put other ∙ ap (λ (t : Bool). t || bytes_eq name other) (so_far.seen other)
        ∙ ap (λ (m : List ℕ). list_any (λ k. bytes_eq (symbol_name b k) other) (offered_below b n) || bytes_eq m other) is
        ∙ or_more (list_any (λ k. bytes_eq (symbol_name b k) other) (offered_below b n)) (bytes_eq (symbol_name b n) other)
        ∙ sym (list_any-append (λ k. bytes_eq (symbol_name b k) other) (offered_below b n) (n ∷ []))
        ∙ sym (ap (list_any (λ k. bytes_eq (symbol_name b k) other)) (below_pushed b n e))

    writable : find (is_bad b) (offered_below b (n + 1)) ≡ None
    writable =
        ap (find (is_bad b)) (below_pushed b n e) ∙ find-append (is_bad b) (offered_below b n) (n ∷ [])
        ∙ ap (λ (r : Option ℕ). option_or r (find (is_bad b) (n ∷ []))) so_far.writable
        ∙ ap (λ (t : Bool). cond (not t) (Some n) None) (sym (ap is_writable is) ∙ good)

    after : Bool → StubReading
    after t = if t then reading g.library else with_name (reading g.library) (is_weak_at b n) name

    by : (t : Bool) → is_known b n ≡ t → Gathers b (n + 1) h
    by true is_true =
        let firsts : firsts_below b (n + 1) ≡ firsts_below b n
        = firsts_pushed b n e ∙ ap (λ (t : Bool). cond t (firsts_below b n) (firsts_below b n ++ n ∷ [])) is_true in
        let same : reading h.library ≡ reading g.library
        = says ∙ ap after (known ∙ is_true) in
        record {
          names = ap (λ r. r.names) same ∙ so_far.names
              ∙ sym (ap (λ xs. map (symbol_name b) (filter (λ k. not (is_weak_at b k)) xs)) firsts);
          weak_names = ap (λ r. r.weak_names) same ∙ so_far.weak_names
              ∙ sym (ap (λ xs. map (symbol_name b) (filter (is_weak_at b) xs)) firsts);
          seen = seen;
          writable = writable;
        }
    by false is_false =
        let xs : List ℕ = firsts_below b n in
        let w : Bool = is_weak_at b n in
        let firsts : firsts_below b (n + 1) ≡ xs ++ n ∷ []
        = firsts_pushed b n e ∙ ap (λ (t : Bool). cond t (firsts_below b n) (firsts_below b n ++ n ∷ [])) is_false in
        let more : reading h.library ≡ with_name (reading g.library) (is_weak_at b n) name
        = says ∙ ap after (known ∙ is_false) in
        record {
          names = ap (λ r. r.names) more ∙ names_with (reading g.library) w name
              ∙ ap (λ ys. ys ++ cond (not w) (name ∷ []) []) so_far.names
              ∙ ap (λ m. map (symbol_name b) (filter (λ k. not (is_weak_at b k)) xs) ++ cond (not w) (m ∷ []) []) is
              ∙ sym (names_pushed (symbol_name b) (λ k. not (is_weak_at b k)) xs n)
              ∙ sym (ap (λ ys. map (symbol_name b) (filter (λ k. not (is_weak_at b k)) ys)) firsts);
          weak_names = ap (λ r. r.weak_names) more ∙ weak_names_with (reading g.library) w name
              ∙ ap (λ ys. ys ++ cond w (name ∷ []) []) so_far.weak_names
              ∙ ap (λ m. map (symbol_name b) (filter (is_weak_at b) xs) ++ cond w (m ∷ []) []) is
              ∙ sym (names_pushed (symbol_name b) (is_weak_at b) xs n)
              ∙ sym (ap (λ ys. map (symbol_name b) (filter (is_weak_at b) ys)) firsts);
          seen = seen;
          writable = writable;
        }

-- ---- the first name that can't be written

bad_stays : (b : List ℕ) (n k : ℕ) → find (is_bad b) (offered_below b k) ≡ Some n → find (is_bad b) (offered_below b (k + 1)) ≡ Some n
bad_stays b n k e =
    ap (find (is_bad b)) (below_more b k) ∙ find-append (is_bad b) (offered_below b k) (cond (is_offered b k) (k ∷ []) [])
    ∙ ap (λ (r : Option ℕ). option_or r (find (is_bad b) (cond (is_offered b k) (k ∷ []) []))) e

bad_from : (b : List ℕ) (n from d : ℕ) → find (is_bad b) (offered_below b from) ≡ Some n
    → find (is_bad b) (offered_below b (d + from)) ≡ Some n
bad_from b n from zero e = ap (λ (k : ℕ). find (is_bad b) (offered_below b k)) (omega arith) ∙ e
bad_from b n from (suc d) e =
    ap (λ (k : ℕ). find (is_bad b) (offered_below b k)) (omega arith) ∙ bad_stays b n (d + from) (bad_from b n from d e)

pub first_bad : (b : List ℕ) (n m : ℕ) → n < m → is_offered b n ≡ true → is_bad b n ≡ true → find (is_bad b) (offered_below b n) ≡ None
    → find (is_bad b) (offered_below b m) ≡ Some n
first_bad b n m low e bad none =
    let here : find (is_bad b) (offered_below b (n + 1)) ≡ Some n
    = ap (find (is_bad b)) (below_pushed b n e) ∙ find-append (is_bad b) (offered_below b n) (n ∷ [])
    ∙ ap (λ (r : Option ℕ). option_or r (find (is_bad b) (n ∷ []))) none ∙ ap (λ (t : Bool). cond t (Some n) None) bad in
    ap (λ (k : ℕ). find (is_bad b) (offered_below b k)) (omega arith) ∙ bad_from b n (n + 1) (m - (n + 1)) here

pub bad_install_name : (b : List ℕ) → is_writable (install_name_of b) ≡ false → unwritable_of b ≡ Some None
unfolding unwritable_of names_of
bad_install_name b e = rw e refl

pub good_install_name : (b : List ℕ) → is_writable (install_name_of b) ≡ true
    → unwritable_of b ≡ option_map (λ k. Some k) (find (is_bad b) (offered_below b (num_symbols b)))
unfolding unwritable_of names_of offered_symbols offered_below
good_install_name b e =
    rw e (ap (option_map (λ named. named.symbol)) (find_map (λ named. not (is_writable named.name))
    (named_at b) (filter (is_offered b) (range_with_len 0 (num_symbols b))))
    ∙ by (find (is_bad b) (filter (is_offered b) (range_with_len 0 (num_symbols b)))))
  where
    by : (r : Option ℕ) → option_map (λ named. named.symbol) (option_map (named_at b) r) ≡ option_map (λ k. Some k) r
    by None = refl
    by (Some k) = refl

-- ---- all symbols

pub read_whole : (b : List ℕ) (g : Gathered) → is_writable (install_name_of b) ≡ true → g.library.install_name.now ≡ install_name_of b
    → Gathers b (num_symbols b) g → IsRead b g.library
unfolding said_of first_symbols offered_symbols firsts_below offered_below
read_whole b g good install h = record {
  says = λ i. record { install_name = install i; names = h.names i; weak_names = h.weak_names i };
  writable = good_install_name b good ∙ ap (option_map (λ k. Some k)) h.writable;
}

-- a library before its symbols are read
pub gathers_none : (b : List ℕ) (g : Gathered) → g.library.names.items ≡ [] → g.library.weak_names.items ≡ [] → g.seen.keys ≡ []
    → Gathers b 0 g
unfolding offered_below firsts_below
gathers_none b g names weak_names seen = record {
  names = ap texts names;
  weak_names = ap texts weak_names;
  seen = λ name. ap (is_among name) seen;
  writable = refl;
}

-- ---- what calls tell

-- a name that is text can be written, and the text is the name
pub writes : (name text : List ℕ) → Some text ≡ (if is_writable name then Some name else None) → (is_writable name ≡ true) × (text ≡ name)
writes name text e = by (is_writable name) refl e
  where
    by : (t : Bool) → is_writable name ≡ t → Some text ≡ (if t then Some name else None) → (is_writable name ≡ true) × (text ≡ name)
    by true is e = (is, cc)
    by false is e = absurd cc

pub writes_not : (name : List ℕ) → None ≡ (if is_writable name then Some name else None) → is_writable name ≡ false
writes_not name e = by (is_writable name) e
  where
    by : (t : Bool) → None ≡ (if t then Some name else None) → t ≡ false
    by true e = absurd cc
    by false e = refl

-- the install name stays
pub same_install_name : (r : StubReading) (w : Bool) (name : List ℕ) → (with_name r w name).install_name ≡ r.install_name
same_install_name r true name = refl
same_install_name r false name = refl

-- what is new wasn't among them
pub was_new : (new known : Bool) → new ≡ not known → new ≡ true → known ≡ false
was_new new true e t = absurd cc
was_new new false e t = refl

pub was_known : (new known : Bool) → new ≡ not known → new ≡ false → known ≡ true
was_known new true e t = refl
was_known new false e t = absurd cc

-- where the gathering stops
pub stopped : (b : List ℕ) (k : ℕ) (g : Gathered) (fault : TbdFault) → k < num_symbols b → is_writable (install_name_of b) ≡ true
    → Gathers b k g → IsStopped b k fault → IsUnread b fault
stopped b k g (BadDylib fault) low good so_far h = h
stopped b k g (Unwritable symbol) low good so_far h =
    good_install_name b good
    ∙ ap (option_map (λ k. Some k)) (first_bad b k (num_symbols b) low h.1 h.2 so_far.writable) ∙ ap Some (sym h.0)
stopped b k g OutOfMemory low good so_far h = tt

-- the answer of the accessor of install names
pub install_name_from : (b : List ℕ) (dynamic : Bool) (name : List ℕ) → dynamic ≡ true
    → Some name ≡ (if dynamic then Some (install_name_of b) else None) → name ≡ install_name_of b
install_name_from b true name e is = cc
install_name_from b false name e is = absurd cc
