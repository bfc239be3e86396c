-- The symbols of the table, listed object by object.
--
-- A symbol of an object is looked at in the object's own bytes, which are those of the link's file of its number. Listing the
-- symbols up to one more adds that one where it stands in the table, with the bytes of its name and a NUL. The objects are
-- those of the link in order, so their symbols one behind the other are the link's.
use Rattle.std.proofs.Common.{◌≡◌, ℕ, ◌+◌, ◌-◌, ◌^◌, ◌<◌, ◌≤◌, ◌==◌, ◌&&◌, ◌||◌, not, if◌then◌else◌, Bool, true, false, cond, List, [], ◌∷◌, ◌++◌, map, take, drop, length, get_or, refl, sym, ap, subst, ◌∙◌, arith, Option, Some, None}
use Rattle.std.specs.Prelude.{All, Contains, filter, sum_by, bit_and}
use Rattle.std.specs.List.{flat_map, filter_map, cons_option, enumerate_from, position_or_len}
use Rattle.std.proofs.lemmas.Bool.Decides.{nat_tests}
use Rattle.std.proofs.lemmas.List.{append-nil, append_assoc, get_or_default, length-take, length-drop, map-append, take_more}
use Rattle.std.proofs.lemmas.List.Concat.{flat_map-append}
use Rattle.std.proofs.lemmas.List.Elements.{All-nil, All-push, filter-append}
use Rattle.std.proofs.lemmas.List.Folds.{flat_map-map}
use Rattle.std.proofs.lemmas.List.FromFn.{map-range_with_len_more, get_or-enumerate_from, length-enumerate_from}
use Rattle.std.proofs.lemmas.List.Sums.{sum_by-append, sum_by-cons, prefix_len-le-length}
use Rattle.macho_bytes.specs.Texts.{name_of}
use Rattle.macho_records.specs.Symbols.{is_common_of, is_stab_of, has_type, is_global}
use Rattle.macho_records.specs.Flags.{has_any}
use Rattle.macho_records.specs.declared.symbols.SymtabEntry.{SymtabEntry}
use Rattle.macho_records.specs.declared.constants.TheConstants.{N_ABS, N_EXT, N_SECT, N_TYPE, N_UNDF}
use Rattle.macho_model.specs.Objects.{num_symbols, section_at, symtab_of, symbol_at, symbol_name, strings_of}
use Rattle.macho_model.specs.Grammar.{IsFile}
use Rattle.macho_model.proofs.ObjectLaws.{object_keeps, dylib_keeps}
use Rattle.macho_model.specs.Links.{Input, Object, Dylib, Stub, Link, no_input, object_bytes, object_of, is_carried}
use Rattle.macho_model.specs.Resolution.{SymbolId, name_at, defines, symbols_of_file, symbols_of}
use Rattle.macho_model.specs.SymbolTable.{table_symbols}
use Rattle.macho_promise.specs.Sizes.{text_size}
use Rattle.macho_symbol_names.specs.Kept.{in_carried}
use Rattle.macho_symbols.specs.Kept.{symbol_id}
use Rattle.macho_linkedit.specs.declared.names.Names.{Names}
use Rattle.macho_linkedit.specs.steps.Names.{AreNames}
use Rattle.macho_linkedit.specs.declared.listing.LinkedObject.{LinkedObject}
use Rattle.macho_linkedit.specs.declared.listing.TableSymbol.{TableSymbol}
use Rattle.macho_linkedit.specs.declared.listing.TableSymbols.{TableSymbols}
use Rattle.macho_linkedit.specs.Listing.{object_in, seen_object, AreObjects, id_of_symbol, HasLength, AreListed}
use Rattle.macho_linkedit.specs.steps.Listing.{is_defined_symbol, is_label, name_length, symbols_in, Lists}
use Rattle.macho_model.specs.steps.SymbolTable.{is_in_table}
use Rattle.macho_bytes.proofs.Members.{contains_map, filter_map_contains}

-- a symbol is in the table by what its object's bytes say
in_table_is : (l : Link) (file k : ℕ) (b : List ℕ) → object_of l file ≡ b
    → is_in_table l (symbol_id file k)
    ≡ (is_defined_symbol b k && (if is_global (symbol_at b k) then defines l (symbol_id file k) else not
    (is_label (symbol_name b k))))
in_table_is l file k b is =
    subst (λ (x : List ℕ). is_in_table l (symbol_id file k)
    ≡ (is_defined_symbol x k && (if is_global (symbol_at x k) then defines l (symbol_id file k) else not
    (is_label (symbol_name x k))))) is
    refl

pub name_is : (l : Link) (file k : ℕ) (b : List ℕ) (listed : Bool) → object_of l file ≡ b → is_defined_symbol b k ≡ true
    → listed ≡ (if is_global (symbol_at b k) then defines l (symbol_id file k) else not
    (is_label (symbol_name b k)))
    → name_length l (symbol_id file k) ≡ (if listed then Some (length (symbol_name b k)) else None)
name_is l file k b listed is defined chosen =
    ap (λ (t : Bool). if t then Some (length (name_at l (symbol_id file k))) else None)
    (in_table_is l file k b is
    ∙ ap (λ (t : Bool). t && (if is_global (symbol_at b k) then defines l (symbol_id file k) else not
    (is_label (symbol_name b k)))) defined
    ∙ sym chosen)
    ∙ ap (λ (x : List ℕ). if listed then Some (length (symbol_name x k)) else None) is

-- the same of a global symbol, and of a local one
pub global_is : (l : Link) (file k : ℕ) (b : List ℕ) (listed : Bool) → object_of l file ≡ b → is_defined_symbol b k ≡ true
    → is_global (symbol_at b k) ≡ true → listed ≡ defines l (symbol_id file k)
    → name_length l (symbol_id file k) ≡ (if listed then Some (length (symbol_name b k)) else None)
global_is l file k b listed is defined global chosen =
    name_is l file k b listed is defined (chosen ∙ ap (λ (t : Bool). if t then defines l (symbol_id file k) else not
    (is_label (symbol_name b k))) (sym global))

pub local_is : (l : Link) (file k : ℕ) (b : List ℕ) (listed : Bool) → object_of l file ≡ b → is_defined_symbol b k ≡ true
    → is_global (symbol_at b k) ≡ false → listed ≡ not (is_label (symbol_name b k))
    → name_length l (symbol_id file k) ≡ (if listed then Some (length (symbol_name b k)) else None)
local_is l file k b listed is defined global chosen =
    name_is l file k b listed is defined (chosen ∙ ap (λ (t : Bool). if t then defines l (symbol_id file k) else not
    (is_label (symbol_name b k))) (sym global))

-- a symbol that is defined and not global is external in no way
external_is : (unnamed stab external section carried absolute undefined empty label : Bool)
    → (not unnamed && (((not stab && section) && carried) || (not stab && absolute)
    || ((not stab && undefined) && external && not empty))) ≡ true
    → (not stab && external) ≡ false → (not external && label) ≡ label
external_is true true external section carried absolute undefined empty label h g = cc
external_is false true external section carried absolute undefined empty label h g = cc
external_is unnamed false true section carried absolute undefined empty label h g = cc
external_is unnamed false false section carried absolute undefined empty label h g = refl

pub label_is : (b : List ℕ) (k : ℕ) (name : List ℕ) → is_defined_symbol b k ≡ true → is_global (symbol_at b k) ≡ false
    → (not (has_any N_EXT (symbol_at b k).n_type) && is_label name) ≡ is_label name
label_is b k name defined local =
    let e = symbol_at b k in
    external_is (e.n_strx == 0) (is_stab_of e) (has_any N_EXT e.n_type) (bit_and e.n_type N_TYPE == N_SECT)
    (is_carried (section_at b (e.n_sect - 1))) (bit_and e.n_type N_TYPE == N_ABS) (bit_and e.n_type N_TYPE == N_UNDF) (e.n_value == 0)
    (is_label name) defined local

-- a name is shorter than its file
file_small : (dyn : Bool) (b : List ℕ) → IsFile dyn b → length b < 2 ^ 32
file_small true b whole = grind (arith, nat_tests, (dylib_keeps whole).o1)
file_small false b whole = grind (arith, nat_tests, (object_keeps whole).o1)

pub name_small : (dyn : Bool) (b : List ℕ) (k : ℕ) → IsFile dyn b → length (symbol_name b k) + 1 < 2 ^ 32
unfolding symbol_name strings_of
name_small dyn b k whole = by ((symbol_at b k).n_strx == 0) refl
  where
    at : ℕ
    at = (symbol_at b k).n_strx

    strings : List ℕ
    strings = take ((symtab_of b).stroff + (symtab_of b).strsize - (symtab_of b).stroff) (drop (symtab_of b).stroff b)

    by : (t : Bool) → (at == 0) ≡ t → length (if t then [] else name_of (drop at strings)) + 1 < 2 ^ 32
    by true none = omega arith
    by false some =
        let one : 1 ≤ at = grind (arith, nat_tests) in
        omega (
          arith,
          one,
          file_small dyn b whole,
          length-take (position_or_len (λ b. b == 0) (drop at strings)) (drop at strings),
          length-drop at strings,
          length-take ((symtab_of b).stroff + (symtab_of b).strsize - (symtab_of b).stroff) (drop (symtab_of b).stroff b),
          length-drop (symtab_of b).stroff b,
        )

-- the name that is found at the place of a symbol that is defined
named_is : (b : List ℕ) (k : ℕ) → is_defined_symbol b k ≡ true → name_of (drop (symbol_at b k).n_strx (strings_of b)) ≡ symbol_name b k
unfolding symbol_name
named_is b k defined = by ((symbol_at b k).n_strx == 0) defined
  where
    by : (t : Bool) → (not t && (in_carried b (symbol_at b k) || has_type N_ABS (symbol_at b k) || is_common_of (symbol_at b k))) ≡ true
        → name_of (drop (symbol_at b k).n_strx (strings_of b)) ≡ (if t then [] else name_of (drop (symbol_at b k).n_strx (strings_of b)))
    by true h = cc
    by false h = refl

pub found_name : (n : Names) (b : List ℕ) (k : ℕ) (e : SymtabEntry) (name : List ℕ) → AreNames (strings_of b) n → e ≡ symbol_at b k
    → is_defined_symbol b k ≡ true → name ≡ name_of (drop e.n_strx n.strings.now) → name ≡ symbol_name b k
found_name n b k e name are entry defined is =
    is ∙ ap (λ (xs : List ℕ). name_of (drop e.n_strx xs)) are.strings_are
    ∙ ap (λ (x : SymtabEntry). name_of (drop x.n_strx (strings_of b))) entry ∙ named_is b k defined

-- equal entries have equal names
pub same_name : (b : List ℕ) (i k : ℕ) → symbol_at b i ≡ symbol_at b k → symbol_name b i ≡ symbol_name b k
unfolding symbol_name
same_name b i k same = ap (λ (e : SymtabEntry). if e.n_strx == 0 then [] else name_of (drop e.n_strx (strings_of b))) same

-- a name of so many bytes, one or more, stands whole in the string table
pub name_taken : (b : List ℕ) (k size : ℕ) → size ≡ length (symbol_name b k) → (size ≡ 0 → ⊥)
    → ((symbol_at b k).n_strx + size ≤ length (strings_of b))
    × (take size (drop (symbol_at b k).n_strx (strings_of b)) ≡ symbol_name b k)
unfolding symbol_name
name_taken b k size long some = by ((symbol_at b k).n_strx == 0) long
  where
    behind : List ℕ
    behind = drop (symbol_at b k).n_strx (strings_of b)

    end : ℕ
    end = position_or_len (λ c. c == 0) behind

    within : end ≤ length behind
    within = prefix_len-le-length _ behind

    by : (t : Bool) → size ≡ length (if t then [] else name_of behind)
        → ((symbol_at b k).n_strx + size ≤ length (strings_of b)) × (take size behind ≡ (if t then [] else name_of behind))
    by true is = absurd (some is)
    by false is =
        let same : size ≡ end = omega (arith, is, within, length-take end behind) in (
          omega (arith, same, within, some, length-drop (symbol_at b k).n_strx (strings_of b)),
          ap (λ (n : ℕ). take n behind) same,
        )

-- what holds of a string table holds of the names' own one
pub own_names : (strings : List ℕ) (n : Names) → AreNames strings n → AreNames n.strings.now n
own_names strings n are = subst (λ (xs : List ℕ). AreNames xs n) (sym are.strings_are) are

-- one symbol more
filter_more : {X : Type 0} (p : X → Bool) (xs : List X) (x : X) (b : Bool) → p x ≡ b → filter p (xs ++ x ∷ []) ≡ filter p xs ++ cond b
    (x ∷ []) []
filter_more {X} p xs x b is = filter-append p xs (x ∷ []) ∙ ap (λ (t : Bool). filter p xs ++ cond t (x ∷ []) []) is

symbols_more : (file n : ℕ) (b : List ℕ) → symbols_in file b (n + 1) ≡ symbols_in file b n ++ symbol_id file n ∷ []
symbols_more file n b = map-range_with_len_more (λ k. symbol_id file k) 0 n n (omega arith)

pub lists_none : (l : Link) (file : ℕ) (b : List ℕ) (t : TableSymbols) → Lists l (symbols_in file b 0) t t
lists_none l file b t =
    record { symbols_are = sym (append-nil (map id_of_symbol t.symbols.items)); lengths_are = λ told. told; strings_are = omega arith }

pub lists_skip : (l : Link) (file n : ℕ) (b : List ℕ) (old now : TableSymbols) → Lists l (symbols_in file b n) old now
    → None ≡ name_length l (symbol_id file n) → Lists l (symbols_in file b (n + 1)) old now
lists_skip l file n b old now done none = record {
  symbols_are = done.symbols_are ∙ ap (λ (xs : List SymbolId). map id_of_symbol old.symbols.items ++ xs) same;
  lengths_are = done.lengths_are;
  strings_are = done.strings_are ∙ ap (λ (xs : List SymbolId). old.strings + sum_by (λ s. text_size (name_at l s)) xs) same;
}
  where
    out : (t : Bool) → is_in_table l (symbol_id file n) ≡ t → None ≡ (if t then Some (length (name_at l (symbol_id file n))) else None)
        → t ≡ false
    out true is h = absurd cc
    out false is h = refl

    fails : is_in_table l (symbol_id file n) ≡ false
    fails = out (is_in_table l (symbol_id file n)) refl none

    same : filter (is_in_table l) (symbols_in file b n) ≡ filter (is_in_table l) (symbols_in file b (n + 1))
    same =
        sym (ap (filter (is_in_table l)) (symbols_more file n b)
        ∙ filter_more (is_in_table l) (symbols_in file b n) (symbol_id file n) false fails ∙ append-nil
        (filter (is_in_table l) (symbols_in file b n)))

pub lists_add : (l : Link) (file n size : ℕ) (b : List ℕ) (old now next : TableSymbols) → Lists l (symbols_in file b n) old now
    → Some size ≡ name_length l (symbol_id file n)
    → next.symbols.items ≡ now.symbols.items ++ record { file = file; symbol = n; length = size } ∷ []
    → next.strings ≡ now.strings + (size + 1) → Lists l (symbols_in file b (n + 1)) old next
lists_add l file n size b old now next done some pushed counted = record {
  symbols_are =
      ap (map id_of_symbol) pushed ∙ map-append id_of_symbol now.symbols.items (s ∷ [])
      ∙ ap (λ (xs : List SymbolId). xs ++ symbol_id file n ∷ []) done.symbols_are
      ∙ append_assoc (map id_of_symbol old.symbols.items) (filter (is_in_table l) (symbols_in file b n)) (symbol_id file n ∷ [])
      ∙ ap (λ (xs : List SymbolId). map id_of_symbol old.symbols.items ++ xs) (sym more);
  lengths_are = λ told. subst (All (HasLength l)) (sym pushed) (All-push (HasLength l) now.symbols.items s (done.lengths_are told) there.1);
  strings_are =
      omega (
        arith,
        counted,
        done.strings_are,
        ap (λ (xs : List SymbolId). sum_by (λ s. text_size (name_at l s)) xs) more,
        sum_by-append (λ s. text_size (name_at l s)) (filter (is_in_table l) (symbols_in file b n)) (symbol_id file n ∷ []),
        sum_by-cons (λ s. text_size (name_at l s)) (symbol_id file n) [],
        there.1,
      );
}
  where
    s : TableSymbol
    s = record { file = file; symbol = n; length = size }

    inside : (t : Bool) → is_in_table l (symbol_id file n) ≡ t → Some size ≡
        (if t then Some (length (name_at l (symbol_id file n))) else None)
        → (t ≡ true) × (size ≡ length (name_at l (symbol_id file n)))
    inside true is h = (refl, cc)
    inside false is h = absurd cc

    there : (is_in_table l (symbol_id file n) ≡ true) × (size ≡ length (name_at l (symbol_id file n)))
    there = inside (is_in_table l (symbol_id file n)) refl some

    more : filter (is_in_table l) (symbols_in file b (n + 1)) ≡ filter (is_in_table l) (symbols_in file b n) ++ symbol_id file n ∷ []
    more =
        ap (filter (is_in_table l)) (symbols_more file n b)
        ∙ filter_more (is_in_table l) (symbols_in file b n) (symbol_id file n) true there.0

-- the symbols of one object behind those of others
pub lists_append : (l : Link) (xs ys : List SymbolId) (old now next : TableSymbols) → Lists l xs old now → Lists l ys now next → Lists l
    (xs ++ ys) old next
lists_append l xs ys old now next first second = record {
  symbols_are =
      second.symbols_are ∙ ap (λ (zs : List SymbolId). zs ++ filter (is_in_table l) ys) first.symbols_are
      ∙ append_assoc (map id_of_symbol old.symbols.items) (filter (is_in_table l) xs) (filter (is_in_table l) ys)
      ∙ ap (λ (zs : List SymbolId). map id_of_symbol old.symbols.items ++ zs) (sym (filter-append (is_in_table l) xs ys));
  lengths_are = λ told. second.lengths_are (first.lengths_are told);
  strings_are =
      omega (
        arith,
        first.strings_are,
        second.strings_are,
        ap (λ (zs : List SymbolId). sum_by (λ s. text_size (name_at l s)) zs) (filter-append (is_in_table l) xs ys),
        sum_by-append (λ s. text_size (name_at l s)) (filter (is_in_table l) xs) (filter (is_in_table l) ys),
      );
}

-- all symbols of an object
abbrev pub symbols_in_object : LinkedObject → List SymbolId
symbols_in_object o = symbols_in o.number o.file.bytes (num_symbols o.file.bytes)

pub objects_more : (objects : List LinkedObject) (i : ℕ) (o : LinkedObject) → i < length objects → o ≡ get_or objects i o
    → flat_map symbols_in_object (take (i + 1) objects) ≡ flat_map symbols_in_object (take i objects) ++ symbols_in_object o
objects_more objects i o lt is =
    ap (flat_map symbols_in_object) (take_more objects i o lt ∙ ap (λ (x : LinkedObject). take i objects ++ x ∷ []) (sym is))
    ∙ flat_map-append symbols_in_object (take i objects) (o ∷ [])
    ∙ ap (λ (xs : List SymbolId). flat_map symbols_in_object (take i objects) ++ xs) (append-nil (symbols_in_object o))

-- the bytes of an object are those of the link's file of its number
pub bytes_are : (l : Link) (objects : List LinkedObject) (i : ℕ) (o : LinkedObject) → AreObjects l objects → i < length objects
    → o ≡ get_or objects i o
    → object_of l o.number ≡ o.file.bytes
bytes_are l objects i o are lt is =
    let c : Contains objects o = (i, lt, sym is) in
    let there : Contains (filter_map object_in (enumerate_from 0 l.inputs)) (seen_object o)
    = subst (λ (xs : List (ℕ × List ℕ)). Contains xs (seen_object o)) are.are (contains_map seen_object objects o c) in
    let z = filter_map_contains object_in (enumerate_from 0 l.inputs) (seen_object o) there in
    by z.0 z.1 z.2
  where
    kind : (n : ℕ) (x : Input) → object_in (n, x) ≡ Some (seen_object o) → (n ≡ o.number) × (object_bytes x ≡ o.file.bytes)
    kind n (Object bytes) e = (let p : (let q : ℕ × List ℕ = (n, bytes) in q) ≡ seen_object o = cc in
        (ap (λ (q : ℕ × List ℕ). q.0) p, ap (λ (q : ℕ × List ℕ). q.1) p))
    kind n (Dylib bytes) e = absurd cc
    kind n (Stub text says) e = absurd cc

    by : (z : ℕ × Input) → Contains (enumerate_from 0 l.inputs) z → object_in z ≡ Some (seen_object o) → object_of l o.number ≡ o.file.bytes
    by z (k, k_in, k_is) e =
        let inside : k < length l.inputs = omega (arith, length-enumerate_from 0 l.inputs) in
        let both : (let q : ℕ × Input = (0 + k, get_or l.inputs k z.1) in q) ≡ z = sym (get_or-enumerate_from 0 l.inputs k z inside)
        ∙ k_is in
        let number : 0 + k ≡ z.0 = ap (λ (q : ℕ × Input). q.0) both in
        let input : get_or l.inputs k z.1 ≡ z.1 = ap (λ (q : ℕ × Input). q.1) both in
        let facts = kind z.0 z.1 e in
        let at : o.number ≡ k = omega (arith, number, facts.0) in
        ap (λ (n : ℕ). object_bytes (get_or l.inputs n no_input)) at
        ∙ ap object_bytes (get_or_default l.inputs k no_input z.1 inside ∙ input) ∙ facts.1

-- the symbols of all objects are those of the link
flat_filter : {X Y Z : Type 0} (f : X → List Z) (h : X → Option Y) (g : Y → List Z) → ((x : X) (y : Y) → h x ≡ Some y → f x ≡ g y)
    → ((x : X) → h x ≡ None → f x ≡ []) → (xs : List X) → flat_map f xs ≡ flat_map g (filter_map h xs)
flat_filter f h g some none [] = refl
flat_filter {X} {Y} {Z} f h g some none (x ∷ xs) = by (h x) refl (flat_filter f h g some none xs)
  where
    by : (o : Option Y) → h x ≡ o → flat_map f xs ≡ flat_map g (filter_map h xs) → f x ++ flat_map f xs ≡ flat_map g
        (cons_option o (filter_map h xs))
    by None is rest = ap (λ (zs : List Z). zs ++ flat_map f xs) (none x is) ∙ rest
    by (Some y) is rest = ap (λ (zs : List Z). zs ++ flat_map f xs) (some x y is) ∙ ap (λ (zs : List Z). g y ++ zs) rest

pub symbols_are : (l : Link) (objects : List LinkedObject) → AreObjects l objects → flat_map symbols_in_object objects ≡ symbols_of l
unfolding symbols_of
symbols_are l objects are =
    sym (flat_map-map g seen_object objects) ∙ ap (flat_map g) are.are
    ∙ sym (flat_filter (λ x. symbols_of_file x.0 x.1) object_in g some none (enumerate_from 0 l.inputs))
  where
    g : ℕ × List ℕ → List SymbolId
    g p = symbols_in p.0 p.1 (num_symbols p.1)

    some_of : (n : ℕ) (x : Input) (y : ℕ × List ℕ) → object_in (n, x) ≡ Some y → symbols_of_file n x ≡ g y
    some_of n (Object bytes) y is = let p : (let q : ℕ × List ℕ = (n, bytes) in q) ≡ y = cc in ap g p
    some_of n (Dylib bytes) y is = absurd cc
    some_of n (Stub text says) y is = absurd cc

    some : (x : ℕ × Input) (y : ℕ × List ℕ) → object_in x ≡ Some y → symbols_of_file x.0 x.1 ≡ g y
    some x y is = some_of x.0 x.1 y is

    none_of : (n : ℕ) (x : Input) → object_in (n, x) ≡ None → symbols_of_file n x ≡ []
    none_of n (Object bytes) is = absurd cc
    none_of n (Dylib bytes) is = refl
    none_of n (Stub text says) is = refl

    none : (x : ℕ × Input) → object_in x ≡ None → symbols_of_file x.0 x.1 ≡ []
    none x is = none_of x.0 x.1 is

-- THE list.
pub are_listed : (l : Link) (objects : List LinkedObject) (old table : TableSymbols) → AreObjects l objects → old.symbols.items ≡ []
    → old.strings ≡ 1
    → Lists l (flat_map symbols_in_object objects) old table → AreListed l table
unfolding table_symbols
are_listed l objects old table are none one done = record {
  symbols_are =
      done.symbols_are ∙ ap (λ (xs : List TableSymbol). map id_of_symbol xs ++ filter (is_in_table l)
      (flat_map symbols_in_object objects)) none
      ∙ ap (filter (is_in_table l)) (symbols_are l objects are);
  lengths_are = done.lengths_are (subst (All (HasLength l)) (sym none) (All-nil (HasLength l)));
  strings_are =
      done.strings_are
      ∙ ap (λ (n : ℕ). n + sum_by (λ s. text_size (name_at l s)) (filter (is_in_table l) (flat_map symbols_in_object objects))) one
      ∙ ap (λ (xs : List SymbolId). 1 + sum_by (λ s. text_size (name_at l s)) (filter (is_in_table l) xs)) (symbols_are l objects are);
}
