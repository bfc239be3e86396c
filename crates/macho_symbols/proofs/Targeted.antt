-- Where names and symbols lead by the model, and by the rows. The definition of a name is what its best event gives it. A
-- best event of an object is a symbol of the link with its row, and a symbol leads by itself where its row does: into its
-- section, to its value, or to its number among the commons that define their names.
use Rattle.std.proofs.Common.{◌≡◌, ℕ, ◌<◌, ◌≤◌, Bool, true, false, ◌&&◌, ◌==◌, if◌then◌else◌, Option, Some, None, List, [], ◌∷◌, length, map, filter, get_or, All, is_none, suc, refl, ap, sym, ◌∙◌, arith}
use Rattle.std.proofs.lemmas.List.{length-map}
use Rattle.std.proofs.lemmas.List.Elements.{filter_passes}
use Rattle.std.specs.List.{position_or_len}
use Rattle.std.specs.Str.{bytes_eq}
use Rattle.std.proofs.lemmas.Bool.{false≢true}
use Rattle.macho_records.specs.Symbols.{is_common_of, is_weak_of, has_type, is_global}
use Rattle.macho_records.specs.declared.constants.TheConstants.{N_ABS}
use Rattle.macho_model.specs.declared.targets.Target.TheVariants as target
use Rattle.macho_model.specs.Links.{Link, Input, Object, Dylib, Stub, no_input, object_of}
use Rattle.macho_model.specs.Resolution.{SymbolId, ImageBase, symbols_of, entry_at, name_at, same_symbol, is_symbol, defines, definition_of, chosen_commons, strong_of}
use Rattle.macho_model.specs.steps.Resolved.{DSO_HANDLE}
use Rattle.macho_model.specs.Faults.{IsDuplicate}
use Rattle.macho_symbol_names.specs.declared.fault.SymbolFault.{SymbolFault}
use Rattle.macho_symbol_names.specs.declared.fault.SymbolFault.TheVariants.{DuplicateSymbol, UndefinedSymbol, ExportListMissing, OutOfMemory}
use Rattle.macho_symbol_names.specs.Tables.{IsClash}
use Rattle.macho_model.specs.Targets.{own_target, definition_target}
use Rattle.macho_model.specs.Uses.{target_with}
use Rattle.macho_symbol_names.specs.declared.notes.Sort.{Sort}
use Rattle.macho_symbol_names.specs.declared.notes.Sort.TheVariants.{Section, Absolute, Common, Offered, Nowhere}
use Rattle.macho_symbol_names.specs.Kept.{kept_of, row_of_symbol, sort_of, in_carried, kept_name, no_file}
use Rattle.macho_symbols.specs.Kept.{ResolvedRows, IsResolved, HasSymbol, symbol_id}
use Rattle.macho_symbols.specs.Told.{common_of, IsDuplicateOf}
use Rattle.macho_symbols.specs.steps.Solved.{common_told}
use Rattle.macho_symbol_names.specs.Events.{Event, event_at, row_count, events, strength, strength_of, best_of, is_strong_of}
use Rattle.macho_symbol_names.specs.steps.Levels.{is_level}
use Rattle.macho_symbols.specs.steps.Targets.{row_of, event_of, is_of_object}
use Rattle.macho_symbols.specs.Targets.{id_of, image_base, defined_as, definition_by, defines_in, chosen_in, own_in, base_target, lead_in, led_in, named_in, target_in}
use Rattle.macho_symbol_names.proofs.Best.{best_is, IsBest}
use Rattle.macho_symbols.proofs.Bridge.{passing, row_kept, count_kept, file_at}
use Rattle.macho_symbols.proofs.Classes.{common_alone, strong_class}
use Rattle.macho_symbols.proofs.Defined.{definition_is}
use Rattle.macho_symbols.proofs.ListsMore.{filter-filter}
use Rattle.macho_bytes.proofs.Maps.{filter_same_test, filter-map}
use Rattle.macho_bytes.proofs.Bools.{and_left}

swap : (u v : Bool) → (u && v) ≡ (v && u)
swap true true = refl
swap true false = refl
swap false true = refl
swap false false = refl

-- a best event of an object is a symbol of the link
pub best_symbol : (l : Link) (name : List ℕ) (b : Event) → IsBest name (events (map kept_of l.inputs)) b → is_of_object b.row.sort ≡ true
    → b ≡ event_of l (id_of b)
best_symbol l name b is object = of
    (filter (λ s. is_level name b (event_of l s)) (filter (λ s. is_of_object (row_of l s).sort) (symbols_of l))) firsts
  where
    es : List Event
    es = events (map kept_of l.inputs)

    firsts : map (event_of l) (filter (λ s. is_level name b (event_of l s)) (filter (λ s. is_of_object (row_of l s).sort) (symbols_of l)))
        ≡ b ∷ filter (λ e. is_of_object e.row.sort) is.more
    firsts =
        let object_rows : Event → Bool = λ e. is_of_object e.row.sort in
        sym (filter-map (is_level name b) (event_of l) (filter (λ s. is_of_object (row_of l s).sort) (symbols_of l)))
        ∙ ap (filter (is_level name b)) (passing l (λ r. is_of_object r.sort) (λ n. refl))
        ∙ filter-filter (is_level name b) object_rows (events (map kept_of l.inputs))
        ∙ filter_same_test _ _ (events (map kept_of l.inputs)) (λ x. swap (is_level name b x) (object_rows x))
        ∙ sym (filter-filter object_rows (is_level name b) (events (map kept_of l.inputs))) ∙ ap (filter object_rows) is.first
        ∙ rw object refl

    of : (zs : List SymbolId) → map (event_of l) zs ≡ b ∷ filter (λ e. is_of_object e.row.sort) is.more → b ≡ event_of l (id_of b)
    of [] e = cc
    of (z ∷ zs) e = let same : event_of l z ≡ b = cc in sym same ∙ ap (λ x. event_of l (id_of x)) same

-- a symbol defines its name by its row where it does by the link
pub defines_is : (l : Link) (s : SymbolId) → defines_in (map kept_of l.inputs) (event_of l s) ≡ defines l s
unfolding row_of_symbol
defines_is l s = of (is_global (entry_at l s)) refl
  where
    of : (t : Bool) → is_global (entry_at l s) ≡ t
        → (is_global (entry_at l s) && is_symbol s
        (definition_by (kept_name (object_of l s.file) s.symbol)
        (best_of (kept_name (object_of l s.file) s.symbol) (events (map kept_of l.inputs)))))
        ≡ (is_global (entry_at l s) && is_symbol s (definition_of l (name_at l s)))
    of true global =
        let named : kept_name (object_of l s.file) s.symbol ≡ name_at l s = rw global refl in
        ap (λ n. is_global (entry_at l s) && is_symbol s (definition_by n (best_of n (events (map kept_of l.inputs))))) named
        ∙ ap (λ d. is_global (entry_at l s) && is_symbol s d) (sym (definition_is l (name_at l s)))
    of false global = rw global refl

common_strength : (carried absolute common weak : Bool) → (common ≡ true → (carried ≡ false) × (absolute ≡ false))
    → (strength_of (if carried then Section else if absolute then Absolute else if common then Common else Nowhere) weak == 2) ≡ common
common_strength true a true w alone = absurd (false≢true (sym (alone refl).0))
common_strength true a false true alone = refl
common_strength true a false false alone = refl
common_strength false true true w alone = absurd (false≢true (sym (alone refl).1))
common_strength false true false true alone = refl
common_strength false true false false alone = refl
common_strength false false true w alone = refl
common_strength false false false w alone = refl

is_common_row : (l : Link) (s : SymbolId) → (strength (row_of l s) == 2) ≡ is_common_of (entry_at l s)
unfolding row_of_symbol
is_common_row l s =
    common_strength (in_carried (object_of l s.file) (entry_at l s)) (has_type N_ABS (entry_at l s)) (is_common_of (entry_at l s))
    (is_weak_of (entry_at l s))
    (λ common. let parts = common_alone (object_of l s.file) (entry_at l s) common in (parts.1, parts.2))

-- the chosen commons
pub chosen_is : (l : Link) → chosen_in (map kept_of l.inputs) ≡ map (event_of l) (chosen_commons l)
unfolding chosen_in chosen_commons
chosen_is l =
    let files = map kept_of l.inputs in
    let two : Event → Bool = λ e. strength e.row == 2 in
    let commons = filter (λ s. strength (row_of l s) == 2) (symbols_of l) in
    filter_same_test _ _ (events files) (λ e. swap (two e) (defines_in files e))
    ∙ sym (filter-filter (defines_in files) two (events files))
    ∙ ap (filter (defines_in files)) (sym (passing l (λ r. strength r == 2) (λ n. refl)))
    ∙ filter-map (defines_in files) (event_of l) commons
    ∙ ap (map (event_of l)) (filter-filter (λ s. defines_in files (event_of l s)) (λ s. strength (row_of l s) == 2) (symbols_of l)
    ∙ filter_same_test _ _ (symbols_of l) (λ s. ap (λ t. t && (strength (row_of l s) == 2)) (defines_is l s)
    ∙ ap (λ t. defines l s && t) (is_common_row l s) ∙ swap (defines l s) (is_common_of (entry_at l s))))

ids_back : (l : Link) (xs : List SymbolId) → map id_of (map (event_of l) xs) ≡ xs
ids_back l [] = refl
ids_back l (x ∷ xs) = ap (λ ys. x ∷ ys) (ids_back l xs)

pub chosen_ids : (l : Link) → map id_of (chosen_in (map kept_of l.inputs)) ≡ chosen_commons l
chosen_ids l = ap (map id_of) (chosen_is l) ∙ ids_back l (chosen_commons l)

-- where a symbol leads by itself
pub own_is : (l : Link) (s : SymbolId) → own_target l s ≡ own_in (map kept_of l.inputs) (event_of l s) (row_of l s).sort
unfolding row_of_symbol
own_is l s =
    of (in_carried (object_of l s.file) (entry_at l s)) refl (has_type N_ABS (entry_at l s)) refl (is_common_of (entry_at l s)) refl
  where
    of : (c : Bool) → in_carried (object_of l s.file) (entry_at l s) ≡ c → (a : Bool) → has_type N_ABS (entry_at l s) ≡ a → (m : Bool)
        → is_common_of (entry_at l s) ≡ m
        → own_target l s ≡ own_in (map kept_of l.inputs) (event_of l s) (sort_of (object_of l s.file) (entry_at l s))
    of true carried a absolute m common = rw carried refl
    of false carried true absolute m common = rw (carried, absolute) refl
    of false carried false absolute true common =
        rw (carried, absolute, common) (ap (λ xs. target.Common (position_or_len (same_symbol s) xs)) (sym (chosen_ids l)))
    of false carried false absolute false common = rw (carried, absolute, common) refl

-- where a name leads
own_best : (l : Link) (name : List ℕ) (b : Event) (sort : Sort) → IsBest name (events (map kept_of l.inputs)) b → b.row.sort ≡ sort
    → is_of_object sort ≡ true
    → own_target l (id_of b) ≡ own_in (map kept_of l.inputs) b sort
own_best l name b sort is same object =
    let symbol = best_symbol l name b is (ap is_of_object same ∙ object) in
    own_is l (id_of b) ∙ ap (λ e. own_in (map kept_of l.inputs) e e.row.sort) (sym symbol) ∙ ap (own_in (map kept_of l.inputs) b) same

base_is : (l : Link) (noted : List (List ℕ)) (name : List ℕ) → definition_target l noted name (image_base name) ≡ base_target name
base_is l noted name = of (bytes_eq name DSO_HANDLE)
  where
    of : (t : Bool) → definition_target l noted name (if t then Some ImageBase else None) ≡ (if t then target.Base else target.None)
    of true = refl
    of false = refl

pub named_is : (l : Link) (noted : List (List ℕ)) (name : List ℕ)
    → named_in (map kept_of l.inputs) noted name ≡ definition_target l noted name (definition_of l name)
unfolding named_in
named_is l noted name = of (best_of name (events (map kept_of l.inputs))) refl
    ∙ ap (definition_target l noted name) (sym (definition_is l name))
  where
    led : (b : Event) → IsBest name (events (map kept_of l.inputs)) b → (sort : Sort) → b.row.sort ≡ sort
        → lead_in (map kept_of l.inputs) noted name b sort ≡ definition_target l noted name (defined_as name sort b)
    led b is Section same = sym (own_best l name b Section is same refl)
    led b is Absolute same = sym (own_best l name b Absolute is same refl)
    led b is Common same = sym (own_best l name b Common is same refl)
    led b is Offered same = refl
    led b is Nowhere same = sym (base_is l noted name)

    of : (o : Option Event) → best_of name (events (map kept_of l.inputs)) ≡ o
        → led_in (map kept_of l.inputs) noted name o ≡ definition_target l noted name (definition_by name o)
    of None e = sym (base_is l noted name)
    of (Some b) e = led b (best_is name (events (map kept_of l.inputs)) b e) b.row.sort refl

-- where a symbol leads
pub target_is : (l : Link) (noted : List (List ℕ)) (s : SymbolId)
    → target_in (map kept_of l.inputs) noted (event_of l s) ≡ target_with l noted s
unfolding row_of_symbol
target_is l noted s = of (is_global (entry_at l s)) refl
  where
    of : (t : Bool) → is_global (entry_at l s) ≡ t → target_in (map kept_of l.inputs) noted (event_of l s) ≡ target_with l noted s
    of true global = rw global (named_is l noted (name_at l s))
    of false local = rw local (sym (own_is l s))

-- a chosen common, by its row and by the link
common_row : (l : Link) (s : SymbolId) → is_common_of (entry_at l s) ≡ true → common_told (event_of l s) ≡ common_of l s
unfolding row_of_symbol
common_row l s common =
    let parts = common_alone (object_of l s.file) (entry_at l s) common in
    let sort : sort_of (object_of l s.file) (entry_at l s) ≡ Common = rw (parts.1, parts.2, common) refl in
    rw sort refl

each_common : (l : Link) (xs : List SymbolId) → All (λ s. is_common_of (entry_at l s) ≡ true) xs
    → map common_told (map (event_of l) xs) ≡ map (common_of l) xs
each_common l [] all = refl
each_common l (x ∷ xs) all = rw (common_row l x (all 0 x (omega arith)), each_common l xs (λ k d h. all (suc k) d (omega (arith, h)))) refl

pub commons_are : (l : Link) → map common_told (chosen_in (map kept_of l.inputs)) ≡ map (common_of l) (chosen_commons l)
unfolding chosen_commons
commons_are l =
    ap (map common_told) (chosen_is l)
    ∙ each_common l (chosen_commons l)
    (λ k d h. and_left _ _ (filter_passes (λ (s : SymbolId). is_common_of (entry_at l s) && defines l s) (symbols_of l) k d h))

-- a symbol of an object is kept with its row
pub symbol_kept : (l : Link) (noted : List (List ℕ)) (r : ResolvedRows) (file symbol : ℕ) → IsResolved l noted r → HasSymbol r file symbol
    → event_at r.files file symbol ≡ event_of l (symbol_id file symbol)
symbol_kept l noted r file symbol is there = of (get_or l.inputs file no_input) refl
  where
    within : file < length l.inputs
    within = omega (arith, there.0, ap length is.keeps, length-map l.inputs kept_of)

    of : (x : Input) → get_or l.inputs file no_input ≡ x → event_at r.files file symbol ≡ event_of l (symbol_id file symbol)
    of (Object b) input =
        let count = count_kept l file b within input in
        ap (λ fs. event_at fs file symbol) is.keeps
        ∙ ap (λ row. record { file = file; at = symbol; row = row })
        (row_kept l file symbol b within input (omega (arith, there.2, ap (λ fs. row_count fs file) is.keeps, count)))
    of (Dylib b) input = absurd
        (false≢true
        (sym (ap (λ f. is_none f.library) (ap (λ fs. get_or fs file no_file) is.keeps ∙ file_at l.inputs file within ∙ ap kept_of input))
        ∙ there.1))
    of (Stub text says) input = absurd
        (false≢true
        (sym (ap (λ f. is_none f.library) (ap (λ fs. get_or fs file no_file) is.keeps ∙ file_at l.inputs file within ∙ ap kept_of input))
        ∙ there.1))

-- the same of what is kept
pub named_here : (l : Link) (noted : List (List ℕ)) (r : ResolvedRows) (name : List ℕ) → IsResolved l noted r
    → named_in r.files r.noted name ≡ definition_target l noted name (definition_of l name)
named_here l noted r name is = ap (λ fs. named_in fs r.noted name) is.keeps ∙ ap (λ ns. named_in (map kept_of l.inputs) ns name) is.notes
    ∙ named_is l noted name

pub target_here : (l : Link) (noted : List (List ℕ)) (r : ResolvedRows) (file symbol : ℕ) → IsResolved l noted r → HasSymbol r file symbol
    → target_in r.files r.noted (event_at r.files file symbol) ≡ target_with l noted (symbol_id file symbol)
target_here l noted r file symbol is there =
    ap (target_in r.files r.noted) (symbol_kept l noted r file symbol is there)
    ∙ ap (λ fs. target_in fs r.noted (event_of l (symbol_id file symbol))) is.keeps
    ∙ ap (λ ns. target_in (map kept_of l.inputs) ns (event_of l (symbol_id file symbol))) is.notes
    ∙ target_is l noted (symbol_id file symbol)

pub defines_here : (l : Link) (noted : List (List ℕ)) (r : ResolvedRows) (file symbol : ℕ) → IsResolved l noted r → HasSymbol r file symbol
    → defines_in r.files (event_at r.files file symbol) ≡ defines l (symbol_id file symbol)
defines_here l noted r file symbol is there =
    ap (defines_in r.files) (symbol_kept l noted r file symbol is there)
    ∙ ap (λ fs. defines_in fs (event_of l (symbol_id file symbol))) is.keeps
    ∙ defines_is l (symbol_id file symbol)

-- the name that is kept of a global symbol is the symbol's own
pub name_here : (l : Link) (noted : List (List ℕ)) (r : ResolvedRows) (file symbol : ℕ) → IsResolved l noted r → HasSymbol r file symbol
    → is_global (entry_at l (symbol_id file symbol)) ≡ true → (event_at r.files file symbol).row.name ≡ name_at l (symbol_id file symbol)
unfolding row_of_symbol
name_here l noted r file symbol is there global = ap (λ (e : Event). e.row.name) (symbol_kept l noted r file symbol is there)
    ∙ rw global refl

pub commons_here : (l : Link) (noted : List (List ℕ)) (r : ResolvedRows) → IsResolved l noted r
    → map common_told (chosen_in r.files) ≡ map (common_of l) (chosen_commons l)
commons_here l noted r is = ap (λ fs. map common_told (chosen_in fs)) is.keeps ∙ commons_are l

-- two strong definitions among the events are two of the link
pub clash_is : (l : Link) (fault : SymbolFault) → IsClash (events (map kept_of l.inputs)) fault → IsDuplicateOf l fault
clash_is l OutOfMemory clash = tt
clash_is l (UndefinedSymbol name file) clash = clash
clash_is l (ExportListMissing name) clash = clash
clash_is l (DuplicateSymbol name first second) clash = of (strong_of l name.items) refl (strong_class l name.items ∙ clash.strong)
  where
    of : (xs : List SymbolId) → strong_of l name.items ≡ xs → map (event_of l) xs ≡ clash.a ∷ clash.b ∷ clash.more
        → IsDuplicate l name.items first second
    of [] is e = cc
    of (x ∷ []) is e = cc
    of (x ∷ (y ∷ ys)) is e =
        let left : event_of l x ≡ clash.a = cc in
        let right : event_of l y ≡ clash.b = cc in (
          0,
          1,
          x,
          y,
          omega arith,
          (omega (arith, ap length is), ap (λ zs. get_or zs 0 x) is),
          (omega (arith, ap length is), ap (λ zs. get_or zs 1 y) is),
          ap (λ z. z.file) left ∙ clash.left,
          ap (λ z. z.file) right ∙ clash.right,
        )

-- no name has two of them, where the events have none
pub single_is : (l : Link) (name : List ℕ) → length (filter (is_strong_of name) (events (map kept_of l.inputs))) ≤ 1
    → length (strong_of l name) ≤ 1
single_is l name single = omega (arith, single, ap length (strong_class l name), length-map (strong_of l name) (event_of l))
