-- The classes of definitions by rows. A symbol is strong, weak or a common by the model's words where its row is of that
-- strength: by cases on the five tests of its entry.
use Rattle.std.proofs.Common.{◌≡◌, ℕ, ◌-◌, Bool, true, false, ◌&&◌, ◌||◌, ◌==◌, not, if◌then◌else◌, List, [], map, filter, refl, ap, sym, ◌∙◌, arith}
use Rattle.std.specs.Str.{bytes_eq}
use Rattle.std.proofs.lemmas.Bool.{false≢true}
use Rattle.std.proofs.lemmas.Bool.Decides.{nat_tests}
use Rattle.std.specs.Prelude.{bit_and}
use Rattle.macho_records.specs.declared.symbols.SymtabEntry.{SymtabEntry}
use Rattle.macho_records.specs.Symbols.{is_common_of, is_weak_of, is_stab_of, has_type, is_global}
use Rattle.macho_records.specs.declared.constants.TheConstants.{N_ABS, N_EXT, N_TYPE}
use Rattle.macho_records.specs.Flags.{has_any}
use Rattle.macho_model.specs.Links.{Link, object_of, is_carried}
use Rattle.macho_model.specs.Objects.{section_at}
use Rattle.macho_model.specs.Resolution.{SymbolId, symbols_of, strong_of, commons_of, has_name, entry_at, name_at}
use Rattle.macho_model.specs.steps.Resolved.{weak_of, is_strong, is_weak}
use Rattle.macho_symbol_names.specs.declared.notes.Sort.{Sort}
use Rattle.macho_symbol_names.specs.declared.notes.Sort.TheVariants.{Section, Absolute, Common, Nowhere}
use Rattle.macho_symbol_names.specs.Kept.{Row, kept_of, row_of_symbol, in_carried}
use Rattle.macho_symbol_names.specs.Events.{strength, strength_of, is_of, events}
use Rattle.macho_symbols.specs.steps.Targets.{row_of, event_of}
use Rattle.macho_symbol_names.proofs.Best.{and_false}
use Rattle.macho_symbols.proofs.Bridge.{passing, PassesNone}
use Rattle.macho_bytes.proofs.Maps.{filter_same_test}

-- a row of a strength, with a name
abbrev pub is_class : ℕ → List ℕ → Row → Bool
is_class c name r = (strength r == c) && (r.global && bytes_eq r.name name)

abbrev sort_by : Bool → Bool → Bool → Sort
sort_by carried absolute common = if carried then Section else if absolute then Absolute else if common then Common else Nowhere

strong_test : (global carried absolute common weak : Bool) (n name : List ℕ)
    → ((strength_of (sort_by carried absolute common) weak == 4) && (global && bytes_eq (if global then n else []) name))
    ≡ ((global && (carried || absolute) && not weak) && bytes_eq n name)
strong_test true true a m true n name = refl
strong_test true true a m false n name = refl
strong_test true false true m true n name = refl
strong_test true false true m false n name = refl
strong_test true false false true w n name = refl
strong_test true false false false w n name = refl
strong_test false c a m w n name = and_false (strength_of (sort_by c a m) w == 4)

weak_test : (global carried absolute common weak : Bool) (n name : List ℕ)
    → ((strength_of (sort_by carried absolute common) weak == 3) && (global && bytes_eq (if global then n else []) name))
    ≡ ((global && (carried || absolute) && weak) && bytes_eq n name)
weak_test true true a m true n name = refl
weak_test true true a m false n name = refl
weak_test true false true m true n name = refl
weak_test true false true m false n name = refl
weak_test true false false true w n name = refl
weak_test true false false false w n name = refl
weak_test false c a m w n name = and_false (strength_of (sort_by c a m) w == 3)

common_test : (global carried absolute common weak : Bool) (n name : List ℕ)
    → (common ≡ true → (global ≡ true) × (carried ≡ false) × (absolute ≡ false))
    → ((strength_of (sort_by carried absolute common) weak == 2) && (global && bytes_eq (if global then n else []) name)) ≡
    (common && bytes_eq n name)
common_test true true a true w n name alone = absurd (false≢true (sym (alone refl).1))
common_test true true a false true n name alone = refl
common_test true true a false false n name alone = refl
common_test true false true true w n name alone = absurd (false≢true (sym (alone refl).2))
common_test true false true false true n name alone = refl
common_test true false true false false n name alone = refl
common_test true false false true w n name alone = refl
common_test true false false false w n name alone = refl
common_test false c a true w n name alone = absurd (false≢true (alone refl).0)
common_test false c a false w n name alone = and_false (strength_of (sort_by c a false) w == 2)

alone : (stab external : Bool) (type : ℕ) (empty other : Bool) → (not stab && (type == 0) && external && not empty) ≡ true
    → ((not stab && external) ≡ true) × ((not stab && (type == 14) && other) ≡ false) × ((not stab && (type == 2)) ≡ false)
alone true external type empty other p = cc
alone false external type empty other p = by (type == 0) refl external empty p
  where
    by : (t : Bool) → (type == 0) ≡ t → (external empty : Bool) → (t && external && not empty) ≡ true
        → (external ≡ true) × (((type == 14) && other) ≡ false) × ((type == 2) ≡ false)
    by true zero true false p =
        let section : (type == 14) ≡ false = grind (arith, nat_tests) in
        let absolute : (type == 2) ≡ false = grind (arith, nat_tests) in (refl, ap (λ u. u && other) section, absolute)
    by true zero true true p = cc
    by true zero false empty p = cc
    by false other external empty p = cc

-- a common is global, and neither of a section nor absolute
pub common_alone : (b : List ℕ) (e : SymtabEntry) → is_common_of e ≡ true → (is_global e ≡ true) × (in_carried b e ≡ false)
    × (has_type N_ABS e ≡ false)
common_alone b e common = alone (is_stab_of e) (has_any N_EXT e.n_type) (bit_and e.n_type N_TYPE) (e.n_value == 0)
    (is_carried (section_at b (e.n_sect - 1))) common

offered_class : (c : ℕ) (name : List ℕ) → (1 == c) ≡ false → PassesNone (is_class c name)
offered_class c name other n = rw other refl

-- the symbols of a class with a name are the events of that class
class_of : (l : Link) (c : ℕ) (name : List ℕ) (test : SymbolId → Bool) → (1 == c) ≡ false
    → ((s : SymbolId) → is_class c name (row_of l s) ≡ test s)
    → map (event_of l) (filter test (symbols_of l)) ≡ filter (λ e. (strength e.row == c) && is_of name e) (events (map kept_of l.inputs))
class_of l c name test other agree =
    ap (map (event_of l)) (sym (filter_same_test (λ s. is_class c name (row_of l s)) test (symbols_of l) agree))
    ∙ passing l (is_class c name) (offered_class c name other)

pub strong_class : (l : Link) (name : List ℕ) → map (event_of l) (strong_of l name) ≡ filter (λ e. (strength e.row == 4) && is_of name e)
    (events (map kept_of l.inputs))
unfolding strong_of row_of_symbol
strong_class l name =
    class_of l 4 name (λ s. is_strong l s && has_name l name s) refl
    (λ s. strong_test (is_global (entry_at l s)) (in_carried (object_of l s.file) (entry_at l s)) (has_type N_ABS (entry_at l s))
    (is_common_of (entry_at l s)) (is_weak_of (entry_at l s)) (name_at l s) name)

pub weak_class : (l : Link) (name : List ℕ) → map (event_of l) (weak_of l name) ≡ filter (λ e. (strength e.row == 3) && is_of name e)
    (events (map kept_of l.inputs))
unfolding weak_of row_of_symbol
weak_class l name =
    class_of l 3 name (λ s. is_weak l s && has_name l name s) refl
    (λ s. weak_test (is_global (entry_at l s)) (in_carried (object_of l s.file) (entry_at l s)) (has_type N_ABS (entry_at l s))
    (is_common_of (entry_at l s)) (is_weak_of (entry_at l s)) (name_at l s) name)

pub common_class : (l : Link) (name : List ℕ) → map (event_of l) (commons_of l name) ≡ filter (λ e. (strength e.row == 2) && is_of name e)
    (events (map kept_of l.inputs))
unfolding commons_of row_of_symbol
common_class l name =
    class_of l 2 name (λ s. is_common_of (entry_at l s) && has_name l name s) refl
    (λ s. common_test (is_global (entry_at l s)) (in_carried (object_of l s.file) (entry_at l s)) (has_type N_ABS (entry_at l s))
    (is_common_of (entry_at l s)) (is_weak_of (entry_at l s)) (name_at l s) name
    (common_alone (object_of l s.file) (entry_at l s)))
