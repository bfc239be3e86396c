-- What the rules of an object or of a library say of its symbols' entries: names begin inside the string table, and
-- commons are small. Each is one rule, asked of one symbol.
use Rattle.std.proofs.Common.{◌≡◌, ℕ, ◌==◌, ◌<◌, ◌≤◌, ◌^◌, Bool, true, false, List, length, drop, arith, length-drop, slice_range, ◌&&◌, ◌||◌, not, nat_le, nat_lt, subst, ◌+◌, ◌-◌, if◌then◌else◌, Some, None, refl, ap, ◌∙◌, sym, []}
use Rattle.macho_records.specs.declared.header.SectionHeader.{SectionHeader}
use Rattle.macho_object.specs.Links.{is_carried}
use Rattle.macho_object.specs.Objects.{section_at, symbol_name, num_sections, num_symbols, symbol_at, strings_of}
use Rattle.macho_object.specs.Views.{FileBytes, of_symbol_section, section_index_of, of_section}
use Rattle.macho_records.specs.declared.symbols.SymtabEntry.{SymtabEntry}
use Rattle.macho_records.specs.Symbols.{is_weak_of, is_hidden_of, has_type, is_global, is_stab_of, is_common_of, common_size_of}
use Rattle.macho_symbol_names.specs.declared.notes.Sort.{Sort}
use Rattle.macho_symbol_names.specs.Kept.{in_carried, kept_name, sort_of, number_of, value_of, row_of_symbol}
use Rattle.macho_symbol_names.specs.steps.Notes.{IsString, string_at}
use Rattle.macho_symbol_names.specs.declared.notes.Name.{Name}
use Rattle.std.proofs.lemmas.Bool.Decides.{nat_tests}
use Rattle.macho_records.specs.declared.constants.TheConstants.{N_ABS, N_SECT}
use Rattle.macho_object.specs.ObjectRules.{has_nul}
use Rattle.macho_object.specs.Grammar.{IsFile}
use Rattle.macho_object.proofs.ObjectLaws.{object_keeps, dylib_keeps}
use Rattle.macho_bytes.proofs.Bools.{both_parts}

-- a common of an object is small
pub commons_are_small : (dyn : Bool) (b : List ℕ) (k : ℕ) → IsFile dyn b → dyn ≡ false → k < num_symbols b
    → is_common_of (symbol_at b k) ≡ true → common_size_of (symbol_at b k) < 2 ^ 64
commons_are_small true b k whole object among common = cc
commons_are_small false b k whole object among common = grind (arith, nat_tests, (object_keeps whole).o14 k among)

-- a symbol's name begins in the string table, and a NUL ends it there, by the rule on names
abbrev name_ends : List ℕ → ℕ → Bool
name_ends b k =
    is_stab_of (symbol_at b k) || ((symbol_at b k).n_strx == 0) || has_nul (drop (symbol_at b k).n_strx (strings_of b))

ends : (b : List ℕ) (k : ℕ) → name_ends b k ≡ true → is_global (symbol_at b k) ≡ true → (symbol_at b k).n_strx ≤ length (strings_of b)
ends b k named global = grind (arith, nat_tests, length-drop {A = ℕ})

-- the name of a global symbol begins inside the string table
pub names_begin_inside : (dyn : Bool) (b : List ℕ) (k : ℕ) → IsFile dyn b → k < num_symbols b → is_global (symbol_at b k) ≡ true
    → (symbol_at b k).n_strx ≤ length (strings_of b)
names_begin_inside true b k whole among global = ends b k ((dylib_keeps whole).o9.0 k among) global
names_begin_inside false b k whole among global = ends b k ((object_keeps whole).o9 k among) global

-- and so does that of a defined one
begins : (b : List ℕ) (k : ℕ) → name_ends b k ≡ true → (has_type N_SECT (symbol_at b k) || has_type N_ABS (symbol_at b k)) ≡ true
    → (symbol_at b k).n_strx ≤ length (strings_of b)
begins b k named defined = grind (arith, nat_tests, length-drop {A = ℕ})

pub defined_begins_inside : (f : FileBytes) (k : ℕ) (e : SymtabEntry) (t : Bool) → IsFile f.is_dynamic f.bytes → f.is_dynamic ≡ true
    → k < num_symbols f.bytes → e ≡ symbol_at f.bytes k → t ≡ (has_type N_SECT e || has_type N_ABS e) → t ≡ true
    → e.n_strx ≤ length (strings_of f.bytes)
defined_begins_inside f k e t whole library among is tells holds =
    let kept : IsFile true f.bytes = subst (λ (d : Bool). IsFile d f.bytes) library whole in
    let defined : (has_type N_SECT e || has_type N_ABS e) ≡ true = sym tells ∙ holds in
    subst (λ (s : SymtabEntry). s.n_strx ≤ length (strings_of f.bytes)) (sym is)
    (begins f.bytes k ((dylib_keeps kept).o9.0 k among)
    (subst (λ (s : SymtabEntry). (has_type N_SECT s || has_type N_ABS s) ≡ true) is defined))

-- what an answer that is there says
pub some_if : {X : Type 0} (test : Bool) (x y : X) → Some x ≡ (if test then Some y else None) → (test ≡ true) × (x ≡ y)
some_if true x y e = (refl, cc)
some_if false x y e = cc

-- the section that a view tells of a symbol is the one that it stands in
pub stands_in_carried : (f : FileBytes) (k section : ℕ) (header : SectionHeader) → f.is_dynamic ≡ false → k < num_symbols f.bytes
    → Some section ≡ of_symbol_section f k (section_index_of f k) → Some header ≡ of_section f section (section_at f.bytes section)
    → is_carried header ≡ in_carried f.bytes (symbol_at f.bytes k)
stands_in_carried f k section header object among found told =
    let which = some_if _ _ _ found in
    let what = some_if _ _ _ told in
    let inside = both_parts _ _ (both_parts _ _ which.0).1 in
    ap is_carried (what.1 ∙ ap (section_at f.bytes) which.1)
    ∙ sym (ap (λ x. x && is_carried (section_at f.bytes (section_index_of f k))) inside.1)

-- and it is there, by the rules of objects
none_if : {X : Type 0} (test : Bool) (y : X) → None ≡ (if test then Some y else None) → test ≡ false
none_if true y e = cc
none_if false y e = refl

beside : (inside : Bool) (n section sections : ℕ) → (not inside || (nat_le 1 n && nat_le n sections)) ≡ true → inside ≡ true
    → section ≡ n - 1 → nat_lt section sections ≡ false → ⊥
beside true n section sections exists is at none = grind (arith, nat_tests, exists, at, none)
beside false n section sections exists is at none = cc

pub section_is_there : (f : FileBytes) (k section : ℕ) → f.is_dynamic ≡ false → IsFile f.is_dynamic f.bytes → k < num_symbols f.bytes
    → Some section ≡ of_symbol_section f k (section_index_of f k) → None ≡ of_section f section (section_at f.bytes section) → ⊥
section_is_there f k section object whole among found none =
    let kept : IsFile false f.bytes = subst (λ (d : Bool). IsFile d f.bytes) object whole in
    let which = some_if _ _ _ found in
    let inside = both_parts _ _ (both_parts _ _ which.0).1 in
    let past : nat_lt section (num_sections f.bytes) ≡ false = rw object at (none_if _ _ none) in
    beside (has_type N_SECT (symbol_at f.bytes k)) (symbol_at f.bytes k).n_sect section (num_sections f.bytes)
    ((object_keeps kept).o5.0 k among) inside.1 which.1 past

chosen : (strings : List ℕ) (global : Bool) (at : ℕ)
    → string_at strings (if global then at else 0) ≡ (if global then string_at strings at else [])
chosen strings true at = refl
chosen strings false at = refl

-- the kept name of a symbol
pub kept_string : (b : List ℕ) (k : ℕ) (e : SymtabEntry) (n : Name) → e ≡ symbol_at b k → IsString (strings_of b) n
    → n.at ≡ (if is_global e then e.n_strx else 0) → slice_range (strings_of b) n.at (n.at + n.length) ≡ kept_name b k
unfolding symbol_name
kept_string b k e n is found at =
    found.is ∙ ap (string_at (strings_of b)) (at ∙ ap (λ s. if is_global s then s.n_strx else 0) is)
    ∙ chosen (strings_of b) (is_global (symbol_at b k)) (symbol_at b k).n_strx

-- A row is that of a symbol where each of its parts is.
pub row_is : (b : List ℕ) (k : ℕ) (e : SymtabEntry) (name : List ℕ) (sort : Sort) (number value : ℕ) (global weak hidden : Bool)
    → e ≡ symbol_at b k
    → name ≡ kept_name b k → sort ≡ sort_of b e → number ≡ number_of b e sort → value ≡ value_of b e sort → global ≡ is_global e
    → weak ≡ is_weak_of e
    → hidden ≡ is_hidden_of e
    → record { name = name; sort = sort; number = number; value = value; global = global; weak = weak; hidden = hidden } ≡ row_of_symbol b k
unfolding row_of_symbol
row_is b k e name sort number value global weak hidden is n s m v g w h = rw (n, m, v, s, g, w, h, is) refl

-- the name of a symbol of a library
pub offered_string : (b : List ℕ) (k : ℕ) (e : SymtabEntry) (n : Name) → e ≡ symbol_at b k → IsString (strings_of b) n → n.at ≡ e.n_strx
    → slice_range (strings_of b) n.at (n.at + n.length) ≡ symbol_name b k
unfolding symbol_name
offered_string b k e n is found at = found.is ∙ ap (string_at (strings_of b)) (at ∙ ap (λ s. s.n_strx) is)
