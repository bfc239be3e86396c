-- The rows of the symbol table.
--
-- A symbol of the table is defined: it stands in a carried section, has a value of its own, or is a common. A global one is the definition
-- of its name. So what it leads to is what it leads to by itself; its section and its address are told.
use Rattle.std.proofs.Common.{◌≡◌, ℕ, ◌<◌, ◌≤◌, ◌==◌, ◌&&◌, ◌||◌, not, Bool, true, false, List, [], ◌∷◌, length, refl, sym, ap, subst, ◌∙◌, arith, Contains, eqb-true}
use Rattle.std.specs.Prelude.{if◌then◌else◌, nat_lt, nat_eq, bit_and, codes, Option, Some, None}
use Rattle.std.specs.List.{starts_with}
use Rattle.std.proofs.lemmas.Bool.{and_parts, lt-ltb, true≢false}
use Rattle.macho_records.specs.declared.symbols.SymtabEntry.{SymtabEntry}
use Rattle.macho_records.specs.declared.constants.TheConstants.{N_UNDF, N_ABS, N_SECT, N_EXT, N_TYPE}
use Rattle.macho_records.specs.Symbols.{is_common_of, is_stab_of, has_type, is_global}
use Rattle.macho_model.specs.declared.placed.Counts.{Counts}
use Rattle.macho_model.specs.declared.targets.Target.{Target}
use Rattle.macho_model.specs.declared.targets.Target.TheVariants as target
use Rattle.macho_model.specs.Objects.{num_sections, section_at, symbol_at}
use Rattle.macho_model.specs.Links.{Link, SectionId, object_of, header_at, sections_of, carried_of, is_carried}
use Rattle.macho_model.specs.Needs.{imports_of}
use Rattle.macho_model.specs.Resolution.{SymbolId, Definition, Symbol, Library, ImageBase, entry_at, name_at, symbols_of, stands_in_carried, section_of_symbol, is_symbol, defines, chosen_commons, definition_of}
use Rattle.macho_model.specs.LinkLaws.{is_chosen}
use Rattle.macho_model.specs.Targets.{own_target, target_of, definition_target}
use Rattle.macho_model.specs.Uses.{target_with}
use Rattle.macho_model.specs.Segments.{key_of, common_key}
use Rattle.macho_model.specs.SymbolTable.{table_symbols}
use Rattle.macho_model.specs.SymbolEntries.{section_number, entry_section}
use Rattle.macho_model.specs.Placement.{Placed}
use Rattle.macho_layout_laws.specs.Laws.{IsWhollyPlaced}
use Rattle.macho_bytes.proofs.Members.{contains_filter, filter_contains, nil_contains}
use Rattle.macho_object.specs.Views.{FileBytes, section_index_of}
use Rattle.macho_symbols.specs.Kept.{symbol_id}
use Rattle.macho_model.specs.Grammar.{ObjectsAreRead}
use Rattle.macho_placed_laws.proofs.OfLink.{section_of, carried_symbol}
use Rattle.macho_records.specs.declared.header.SectionHeader.{SectionHeader}
use Rattle.macho_records.specs.Flags.{has_any}
use Rattle.macho_symbol_tables.specs.steps.Sections.{header_with, number_with, number_told, section_told}
use Rattle.macho_symbol_tables.proofs.Numbers.{section_agrees, commons_agree}
use Rattle.macho_model.specs.steps.SymbolTable.{is_named_definition, is_in_table}

-- What is known of a symbol of the table.
pub record IsInTable (l : Link) (s : SymbolId) : Type 0 where
  pub there : Contains (symbols_of l) s
  pub defined : (stands_in_carried l s || has_type N_ABS (entry_at l s) || is_common_of (entry_at l s)) ≡ true
  pub own : is_global (entry_at l s) ≡ true → defines l s ≡ true

pub in_table : (l : Link) (s : SymbolId) → Contains (table_symbols l) s → IsInTable l s
unfolding table_symbols
in_table l s listed =
    let f = filter_contains (is_in_table l) (symbols_of l) s listed in
    let both = and_parts (is_named_definition l s)
    (if is_global (entry_at l s) then defines l s else not (starts_with nat_eq (name_at l s) (codes "ltmp"))) f.1 in
    record {
      there = f.0;
      defined = (and_parts (not ((entry_at l s).n_strx == 0)) _ both.0).1;
      own = λ global. by (is_global (entry_at l s)) (defines l s) (not (starts_with nat_eq (name_at l s) (codes "ltmp"))) global
          both.1;
    }
  where
    by : (g d other : Bool) → g ≡ true → (if g then d else other) ≡ true → d ≡ true
    by true d other e h = h
    by false d other e h = absurd (true≢false (sym e))

-- a common is seen by others, and is no debugging entry
common_parts : (e : SymtabEntry) → is_common_of e ≡ true → (is_stab_of e ≡ false) × (is_global e ≡ true)
common_parts e is =
    let one = and_parts (has_type N_UNDF e && has_any N_EXT e.n_type) (not (e.n_value == 0)) is in
    let two = and_parts (has_type N_UNDF e) (has_any N_EXT e.n_type) one.0 in
    let three = and_parts (not (is_stab_of e)) (bit_and e.n_type N_TYPE == N_UNDF) two.0 in
    (not_true (is_stab_of e) three.0, both (not (is_stab_of e)) (has_any N_EXT e.n_type) three.0 two.1)
  where
    not_true : (b : Bool) → not b ≡ true → b ≡ false
    not_true true e = absurd (true≢false (sym e))
    not_true false e = refl

    both : (a b : Bool) → a ≡ true → b ≡ true → (a && b) ≡ true
    both a b e f = rw (e, f) refl

-- no symbol of the table is a debugging entry
pub no_stab : (l : Link) (s : SymbolId) → IsInTable l s → is_stab_of (entry_at l s) ≡ false
no_stab l s in_it =
    by (is_stab_of (entry_at l s)) (bit_and (entry_at l s).n_type N_TYPE == N_SECT) (is_carried (header_at l (section_of_symbol l s)))
    (bit_and (entry_at l s).n_type N_TYPE == N_ABS) (is_common_of (entry_at l s))
    (λ common. (common_parts (entry_at l s) common).0) in_it.defined
  where
    by : (stab d c a k : Bool) → (k ≡ true → stab ≡ false) → (((not stab && d) && c) || (not stab && a) || k) ≡ true → stab ≡ false
    by false d c a k common h = refl
    by true d c a k common h = common h

-- what it leads to is what it leads to by itself
pub own_is : (l : Link) (s : SymbolId) → IsInTable l s → target_of l s ≡ own_target l s
unfolding target_of
own_is l s in_it = by (is_global (entry_at l s)) refl
  where
    first : (b : Bool) (x y : Target) → b ≡ true → (if b then x else y) ≡ x
    first b x y e = rw e refl

    second : (b : Bool) (x y : Target) → b ≡ false → (if b then x else y) ≡ y
    second b x y e = rw e refl

    defined_target : (d : Option Definition) → is_symbol s d ≡ true → definition_target l (imports_of l) (name_at l s) d ≡ own_target l s
    defined_target None is = absurd (true≢false (sym is))
    defined_target (Some (Symbol t)) is =
        let both = and_parts (s.file == t.file) (s.symbol == t.symbol) is in
        ap (λ (n : ℕ). own_target l (symbol_id n t.symbol)) (sym (eqb-true s.file t.file both.0))
        ∙ ap (λ (n : ℕ). own_target l (symbol_id s.file n)) (sym (eqb-true s.symbol t.symbol both.1))
    defined_target (Some (Library file)) is = absurd (true≢false (sym is))
    defined_target (Some ImageBase) is = absurd (true≢false (sym is))

    by : (g : Bool) → is_global (entry_at l s) ≡ g → target_with l (imports_of l) s ≡ own_target l s
    by true e =
        first (is_global (entry_at l s)) _ _ e
        ∙ defined_target (definition_of l (name_at l s))
        (and_parts (is_global (entry_at l s)) (is_symbol s (definition_of l (name_at l s))) (in_it.own e)).1
    by false e = second (is_global (entry_at l s)) _ _ e

-- a common of the table is chosen
common_chosen : (l : Link) (s : SymbolId) → IsInTable l s → is_common_of (entry_at l s) ≡ true → 1 ≤ length (chosen_commons l)
unfolding chosen_commons
common_chosen l s in_it common =
    some (filter_of) (contains_filter (is_chosen l) (symbols_of l) s in_it.there
    (both (is_common_of (entry_at l s)) (defines l s) common (in_it.own (common_parts (entry_at l s) common).1)))
  where
    filter_of : List SymbolId
    filter_of = chosen_commons l

    both : (a b : Bool) → a ≡ true → b ≡ true → (a && b) ≡ true
    both a b e f = rw (e, f) refl

    some : (xs : List SymbolId) → Contains xs s → 1 ≤ length xs
    some [] has = absurd (nil_contains s has)
    some (x ∷ xs) has = omega arith

-- a carried section is one of the link's
in_sections : (l : Link) (s : SectionId) → Contains (carried_of l) s → Contains (sections_of l) s
unfolding carried_of
in_sections l s has = (filter_contains (λ (t : SectionId). is_carried (header_at l t)) (sections_of l) s has).0

-- THE section of a row
pub section_is : (l : Link) (counts : Counts) (p : Placed) (file index : ℕ) (b : List ℕ) → ObjectsAreRead l → IsWhollyPlaced l counts p
    → object_of l file ≡ b → IsInTable l (symbol_id file index)
    → section_told p (record { bytes = b; is_dynamic = false }) (symbol_at b index) ≡ entry_section l counts (symbol_id file index)
section_is l counts p file index b read placed is in_it =
    subst (λ (x : List ℕ). section_told p (record { bytes = x; is_dynamic = false }) (symbol_at x index) ≡ entry_section l counts s) is
    (by (is_common_of (entry_at l s)) (has_type N_ABS (entry_at l s)) refl refl)
  where
    s : SymbolId
    s = symbol_id file index

    f : FileBytes
    f = record { bytes = object_of l file; is_dynamic = false }

    first : {X : Type 0} (t : Bool) (x y : X) → t ≡ true → (if t then x else y) ≡ x
    first t x y e = rw e refl

    second : {X : Type 0} (t : Bool) (x y : X) → t ≡ false → (if t then x else y) ≡ y
    second t x y e = rw e refl

    header : Option SectionHeader
    header = header_with f (Some (section_index_of f index))

    one_there : stands_in_carried l s ≡ true → header ≡ Some (header_at l (section_of_symbol l s))
    one_there stands =
        let carried = carried_symbol l s read in_it.there stands in
        let sec = section_of l (section_of_symbol l s) (in_sections l (section_of_symbol l s) carried) in
        let there : section_index_of f index < num_sections f.bytes = subst (λ (x : List ℕ). section_index_of f index < num_sections x)
        (sym sec.object) sec.section in
        first (nat_lt (section_index_of f index) (num_sections f.bytes)) (Some (section_at f.bytes (section_index_of f index))) None
        (lt-ltb (section_index_of f index) (num_sections f.bytes) there)

    stands_there : is_common_of (entry_at l s) ≡ false → has_type N_ABS (entry_at l s) ≡ false → stands_in_carried l s ≡ true
    stands_there no_common no_value =
        only (stands_in_carried l s) (has_type N_ABS (entry_at l s)) (is_common_of (entry_at l s)) no_value no_common in_it.defined
      where
        only : (a c d : Bool) → c ≡ false → d ≡ false → (a || c || d) ≡ true → a ≡ true
        only true c d e g h = refl
        only false true d e g h = absurd (true≢false e)
        only false false true e g h = absurd (true≢false g)
        only false false false e g h = h

    -- the number, where the symbol is no common
    other : ℕ
    other = if has_type N_ABS (entry_at l s) then 0 else number_with p header

    by : (c a : Bool) → is_common_of (entry_at l s) ≡ c → has_type N_ABS (entry_at l s) ≡ a
        → section_told p f (entry_at l s) ≡ entry_section l counts s
    by true a e g =
        first (is_common_of (entry_at l s)) (number_told p common_key) other e
        ∙ commons_agree l counts p placed (common_chosen l s in_it e)
        ∙ sym (first (is_common_of (entry_at l s)) (section_number l counts common_key) _ e)
    by false true e g =
        second (is_common_of (entry_at l s)) (number_told p common_key) other e
        ∙ first (has_type N_ABS (entry_at l s)) 0 (number_with p header) g
        ∙ sym (second (is_common_of (entry_at l s)) (section_number l counts common_key) _ e
        ∙ first (has_type N_ABS (entry_at l s)) 0 (section_number l counts (key_of (header_at l (section_of_symbol l s)))) g)
    by false false e g =
        let stands = stands_there e g in
        second (is_common_of (entry_at l s)) (number_told p common_key) other e
        ∙ second (has_type N_ABS (entry_at l s)) 0 (number_with p header) g
        ∙ ap (number_with p) (one_there stands)
        ∙ section_agrees l counts p (section_of_symbol l s) placed (carried_symbol l s read in_it.there stands)
        ∙ sym (second (is_common_of (entry_at l s)) (section_number l counts common_key) _ e
        ∙ second (has_type N_ABS (entry_at l s)) 0 (section_number l counts (key_of (header_at l (section_of_symbol l s)))) g)
