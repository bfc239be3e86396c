-- What a target of a link leads to is of the link.
--
-- A symbol of an object that stands in a section names one that its object has, by the rules of objects. Where that section is
-- carried it is
-- among the carried ones. The symbol that defines a name is among the symbols; where it is a common, it is the chosen one of
-- its name. A relocation
-- names a symbol or a section that its object has.
use Rattle.std.proofs.Common.{◌≡◌, ℕ, ◌-◌, ◌<◌, ◌≤◌, ◌||◌, not, Bool, true, false, List, get_or, sym, ap, subst, ◌∙◌, arith}
use Rattle.std.specs.Prelude.{Contains}
use Rattle.std.specs.List.{range_with_len, enumerate_from}
use Rattle.std.proofs.lemmas.List.{get_or_default}
use Rattle.std.proofs.lemmas.Bool.{leb-true}
use Rattle.macho_records.specs.Symbols.{has_type}
use Rattle.macho_records.specs.declared.constants.TheConstants.{N_SECT}
use Rattle.macho_bytes.proofs.Members.{contains_map, map_contains, contains_filter, contains_flat_map, flat_map_contains, contains_range, range_contains, contains_enumerate, enumerate_contains}
use Rattle.macho_model.specs.Lists.{IsNumber}
use Rattle.macho_model.specs.Objects.{num_sections, num_symbols, symbol_at}
use Rattle.macho_model.specs.Grammar.{IsObject, ObjectsAreRead}
use Rattle.macho_model.proofs.ObjectLaws.{object_keeps}
use Rattle.macho_model.specs.Links.{Link, Input, Object, Dylib, Stub, object_bytes, no_input, object_of, SectionId, section_id, header_at, sections_of_file, sections_of, is_carried, carried_of}
use Rattle.macho_model.specs.Resolution.{SymbolId, symbols_of_file, symbols_of, entry_at, section_of_symbol, stands_in_carried}
use Rattle.macho_bytes.proofs.Bools.{and_left, and_right, or_else}
use Rattle.macho_model.proofs.Sections.{object_at}

-- a symbol of the link is one of an object
pub record IsSymbolOf (l : Link) (s : SymbolId) : Type 0 where
  pub bytes : List ℕ
  pub input : IsNumber l.inputs s.file (Object bytes)
  pub object : object_of l s.file ≡ bytes
  pub symbol : s.symbol < num_symbols bytes

symbol_in_file : (l : Link) (file : ℕ) (x : Input) (s : SymbolId) → IsNumber l.inputs file x → Contains (symbols_of_file file x) s
    → IsSymbolOf l s
symbol_in_file l file (Object b) s number has =
    let made = map_contains (λ (k : ℕ). record { file = file; symbol = k }) (range_with_len 0 (num_symbols b)) s has in
    let low : made.0 < num_symbols b = range_contains (num_symbols b) made.0 made.1 in
    let there : file ≡ s.file = ap (λ (t : SymbolId). t.file) made.2 in
    let index : made.0 ≡ s.symbol = ap (λ (t : SymbolId). t.symbol) made.2 in
    record {
      bytes = b;
      input = subst (λ (f : ℕ). IsNumber l.inputs f (Object b)) there number;
      object = ap object_bytes
          (ap (λ (f : ℕ). get_or l.inputs f no_input) (sym there) ∙ get_or_default l.inputs file no_input (Object b) number.0 ∙ number.1);
      symbol = subst (λ (k : ℕ). k < num_symbols b) index low;
    }
symbol_in_file l file (Dylib b) s number has = absurd (omega (arith, has.1))
symbol_in_file l file (Stub text says) s number has = absurd (omega (arith, has.1))

pub symbol_of : (l : Link) (s : SymbolId) → Contains (symbols_of l) s → IsSymbolOf l s
unfolding symbols_of
symbol_of l s has =
    let made = flat_map_contains (λ (i : ℕ × Input). symbols_of_file i.0 i.1) (enumerate_from 0 l.inputs) s has in
    symbol_in_file l made.0.0 made.0.1 s (enumerate_contains l.inputs made.0 made.1) made.2

pub symbol_there : (l : Link) (file k : ℕ) (b : List ℕ) → IsNumber l.inputs file (Object b) → k < num_symbols b
    → Contains (symbols_of l) (record { file = file; symbol = k })
unfolding symbols_of
symbol_there l file k b number low =
    contains_flat_map (λ (i : ℕ × Input). symbols_of_file i.0 i.1) (enumerate_from 0 l.inputs) (file, Object b)
    (record { file = file; symbol = k })
    (contains_enumerate l.inputs file (Object b) number.0 number.1)
    (contains_map (λ (n : ℕ). record { file = file; symbol = n }) (range_with_len 0 (num_symbols b)) k
    (contains_range (num_symbols b) k low))

-- a section of the link is one of an object
pub record IsSectionOf (l : Link) (s : SectionId) : Type 0 where
  pub bytes : List ℕ
  pub input : IsNumber l.inputs s.file (Object bytes)
  pub object : object_of l s.file ≡ bytes
  pub section : s.section < num_sections bytes

section_in_file : (l : Link) (file : ℕ) (x : Input) (s : SectionId) → IsNumber l.inputs file x → Contains (sections_of_file file x) s
    → IsSectionOf l s
section_in_file l file (Object b) s number has =
    let made = map_contains (λ (k : ℕ). record { file = file; section = k }) (range_with_len 0 (num_sections b)) s has in
    let low : made.0 < num_sections b = range_contains (num_sections b) made.0 made.1 in
    let there : file ≡ s.file = ap (λ (t : SectionId). t.file) made.2 in
    let index : made.0 ≡ s.section = ap (λ (t : SectionId). t.section) made.2 in
    record {
      bytes = b;
      input = subst (λ (f : ℕ). IsNumber l.inputs f (Object b)) there number;
      object = subst (λ (f : ℕ). object_of l f ≡ b) there (object_at l file b number);
      section = subst (λ (k : ℕ). k < num_sections b) index low;
    }
section_in_file l file (Dylib b) s number has = absurd (omega (arith, has.1))
section_in_file l file (Stub text says) s number has = absurd (omega (arith, has.1))

pub section_of : (l : Link) (s : SectionId) → Contains (sections_of l) s → IsSectionOf l s
unfolding sections_of
section_of l s has =
    let made = flat_map_contains (λ (i : ℕ × Input). sections_of_file i.0 i.1) (enumerate_from 0 l.inputs) s has in
    section_in_file l made.0.0 made.0.1 s (enumerate_contains l.inputs made.0 made.1) made.2

pub section_there : (l : Link) (file k : ℕ) (b : List ℕ) → IsNumber l.inputs file (Object b) → k < num_sections b
    → Contains (sections_of l) (section_id file k)
unfolding sections_of
section_there l file k b number low =
    contains_flat_map (λ (i : ℕ × Input). sections_of_file i.0 i.1) (enumerate_from 0 l.inputs) (file, Object b) (section_id file k)
    (contains_enumerate l.inputs file (Object b) number.0 number.1)
    (contains_map (λ (n : ℕ). section_id file n) (range_with_len 0 (num_sections b)) k (contains_range (num_sections b) k low))

-- what is carried is among the carried sections
pub carried_there : (l : Link) (file k : ℕ) (b : List ℕ) → IsNumber l.inputs file (Object b) → k < num_sections b
    → is_carried (header_at l (section_id file k)) ≡ true → Contains (carried_of l) (section_id file k)
unfolding carried_of
carried_there l file k b number low carried =
    contains_filter (λ s. is_carried (header_at l s)) (sections_of l) (section_id file k) (section_there l file k b number low) carried

-- a symbol of an object that stands in a section names one of the object's
section_exists : (b : List ℕ) → IsObject b → (k : ℕ) → k < num_symbols b → has_type N_SECT (symbol_at b k) ≡ true
    → (1 ≤ (symbol_at b k).n_sect) × ((symbol_at b k).n_sect ≤ num_sections b)
section_exists b is k low inside =
    let both = or_else _ _ ((object_keeps is).o5.0 k low) inside in
    (leb-true _ _ (and_left _ _ both), leb-true _ _ (and_right _ _ both))

-- a symbol that stands in a carried section leads into it
pub carried_symbol : (l : Link) (s : SymbolId) → ObjectsAreRead l → Contains (symbols_of l) s → stands_in_carried l s ≡ true
    → Contains (carried_of l) (section_of_symbol l s)
carried_symbol l s read there stands =
    let of = symbol_of l s there in
    let inside : has_type N_SECT (symbol_at of.bytes s.symbol) ≡ true =
    subst (λ (b : List ℕ). has_type N_SECT (symbol_at b s.symbol) ≡ true) of.object (and_left _ _ stands) in
    let exists = section_exists of.bytes (read s.file of.bytes of.input) s.symbol of.symbol inside in
    let number : (entry_at l s).n_sect ≡ (symbol_at of.bytes s.symbol).n_sect =
    ap (λ (b : List ℕ). (symbol_at b s.symbol).n_sect) of.object in
    let low : (entry_at l s).n_sect - 1 < num_sections of.bytes = omega (arith, exists.0, exists.1, number) in
    carried_there l s.file ((entry_at l s).n_sect - 1) of.bytes of.input low (and_right _ _ stands)
