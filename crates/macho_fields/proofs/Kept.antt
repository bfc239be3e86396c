-- Relocations of carried sections lead inside the link, where its objects keep the rules of objects.
--
-- A relocation that names a section names one that exists, and leads to it where it is carried. One that names a symbol leads
-- where the symbol's own place is, or that of the symbol which defines its name. This one is a symbol of an object, whose section
-- exists; and a common that defines its name is chosen.
use Rattle.std.proofs.Common.{◌≡◌, ℕ, zero, suc, ◌+◌, ◌-◌, ◌<◌, ◌&&◌, not, if◌then◌else◌, true, false, Bool, List, [], ◌∷◌, Contains, Option, Some, None, refl, sym, ap, subst, ◌∙◌, arith, inl, inr}
use Rattle.std.specs.Prelude.{nat_le}
use Rattle.std.specs.List.{flat_map, enumerate_from, range_with_len, position_or_len}
use Rattle.std.proofs.lemmas.Bool.{leb-true}
use Rattle.std.proofs.lemmas.List.Elements.{Contains-append_cases}
use Rattle.macho_records.specs.Symbols.{is_common_of, is_stab_of, has_type, is_global}
use Rattle.macho_model.specs.steps.RecordTests.{symbol_section_exists, relocation_number_exists}
use Rattle.macho_records.specs.declared.symbols.SymtabEntry.{SymtabEntry}
use Rattle.macho_records.specs.declared.constants.TheConstants.{N_ABS, N_SECT, N_EXT}
use Rattle.macho_records.specs.Flags.{has_any}
use Rattle.macho_model.specs.declared.targets.Target.TheVariants as target
use Rattle.macho_model.specs.Lists.{IsNumber}
use Rattle.macho_model.specs.Objects.{num_sections, num_symbols}
use Rattle.macho_model.specs.Grammar.{IsObject}
use Rattle.macho_model.proofs.ObjectLaws.{object_keeps, symbol_exists}
use Rattle.macho_model.specs.Links.{Input, Object, Dylib, Stub, Link, object_of, SectionId, header_at, is_carried, sections_of_file, sections_of, carried_of}
use Rattle.macho_model.specs.Resolution.{SymbolId, Definition, Symbol, Library, ImageBase, entry_at, name_at, symbols_of_file, symbols_of, section_of_symbol, stands_in_carried, definition_of, is_symbol, same_symbol, chosen_commons}
use Rattle.macho_model.specs.LinkLaws.{is_chosen}
use Rattle.macho_model.specs.Needs.{relocation_in, section_named, symbol_of_relocation, imports_of}
use Rattle.macho_model.specs.Targets.{own_target, definition_target, target_of, target_of_relocation}
use Rattle.macho_model.proofs.Words.{target_of_symbol, target_of_section}
use Rattle.macho_fields.specs.Looks.{Leads}
use Rattle.macho_fields.specs.Laws.{ObjectsAreWhole, LeadsInside, TargetsAreKept}
use Rattle.macho_fields.proofs.Found.{of_map}
use Rattle.macho_fields.proofs.Nexts.{section_exists}
use Rattle.macho_bytes.proofs.Bools.{true_or_false, and_left, and_right, or_right, equal_is}
use Rattle.macho_bytes.proofs.Members.{unfilter_contains, contains_later, contains_cases, contains_map as in_map, contains_filter, contains_flat_map as in_flat_map, contains_range, range_contains, position_below}
use Rattle.macho_model.proofs.Sections.{object_at}
use Rattle.macho_model.proofs.Definitions.{Defines, defined_by}

-- an element of joined lists is one of some list
record IsJoined {X Y : Type 0} (f : X → List Y) (xs : List X) (y : Y) : Type 0 where
  of : X
  there : Contains xs of
  here : Contains (f of) y

of_flat_map : {X Y : Type 0} (f : X → List Y) (xs : List X) (y : Y) → Contains (flat_map f xs) y → IsJoined f xs y
of_flat_map f [] y h = absurd (omega (arith, h.1))
of_flat_map f (x ∷ xs) y h = elim (Contains-append_cases (f x) (flat_map f xs) y h) [
  | inl own ↦ record { of = x; there = (0, omega arith, refl); here = own }
  | inr rest ↦ let j = of_flat_map f xs y rest in record { of = j.of; there = contains_later x xs j.of j.there; here = j.here }
]

-- numbered elements
in_enumerate : {X : Type 0} (a : ℕ) (xs : List X) (k : ℕ) (x : X) → IsNumber xs k x → Contains (enumerate_from a xs) (a + k, x)
in_enumerate a [] k x h = absurd (omega (arith, h.0))
in_enumerate {X} a (y ∷ xs) zero x h =
    subst (λ (i : ℕ × X). Contains ((a, y) ∷ enumerate_from (a + 1) xs) i)
    (let n : a ≡ a + 0 = omega arith in ap (λ (m : ℕ). (m, y)) n ∙ ap (λ (z : X). (a + 0, z)) h.1)
    (0, omega arith, refl)
in_enumerate {X} a (y ∷ xs) (suc k) x h =
    let n : a + 1 + k ≡ a + suc k = omega arith in
    subst (λ (m : ℕ). Contains ((a, y) ∷ enumerate_from (a + 1) xs) (m, x)) n
    (contains_later (a, y) (enumerate_from (a + 1) xs) (a + 1 + k, x) (in_enumerate (a + 1) xs k x (omega (arith, h.0), h.1)))

record IsEnumerated {X : Type 0} (a : ℕ) (xs : List X) (i : ℕ × X) : Type 0 where
  number : ℕ
  is : i.0 ≡ a + number
  there : IsNumber xs number i.1

of_enumerate : {X : Type 0} (a : ℕ) (xs : List X) (i : ℕ × X) → Contains (enumerate_from a xs) i → IsEnumerated a xs i
of_enumerate a [] i h = absurd (omega (arith, h.1))
of_enumerate {X} a (y ∷ xs) i h = elim (contains_cases (a, y) (enumerate_from (a + 1) xs) i h) [
  | inl is ↦ record { number = 0; is = sym (ap (λ (j : ℕ × X). j.0) is) ∙ omega arith; there = (omega arith, ap (λ (j : ℕ × X). j.1) is) }
  | inr rest ↦
      let e = of_enumerate (a + 1) xs i rest in
      record { number = suc e.number; is = e.is ∙ omega arith; there = (omega (arith, e.there.0), e.there.1) }
]

-- a file that is an object
record IsFileOf (l : Link) (file : ℕ) : Type 0 where
  bytes : List ℕ
  number : IsNumber l.inputs file (Object bytes)

-- its sections are those of the link
in_sections : (l : Link) (file : ℕ) (bytes : List ℕ) (k : ℕ) → IsNumber l.inputs file (Object bytes) → k < num_sections bytes
    → Contains (sections_of l) (record { file = file; section = k })
unfolding sections_of
in_sections l file bytes k n lt =
    let i = in_enumerate 0 l.inputs file (Object bytes) n in
    let zero_file : 0 + file ≡ file = omega arith in
    let here : Contains (sections_of_file file (Object bytes)) (record { file = file; section = k }) =
    in_map (λ m. record { file = file; section = m }) (range_with_len 0 (num_sections bytes)) k
    (contains_range (num_sections bytes) k lt) in
    in_flat_map (λ j. sections_of_file j.0 j.1) (enumerate_from 0 l.inputs) (file, Object bytes) (record { file = file; section = k })
    (subst (λ (m : ℕ). Contains (enumerate_from 0 l.inputs) (m, Object bytes)) zero_file i) here

object_of_section : (l : Link) (s : SectionId) (file : ℕ) (x : Input) → IsNumber l.inputs file x → Contains (sections_of_file file x) s
    → IsFileOf l s.file × (s.section < num_sections (object_of l s.file))
object_of_section l s file (Dylib bytes) n h = absurd (omega (arith, h.1))
object_of_section l s file (Stub text says) n h = absurd (omega (arith, h.1))
object_of_section l s file (Object bytes) n h =
    let m = of_map (λ k. record { file = file; section = k }) (range_with_len 0 (num_sections bytes)) s h in
    let same : file ≡ s.file = ap (λ (t : SectionId). t.file) m.is in
    let number = ap (λ (t : SectionId). t.section) m.is in
    let lt = range_contains (num_sections bytes) m.of m.there in (
      record { bytes = bytes; number = subst (λ (f : ℕ). IsNumber l.inputs f (Object bytes)) same n },
      subst (λ (f : ℕ). s.section < num_sections (object_of l f)) same
          (subst (λ (b : List ℕ). s.section < num_sections b) (sym (object_at l file bytes n))
          (subst (λ (k : ℕ). k < num_sections bytes) number lt)),
    )

file_of_section : (l : Link) (s : SectionId) → Contains (sections_of l) s → IsFileOf l s.file
    × (s.section < num_sections (object_of l s.file))
unfolding sections_of
file_of_section l s h =
    let j = of_flat_map (λ i. sections_of_file i.0 i.1) (enumerate_from 0 l.inputs) s h in
    let e = of_enumerate 0 l.inputs j.of j.there in
    object_of_section l s j.of.0 j.of.1 (subst (λ (m : ℕ). IsNumber l.inputs m j.of.1) (omega (arith, e.is)) e.there) j.here

-- and so its symbols
object_of_symbol : (l : Link) (s : SymbolId) (file : ℕ) (x : Input) → IsNumber l.inputs file x → Contains (symbols_of_file file x) s
    → IsFileOf l s.file × (s.symbol < num_symbols (object_of l s.file))
object_of_symbol l s file (Dylib bytes) n h = absurd (omega (arith, h.1))
object_of_symbol l s file (Stub text says) n h = absurd (omega (arith, h.1))
object_of_symbol l s file (Object bytes) n h =
    let m = of_map (λ k. record { file = file; symbol = k }) (range_with_len 0 (num_symbols bytes)) s h in
    let same : file ≡ s.file = ap (λ (t : SymbolId). t.file) m.is in
    let number = ap (λ (t : SymbolId). t.symbol) m.is in
    let lt = range_contains (num_symbols bytes) m.of m.there in (
      record { bytes = bytes; number = subst (λ (f : ℕ). IsNumber l.inputs f (Object bytes)) same n },
      subst (λ (f : ℕ). s.symbol < num_symbols (object_of l f)) same
          (subst (λ (b : List ℕ). s.symbol < num_symbols b) (sym (object_at l file bytes n))
          (subst (λ (k : ℕ). k < num_symbols bytes) number lt)),
    )

file_of_symbol : (l : Link) (s : SymbolId) → Contains (symbols_of l) s → IsFileOf l s.file × (s.symbol < num_symbols (object_of l s.file))
unfolding symbols_of
file_of_symbol l s h =
    let j = of_flat_map (λ i. symbols_of_file i.0 i.1) (enumerate_from 0 l.inputs) s h in
    let e = of_enumerate 0 l.inputs j.of j.there in
    object_of_symbol l s j.of.0 j.of.1 (subst (λ (m : ℕ). IsNumber l.inputs m j.of.1) (omega (arith, e.is)) e.there) j.here

-- a section that exists and is carried is one of the link's
in_carried : (l : Link) (s : SectionId) → IsFileOf l s.file → s.section < num_sections (object_of l s.file)
    → is_carried (header_at l s) ≡ true → Contains (carried_of l) s
unfolding carried_of
in_carried l s f lt is =
    contains_filter (λ t. is_carried (header_at l t)) (sections_of l) s
    (in_sections l s.file f.bytes s.section f.number (subst (λ (b : List ℕ). s.section < num_sections b)
    (object_at l s.file f.bytes f.number) lt)) is

whole : (l : Link) (file : ℕ) → ObjectsAreWhole l → IsFileOf l file → IsObject (object_of l file)
whole l file objects f = subst IsObject (sym (object_at l file f.bytes f.number)) (objects.each file f.bytes f.number)

own_inside : (l : Link) (s : SymbolId) → ObjectsAreWhole l → IsFileOf l s.file → s.symbol < num_symbols (object_of l s.file)
    → (is_common_of (entry_at l s) ≡ true → Contains (chosen_commons l) s) → LeadsInside l (own_target l s)
own_inside l s objects f among chosen = by (stands_in_carried l s) (has_type N_ABS (entry_at l s)) (is_common_of (entry_at l s)) refl refl
  where
    e : SymtabEntry
    e = entry_at l s

    by : (a b c : Bool) → stands_in_carried l s ≡ a → is_common_of e ≡ c
        → LeadsInside l (if a then target.Section s.file (e.n_sect - 1) (e.n_value - (header_at l (section_of_symbol l s)).addr)
        else if b then target.Absolute e.n_value else if c then target.Common
        (position_or_len (same_symbol s) (chosen_commons l)) else target.None)
    by true b c stands common =
        let inside = and_left (has_type N_SECT e) (is_carried (header_at l (section_of_symbol l s))) stands in
        let carried = and_right (has_type N_SECT e) (is_carried (header_at l (section_of_symbol l s))) stands in
        let rule : symbol_section_exists (object_of l s.file) s.symbol
        ≡ true = (object_keeps (whole l s.file objects f)).o5.0 s.symbol among in
        let exists = or_right (not (has_type N_SECT e)) (nat_le 1 e.n_sect && nat_le e.n_sect (num_sections (object_of l s.file))) rule
        (ap not inside) in
        let low = leb-true 1 e.n_sect (and_left (nat_le 1 e.n_sect) _ exists) in
        let high = leb-true e.n_sect (num_sections (object_of l s.file)) (and_right (nat_le 1 e.n_sect) _ exists) in
        in_carried l (section_of_symbol l s) f (omega (arith, low, high)) carried
    by false true c stands common = tt
    by false false true stands common =
        position_below (same_symbol s) (chosen_commons l) s (chosen common)
        (rw (equal_is s.file s.file refl, equal_is s.symbol s.symbol refl) refl)
    by false false false stands common = tt

-- a common that defines its name is chosen
is_chosen_one : (l : Link) (name : List ℕ) (s : SymbolId) → definition_of l name ≡ Some (Symbol s) → Defines l name s
    → is_common_of (entry_at l s) ≡ true
    → Contains (chosen_commons l) s
unfolding chosen_commons
is_chosen_one l name s is d common =
    let own : definition_of l (name_at l s) ≡ Some (Symbol s) = ap (definition_of l) d.named ∙ is in
    let same : same_symbol s s ≡ true = rw (equal_is s.file s.file refl, equal_is s.symbol s.symbol refl) refl in
    let names : is_symbol s (definition_of l (name_at l s)) ≡ true = ap (is_symbol s) own ∙ same in
    contains_filter (is_chosen l) (symbols_of l) s d.there (rw (common, d.global, names) refl)

name_inside : (l : Link) (name : List ℕ) (o : Option Definition) → ObjectsAreWhole l → definition_of l name ≡ o
    → LeadsInside l (definition_target l (imports_of l) name o)
name_inside l name None objects is = tt
name_inside l name (Some (Library file)) objects is = tt
name_inside l name (Some ImageBase) objects is = tt
name_inside l name (Some (Symbol s)) objects is =
    let d = defined_by l name s is in
    let f = file_of_symbol l s d.there in
    own_inside l s objects f.0 f.1 (is_chosen_one l name s is d)

-- a symbol that is not global is no common
local_common : (stab external undefined some : Bool) → (not stab && external) ≡ false
    → (not stab && undefined && external && some) ≡ true → ⊥
local_common true external undefined some local h = true_or_false false h refl
local_common false true undefined some local h = true_or_false true refl local
local_common false false true some local h = true_or_false false h refl
local_common false false false some local h = true_or_false false h refl

-- what a symbol leads to
symbol_inside : (l : Link) (s : SymbolId) → ObjectsAreWhole l → IsFileOf l s.file → s.symbol < num_symbols (object_of l s.file)
    → LeadsInside l (target_of l s)
unfolding target_of
symbol_inside l s objects f among = by (is_global (entry_at l s)) refl
  where
    own : is_global (entry_at l s) ≡ false → is_common_of (entry_at l s) ≡ true → Contains (chosen_commons l) s
    own local common = absurd (local_common (is_stab_of (entry_at l s)) (has_any N_EXT (entry_at l s).n_type) _ _ local common)

    by : (a : Bool) → is_global (entry_at l s) ≡ a
        → LeadsInside l (if a then definition_target l (imports_of l) (name_at l s) (definition_of l (name_at l s)) else own_target l s)
    by true global = name_inside l (name_at l s) (definition_of l (name_at l s)) objects refl
    by false local = own_inside l s objects f among (own local)

-- what a relocation leads to
relocation_inside : (l : Link) (s : SectionId) (r : ℕ) → ObjectsAreWhole l → Leads l s r → LeadsInside l (target_of_relocation l s r)
unfolding target_of_relocation carried_of
relocation_inside l s r objects leads = by (relocation_in l s r).r_extern refl
  where
    f : IsFileOf l s.file × (s.section < num_sections (object_of l s.file))
    f = file_of_section l s (unfilter_contains (λ t. is_carried (header_at l t)) (sections_of l) s leads.carried)

    exists : relocation_number_exists (object_of l s.file) s.section r ≡ true
    exists = (object_keeps (whole l s.file objects f.0)).o5.1 s.section r f.1 leads.among

    by_section : (b : Bool) → is_carried (header_at l (section_named l s r)) ≡ b → (relocation_in l s r).r_extern ≡ false
        → LeadsInside l (if b then target.Section s.file ((relocation_in l s r).r_symbolnum - 1) 0 else target.None)
    by_section true is plain = in_carried l (section_named l s r) f.0
        (section_exists (object_of l s.file) s.section r exists leads.no_addend plain) is
    by_section false is plain = tt

    by : (b : Bool) → (relocation_in l s r).r_extern ≡ b
        → LeadsInside l (if b then target_of_symbol l (symbol_of_relocation l s r) else target_of_section l (section_named l s r))
    by true extern =
        let named : symbol_of_relocation l s r ≡ Some (record { file = s.file; symbol = (relocation_in l s r).r_symbolnum }) = rw
        (extern, leads.no_addend) refl in
        subst (λ (o : Option SymbolId). LeadsInside l (target_of_symbol l o)) (sym named)
        (symbol_inside l (record { file = s.file; symbol = (relocation_in l s r).r_symbolnum }) objects f.0
        (symbol_exists (object_of l s.file) s.section r exists extern))
    by false plain = by_section (is_carried (header_at l (section_named l s r))) refl plain

-- THE law.
pub targets_kept : (l : Link) → ObjectsAreWhole l → TargetsAreKept l
targets_kept l objects = record { each = λ s r leads. relocation_inside l s r objects leads }
