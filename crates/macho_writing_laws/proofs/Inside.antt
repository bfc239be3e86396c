-- What moves with the image and is named by a symbol, a name or a relocation has a place.
--
-- It is of the link. A symbol that stands in a section lies in it, or at its end, by the rules of objects; a section that is named by
-- its number is led into at its start.
use Rattle.std.proofs.Common.{◌≡◌, ℕ, ◌+◌, ◌<◌, ◌≤◌, ◌||◌, ◌&&◌, ◌==◌, not, suc, nat_le, nat_lt, Bool, true, false, List, Option, Some, None, refl, sym, ap, subst, ◌∙◌, arith}
use Rattle.std.specs.Prelude.{Contains}
use Rattle.std.proofs.lemmas.Bool.{and_parts, leb-true, and_from}
use Rattle.macho_records.specs.declared.constants.TheConstants.{ARM64_RELOC_ADDEND, N_ABS, N_SECT}
use Rattle.macho_records.specs.Symbols.{is_common_of, has_type, is_global}
use Rattle.macho_model.specs.steps.RecordTests.{relocation_number_exists, symbol_section_exists, value_in_section}
use Rattle.macho_model.specs.ObjectRules.{has_section}
use Rattle.macho_model.specs.declared.targets.Target.{Target}
use Rattle.macho_model.specs.declared.targets.Target.TheVariants as target
use Rattle.macho_model.specs.Objects.{num_symbols, section_at, relocation_at}
use Rattle.macho_wire.specs.declared.relocations.RelocationInfo.{RelocationInfo}
use Rattle.macho_model.specs.Links.{Link, SectionId, section_id, object_of, header_at, sections_of, is_carried}
use Rattle.macho_model.specs.Resolution.{SymbolId, Definition, Symbol, Library, ImageBase, symbols_of, entry_at, name_at, definition_of, stands_in_carried, section_of_symbol}
use Rattle.macho_model.specs.Needs.{relocation_in, section_named, imports_of}
use Rattle.macho_model.specs.Targets.{own_target, definition_target, target_of, target_of_relocation}
use Rattle.macho_model.specs.Uses.{target_with}
use Rattle.macho_placed_laws.specs.Targets.{IsOfLink}
use Rattle.macho_model.specs.Grammar.{ObjectsAreRead}
use Rattle.macho_model.proofs.ObjectLaws.{object_keeps}
use Rattle.macho_model.proofs.Words.{place_of_symbol, target_of_section}
use Rattle.macho_placed_laws.proofs.OfLink.{symbol_of, section_of, symbol_there, IsSectionOf}
use Rattle.macho_placed_laws.proofs.Named.{name_of_link, symbol_of_link}
use Rattle.macho_placed_laws.proofs.Relocations.{relocation_of_link}
use Rattle.macho_image_laws.specs.Leads.{HasPlace}
use Rattle.macho_writing_laws.specs.Targets.{SymbolsHavePlaces, NamesHavePlaces, RelocationsHavePlaces}
use Rattle.macho_model.proofs.Definitions.{defined_by}
use Rattle.macho_model.proofs.FixedPointers.{left_true}

-- a place in a section isn't behind its end
abbrev IsInside : Link → Target → Type 0
IsInside l (target.Section file section offset) = offset ≤ (header_at l (section_id file section)).size
IsInside l (target.Common id) = Unit {0}
IsInside l (target.Import id) = Unit {0}
IsInside l target.Base = Unit {0}
IsInside l (target.Absolute value) = Unit {0}
IsInside l target.None = Unit {0}

has_place : (l : Link) (t : Target) → IsOfLink l t → IsInside l t → HasPlace l t
has_place l (target.Section file section offset) of inside = (of, inside)
has_place l (target.Common id) of inside = of
has_place l (target.Import id) of inside = absurd of
has_place l target.Base of inside = tt
has_place l (target.Absolute value) of inside = absurd of
has_place l target.None of inside = absurd of

symbol_inside : (l : Link) (s : SymbolId) → ObjectsAreRead l → Contains (symbols_of l) s → stands_in_carried l s ≡ true
    → IsInside l (place_of_symbol l s)
symbol_inside l s read there stands =
    let of = symbol_of l s there in
    let own = and_parts (has_type N_SECT (entry_at l s)) (is_carried (header_at l (section_of_symbol l s))) stands in
    let keeps = object_keeps (read s.file of.bytes of.input) in
    let exists : symbol_section_exists (object_of l s.file) s.symbol ≡ true =
    subst (λ (b : List ℕ). symbol_section_exists b s.symbol ≡ true) (sym of.object) (keeps.o5.0 s.symbol of.symbol) in
    let rule : value_in_section (object_of l s.file) s.symbol ≡ true =
    subst (λ (b : List ℕ). value_in_section b s.symbol ≡ true) (sym of.object) (keeps.o8 s.symbol of.symbol) in
    let numbered = left_true (has_type N_SECT (entry_at l s)) _ own.0 exists in
    let h = header_at l (section_of_symbol l s) in
    let value = and_parts (nat_le h.addr (entry_at l s).n_value) (nat_le (entry_at l s).n_value (h.addr + h.size))
    (left_true (has_type N_SECT (entry_at l s) && has_section (object_of l s.file) (entry_at l s).n_sect) _
    (and_from (has_type N_SECT (entry_at l s)) _ own.0 numbered) rule) in
    let end = leb-true (entry_at l s).n_value (h.addr + h.size) value.1 in
    omega (arith, end)

own_inside : (l : Link) (s : SymbolId) → ObjectsAreRead l → Contains (symbols_of l) s → IsInside l (own_target l s)
own_inside l s read there = by (stands_in_carried l s) (has_type N_ABS (entry_at l s)) (is_common_of (entry_at l s)) refl refl refl
  where
    by : (x y z : Bool) → stands_in_carried l s ≡ x → has_type N_ABS (entry_at l s) ≡ y → is_common_of (entry_at l s) ≡ z
        → IsInside l (own_target l s)
    by true y z e f g = rw e (symbol_inside l s read there e)
    by false true z e f g = rw (e, f) tt
    by false false true e f g = rw (e, f, g) tt
    by false false false e f g = rw (e, f, g) tt

name_inside : (l : Link) (noted : List (List ℕ)) (name : List ℕ) → ObjectsAreRead l
    → IsInside l (definition_target l noted name (definition_of l name))
name_inside l noted name read = by (definition_of l name) refl
  where
    by : (d : Option Definition) → definition_of l name ≡ d → IsInside l (definition_target l noted name d)
    by None e = tt
    by (Some (Symbol s)) e = own_inside l s read (defined_by l name s e).there
    by (Some (Library file)) e = tt
    by (Some ImageBase) e = tt

target_inside : (l : Link) (noted : List (List ℕ)) (s : SymbolId) → ObjectsAreRead l → Contains (symbols_of l) s
    → IsInside l (target_with l noted s)
target_inside l noted s read there = by (is_global (entry_at l s)) refl
  where
    by : (x : Bool) → is_global (entry_at l s) ≡ x → IsInside l (target_with l noted s)
    by true e = rw e (name_inside l noted (name_at l s) read)
    by false e = rw e (own_inside l s read there)

pub symbols_have : SymbolsHavePlaces
symbols_have l noted s read there moves =
    has_place l (target_with l noted s) (symbol_of_link l noted s read there moves) (target_inside l noted s read there)

pub names_have : NamesHavePlaces
names_have l noted name read moves =
    has_place l (definition_target l noted name (definition_of l name)) (name_of_link l noted name read moves)
    (name_inside l noted name read)

-- a relocation that names a symbol names one of the object's
symbol_low : (l : Link) (s : SectionId) (r : ℕ) → ObjectsAreRead l → (of : IsSectionOf l s) → r < (header_at l s).nreloc
    → (relocation_in l s r).r_extern ≡ true → (relocation_in l s r).r_symbolnum < num_symbols of.bytes
symbol_low l s r read of low extern =
    let here : relocation_in l s r ≡ relocation_at of.bytes s.section r = ap (λ (b : List ℕ). relocation_at b s.section r) of.object in
    let exists : relocation_number_exists of.bytes s.section r ≡ true =
    (object_keeps (read s.file of.bytes of.input)).o5.1 s.section r of.section
    (subst (λ (b : List ℕ). r < (section_at b s.section).nreloc) of.object low) in
    let extern_here : (relocation_at of.bytes s.section r).r_extern ≡ true = ap (λ (q : RelocationInfo). q.r_extern) (sym here) ∙ extern in
    let test : nat_lt (relocation_at of.bytes s.section r).r_symbolnum (num_symbols of.bytes) ≡ true = rw extern_here at exists in
    let below = leb-true (suc (relocation_at of.bytes s.section r).r_symbolnum) (num_symbols of.bytes) test in
    omega (arith, below, ap (λ (q : RelocationInfo). q.r_symbolnum) here)

section_inside : (l : Link) (s : SectionId) → IsInside l (target_of_section l s)
section_inside l s = by (is_carried (header_at l s)) refl
  where
    by : (x : Bool) → is_carried (header_at l s) ≡ x → IsInside l (target_of_section l s)
    by true e = rw e (omega arith)
    by false e = rw e tt

relocation_inside : (l : Link) (s : SectionId) (r : ℕ) → ObjectsAreRead l → Contains (sections_of l) s → r < (header_at l s).nreloc
    → ((relocation_in l s r).r_type == ARM64_RELOC_ADDEND) ≡ false → IsInside l (target_of_relocation l s r)
unfolding target_of_relocation target_of
relocation_inside l s r read there low plain = by (relocation_in l s r).r_extern refl
  where
    of : IsSectionOf l s
    of = section_of l s there

    symbol : SymbolId
    symbol = record { file = s.file; symbol = (relocation_in l s r).r_symbolnum }

    by_symbol : (relocation_in l s r).r_extern ≡ true → IsInside l (target_with l (imports_of l) symbol)
    by_symbol e =
        target_inside l (imports_of l) symbol read
        (symbol_there l s.file (relocation_in l s r).r_symbolnum of.bytes of.input (symbol_low l s r read of low e))

    by : (x : Bool) → (relocation_in l s r).r_extern ≡ x → IsInside l (target_of_relocation l s r)
    by true e = rw (e, plain) (by_symbol e)
    by false e = rw e (section_inside l (section_named l s r))

pub relocations_have : RelocationsHavePlaces
relocations_have l s r read there low plain moves =
    has_place l (target_of_relocation l s r) (relocation_of_link l s r read there low plain moves)
    (relocation_inside l s r read there low plain)
