-- What the relocations of consumed sections name is there, by the rules of objects.
--
-- A plain pointer is no addend; so where it is extern it names a symbol of its object, and else a section of it. The place of a
-- relocation lies in its section.
use Rattle.std.proofs.Common.{◌≡◌, ℕ, suc, ◌+◌, ◌-◌, ◌^◌, ◌<◌, ◌≤◌, ◌==◌, ◌&&◌, nat_le, nat_lt, true, false, List, sym, ap, subst, ◌∙◌, arith}
use Rattle.std.specs.Prelude.{Contains}
use Rattle.std.proofs.lemmas.Bool.{leb-true}
use Rattle.macho_model.specs.steps.RecordTests.{relocation_number_exists, field_inside}
use Rattle.macho_records.specs.declared.constants.TheConstants.{ARM64_RELOC_ADDEND}
use Rattle.macho_wire.specs.declared.relocations.RelocationInfo.{RelocationInfo}
use Rattle.macho_model.specs.Objects.{num_sections, num_symbols, section_at, relocation_at}
use Rattle.macho_model.specs.Links.{Link, SectionId, object_of, header_at, is_carried, sections_of, carried_of}
use Rattle.macho_model.specs.Needs.{relocation_in, section_named}
use Rattle.macho_model.specs.Consumed.{is_plain_pointer}
use Rattle.macho_model.specs.Grammar.{ObjectsAreRead}
use Rattle.macho_model.proofs.ObjectLaws.{object_keeps}
use Rattle.macho_placed_laws.proofs.OfLink.{section_of, carried_there, IsSectionOf}
use Rattle.macho_bytes.proofs.Bools.{and_left, and_right}
use Rattle.macho_model.proofs.Sections.{no_addend}

-- the symbol of an extern relocation
pub symbol_low : (l : Link) (s : SectionId) (r : ℕ) → ObjectsAreRead l → Contains (sections_of l) s → r < (header_at l s).nreloc
    → (relocation_in l s r).r_extern ≡ true → (relocation_in l s r).r_symbolnum < num_symbols (object_of l s.file)
symbol_low l s r read there low extern =
    let of : IsSectionOf l s = section_of l s there in
    let exists : relocation_number_exists of.bytes s.section r ≡ true =
    (object_keeps (read s.file of.bytes of.input)).o5.1 s.section r of.section
    (subst (λ (b : List ℕ). r < (section_at b s.section).nreloc) of.object low) in
    let extern_here : (relocation_at of.bytes s.section r).r_extern ≡ true =
    subst (λ (b : List ℕ). (relocation_at b s.section r).r_extern ≡ true) of.object extern in
    let test : nat_lt (relocation_at of.bytes s.section r).r_symbolnum (num_symbols of.bytes) ≡ true = rw extern_here at exists in
    let below = leb-true (suc (relocation_at of.bytes s.section r).r_symbolnum) (num_symbols of.bytes) test in
    subst (λ (b : List ℕ). (relocation_at b s.section r).r_symbolnum < num_symbols b) (sym of.object) (omega (arith, below))

-- the section of another one
pub named_there : (l : Link) (s : SectionId) (r : ℕ) → ObjectsAreRead l → Contains (sections_of l) s → r < (header_at l s).nreloc
    → is_plain_pointer (relocation_in l s r) ≡ true → (relocation_in l s r).r_extern ≡ false
    → is_carried (header_at l (section_named l s r)) ≡ true → Contains (carried_of l) (section_named l s r)
named_there l s r read there low plain number carried =
    let of : IsSectionOf l s = section_of l s there in
    let exists : relocation_number_exists of.bytes s.section r ≡ true =
    (object_keeps (read s.file of.bytes of.input)).o5.1 s.section r of.section
    (subst (λ (b : List ℕ). r < (section_at b s.section).nreloc) of.object low) in
    let here : relocation_in l s r ≡ relocation_at of.bytes s.section r = ap (λ (b : List ℕ). relocation_at b s.section r) of.object in
    let number_here : (relocation_at of.bytes s.section r).r_extern ≡ false =
    ap (λ (q : RelocationInfo). q.r_extern) (sym here) ∙ number in
    let plain_here : ((relocation_at of.bytes s.section r).r_type == ARM64_RELOC_ADDEND) ≡ false =
    ap (λ (q : RelocationInfo). q.r_type == ARM64_RELOC_ADDEND) (sym here) ∙ no_addend (relocation_in l s r) plain in
    let n : ℕ = (relocation_at of.bytes s.section r).r_symbolnum in
    let test : (nat_le 1 n && nat_le n (num_sections of.bytes)) ≡ true = rw (number_here, plain_here) at exists in
    let from : 1 ≤ n = leb-true 1 n (and_left _ _ test) in
    let to : n ≤ num_sections of.bytes = leb-true n (num_sections of.bytes) (and_right (nat_le 1 n) _ test) in
    let same : (relocation_in l s r).r_symbolnum ≡ n = ap (λ (q : RelocationInfo). q.r_symbolnum) here in
    carried_there l s.file ((relocation_in l s r).r_symbolnum - 1) of.bytes of.input (omega (arith, from, to, same)) carried

-- the bytes of a relocated field lie in their section
pub place_inside : (l : Link) (s : SectionId) (r : ℕ) → ObjectsAreRead l → Contains (sections_of l) s → r < (header_at l s).nreloc
    → (relocation_in l s r).r_address + 2 ^ (relocation_in l s r).r_length ≤ (header_at l s).size
place_inside l s r read there low =
    let of : IsSectionOf l s = section_of l s there in
    let inside : field_inside of.bytes s.section r ≡ true =
    (object_keeps (read s.file of.bytes of.input)).o10.1 s.section r of.section
    (subst (λ (b : List ℕ). r < (section_at b s.section).nreloc) of.object low) in
    subst (λ (b : List ℕ). (relocation_at b s.section r).r_address + 2 ^ (relocation_at b s.section r).r_length ≤
    (section_at b s.section).size)
    (sym of.object) (leb-true _ _ inside)
