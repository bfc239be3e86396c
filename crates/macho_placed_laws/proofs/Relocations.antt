-- A relocation's target is of the link.
--
-- By the rules of objects a relocation that names a symbol names one that its object has, and so does one that names a section. An addend
-- that is not extern may name neither, so it is left out.
use Rattle.std.proofs.Common.{◌≡◌, ℕ, suc, ◌-◌, ◌<◌, ◌≤◌, ◌==◌, ◌&&◌, nat_le, nat_lt, Bool, true, false, List, refl, sym, ap, subst, ◌∙◌, arith}
use Rattle.std.proofs.lemmas.Bool.{leb-true}
use Rattle.macho_model.specs.steps.RecordTests.{relocation_number_exists}
use Rattle.macho_model.proofs.ObjectLaws.{object_keeps}
use Rattle.macho_records.specs.declared.constants.TheConstants.{ARM64_RELOC_ADDEND}
use Rattle.macho_wire.specs.declared.relocations.RelocationInfo.{RelocationInfo}
use Rattle.macho_model.specs.Objects.{num_sections, num_symbols, section_at, relocation_at}
use Rattle.macho_model.specs.Links.{header_at, is_carried}
use Rattle.macho_model.specs.Needs.{relocation_in, section_named, imports_of}
use Rattle.macho_model.specs.Targets.{target_of, target_of_relocation, is_defined}
use Rattle.macho_model.proofs.Words.{target_of_section}
use Rattle.macho_placed_laws.specs.Targets.{IsOfLink, RelocationTargetsAreOfLink}
use Rattle.macho_placed_laws.proofs.OfLink.{section_of, symbol_there, carried_there, IsSectionOf}
use Rattle.macho_placed_laws.proofs.Named.{symbol_of_link}
use Rattle.macho_bytes.proofs.Bools.{and_left, and_right}

pub relocation_of_link : RelocationTargetsAreOfLink
unfolding target_of_relocation target_of
relocation_of_link l s r read there low plain moves = by (relocation_in l s r).r_extern refl moves
  where
    of : IsSectionOf l s
    of = section_of l s there

    -- the rule on its number
    exists : relocation_number_exists of.bytes s.section r ≡ true
    exists = (object_keeps (read s.file of.bytes of.input)).o5.1 s.section r of.section
        (subst (λ (b : List ℕ). r < (section_at b s.section).nreloc) of.object low)

    here : relocation_in l s r ≡ relocation_at of.bytes s.section r
    here = ap (λ (b : List ℕ). relocation_at b s.section r) of.object

    extern_here : (x : Bool) → (relocation_in l s r).r_extern ≡ x → (relocation_at of.bytes s.section r).r_extern ≡ x
    extern_here x e = ap (λ (q : RelocationInfo). q.r_extern) (sym here) ∙ e

    plain_here : ((relocation_at of.bytes s.section r).r_type == ARM64_RELOC_ADDEND) ≡ false
    plain_here = ap (λ (q : RelocationInfo). q.r_type == ARM64_RELOC_ADDEND) (sym here) ∙ plain

    number_here : (relocation_in l s r).r_symbolnum ≡ (relocation_at of.bytes s.section r).r_symbolnum
    number_here = ap (λ (q : RelocationInfo). q.r_symbolnum) here

    symbol_low : (relocation_in l s r).r_extern ≡ true → (relocation_in l s r).r_symbolnum < num_symbols of.bytes
    symbol_low e =
        let test : nat_lt (relocation_at of.bytes s.section r).r_symbolnum (num_symbols of.bytes) ≡ true =
        rw (extern_here true e) at exists in
        let below = leb-true (suc (relocation_at of.bytes s.section r).r_symbolnum) (num_symbols of.bytes) test in
        omega (arith, below, number_here)

    section_low : (relocation_in l s r).r_extern ≡ false
        → (1 ≤ (relocation_in l s r).r_symbolnum) × ((relocation_in l s r).r_symbolnum ≤ num_sections of.bytes)
    section_low e =
        let n : ℕ = (relocation_at of.bytes s.section r).r_symbolnum in
        let test : (nat_le 1 n && nat_le n (num_sections of.bytes)) ≡ true = rw (extern_here false e, plain_here) at exists in
        let from : 1 ≤ n = leb-true 1 n (and_left _ _ test) in
        let to : n ≤ num_sections of.bytes = leb-true n (num_sections of.bytes) (and_right (nat_le 1 n) _ test) in
        (omega (arith, from, number_here), omega (arith, to, number_here))

    symbol_case : (relocation_in l s r).r_extern ≡ true
        → is_defined (target_of l (record { file = s.file; symbol = (relocation_in l s r).r_symbolnum })) ≡ true
        → IsOfLink l (target_of l (record { file = s.file; symbol = (relocation_in l s r).r_symbolnum }))
    symbol_case e m =
        symbol_of_link l (imports_of l) (record { file = s.file; symbol = (relocation_in l s r).r_symbolnum }) read
        (symbol_there l s.file (relocation_in l s r).r_symbolnum of.bytes of.input (symbol_low e)) m

    section_case : (e : (relocation_in l s r).r_extern ≡ false) → (x : Bool) → is_carried (header_at l (section_named l s r)) ≡ x
        → is_defined (target_of_section l (section_named l s r)) ≡ true → IsOfLink l (target_of_section l (section_named l s r))
    section_case e true c m =
        rw c (carried_there l s.file ((relocation_in l s r).r_symbolnum - 1) of.bytes of.input
        (omega (arith, (section_low e).0, (section_low e).1)) c)
    section_case e false c m =
        let moved : false ≡ true = rw c at m in
        cc

    by : (x : Bool) → (relocation_in l s r).r_extern ≡ x → is_defined (target_of_relocation l s r) ≡ true
        → IsOfLink l (target_of_relocation l s r)
    by true e m = rw (e, plain) (symbol_case e (rw (e, plain) at m))
    by false e m = rw e (section_case e (is_carried (header_at l (section_named l s r))) refl (rw e at m))
