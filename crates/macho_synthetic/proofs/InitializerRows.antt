-- Initializers of a link, by their rows.
--
-- A row is made of a relocation in a slot of a section of initializers. By the rules it is a plain pointer to a symbol that stands in a
-- carried section. So what is looked up for the symbol is the relocation's target, which has an address at the base or above it.
use Rattle.std.proofs.Common.{◌≡◌, ℕ, ◌+◌, ◌*◌, ◌/◌, ◌<◌, ◌≤◌, ◌==◌, ◌&&◌, true, refl, sym, ap, subst, ◌∙◌, arith, not}
use Rattle.std.specs.Prelude.{Contains, map}
use Rattle.std.specs.List.{range_with_len}
use Rattle.macho_records.specs.Sections.{should_exclude_of}
use Rattle.macho_bytes.proofs.Members.{flat_map_contains, map_contains, filter_contains, range_contains, one_passes}
use Rattle.macho_model.specs.declared.targets.Target.{Target}
use Rattle.macho_model.specs.declared.targets.Target.TheVariants as target
use Rattle.macho_model.specs.Links.{Link, SectionId, header_at, is_initializers, sections_of}
use Rattle.macho_model.specs.Needs.{relocation_in, relocations_of, relocations_at, initializer_sections}
use Rattle.macho_model.specs.Targets.{target_of, is_defined}
use Rattle.macho_model.specs.Consumed.{is_section_target}
use Rattle.macho_model.specs.Placement.{Placed}
use Rattle.macho_consumed.specs.declared.rows.Initializer.{Initializer}
use Rattle.macho_consumed.specs.Rows.{initializer_row, initializer_rows_in, initializer_rows}
use Rattle.macho_consumed.specs.Told.{InitializersKeepRules}
use Rattle.macho_consumed.specs.Laws.{section_of_initializer, target_of_initializer}
use Rattle.macho_consumed.proofs.Leading.{pointer_leads}
use Rattle.macho_placed_laws.specs.Targets.{IsOfLink}
use Rattle.macho_model.specs.Grammar.{ObjectsAreRead}
use Rattle.macho_model.proofs.Words.{initializer_relocation_fits}
use Rattle.macho_placed_laws.proofs.Relocations.{relocation_of_link}
use Rattle.macho_fields.specs.Looks.{Look, Tells}
use Rattle.macho_synthetic.specs.steps.Offsets.{target_in}
use Rattle.macho_synthetic.proofs.Existing.{symbol_low}
use Rattle.macho_bytes.proofs.Bools.{and_left, and_right}
use Rattle.macho_model.proofs.Sections.{initializer_section, no_addend}

-- A row of a link.
pub record IsRow (l : Link) (row : Initializer) : Type 0 where
  pub section : Contains (initializer_sections l) (section_of_initializer row)
  pub low : row.number < (header_at l (section_of_initializer row)).nreloc
  pub relocation : relocation_in l (section_of_initializer row) row.number ≡ row.relocation
  pub fits : initializer_relocation_fits l (section_of_initializer row) row.number ≡ true

-- the relocations of a slot fit
pub slot_fits : (l : Link) (s : SectionId) (slot r : ℕ) → InitializersKeepRules l → Contains (initializer_sections l) s
    → 8 * slot + 8 ≤ (header_at l s).size → Contains (relocations_at l s (8 * slot)) r → initializer_relocation_fits l s r ≡ true
slot_fits l s slot r rules there inside has =
    one_passes (initializer_relocation_fits l s) (relocations_at l s (8 * slot)) r
    (and_right _ _ (and_left _ _ (rules.slots s slot there inside))) has

pub is_row : (l : Link) (row : Initializer) → InitializersKeepRules l → Contains (initializer_rows l) row → IsRow l row
unfolding initializer_rows initializer_rows_in
is_row l row rules has =
    let of = flat_map_contains (initializer_rows_in l) (initializer_sections l) row has in
    let s : SectionId = of.0 in
    let at = flat_map_contains (λ slot. map (initializer_row l s) (relocations_at l s (8 * slot)))
    (range_with_len 0 ((header_at l s).size / 8)) row of.2 in
    let slot : ℕ = at.0 in
    let made = map_contains (initializer_row l s) (relocations_at l s (8 * slot)) row at.2 in
    let r : ℕ = made.0 in
    let low : slot < (header_at l s).size / 8 = range_contains ((header_at l s).size / 8) slot at.1 in
    let among = filter_contains (λ q. (relocation_in l s q).r_address == 8 * slot) (relocations_of l s) r made.1 in
    subst (IsRow l) made.2 (record {
      section = of.1;
      low = range_contains (header_at l s).nreloc r among.0;
      relocation = refl;
      fits = slot_fits l s slot r rules of.1 (omega (arith, low)) made.1;
    })

-- its symbol leads where its relocation does
pub row_leads : (l : Link) (p : Placed) (look : Look) (row : Initializer) → ObjectsAreRead l → Tells l p look → IsRow l row
    → target_in look row ≡ target_of_initializer l row
unfolding target_of
row_leads l p look row read tells is =
    let s : SectionId = section_of_initializer row in
    let plain = and_left _ _ (and_left _ _ is.fits) in
    let extern = and_right _ _ (and_left _ _ is.fits) in
    let low = symbol_low l s row.number read (initializer_section l s is.section) is.low extern in
    ap (λ q. look.target row.file q.r_symbolnum) (sym is.relocation)
    ∙ tells.targets row.file (relocation_in l s row.number).r_symbolnum low ∙ sym (pointer_leads l s row.number plain extern)

-- into a carried section
pub row_section : (l : Link) (row : Initializer) → IsRow l row → is_section_target (target_of_initializer l row) ≡ true
row_section l row is = and_right _ _ is.fits

pub section_defined : (t : Target) → is_section_target t ≡ true → is_defined t ≡ true
section_defined (target.Section file section offset) e = refl
section_defined (target.Common id) e = cc
section_defined (target.Import id) e = cc
section_defined target.Base e = cc
section_defined (target.Absolute value) e = cc
section_defined target.None e = cc

pub row_of_link : (l : Link) (row : Initializer) → ObjectsAreRead l → IsRow l row → IsOfLink l (target_of_initializer l row)
row_of_link l row read is =
    let s : SectionId = section_of_initializer row in
    let plain = and_left _ _ (and_left _ _ is.fits) in
    relocation_of_link l s row.number read (initializer_section l s is.section) is.low (no_addend (relocation_in l s row.number) plain)
    (section_defined (target_of_initializer l row) (row_section l row is))
