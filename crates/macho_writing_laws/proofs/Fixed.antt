-- No word of the loader is refused, of a placed valid link.
--
-- A pointer stands at a multiple of 8 in its section, and the section at one, so its word is whole in its page. Its target plus its addend
-- lies in the target or at its end, so near the base and above it: no bit is left over. The same of a slot.
use Rattle.std.proofs.Common.{◌≡◌, ℕ, ◌+◌, ◌%◌, ◌^◌, ◌<◌, ◌≤◌, ◌⊎◌, ◌==◌, nat_le, true, false, sym, ap, ◌∙◌, arith, inl, inr}
use Rattle.std.specs.Prelude.{Contains}
use Rattle.std.proofs.lemmas.Bool.{and_parts, eqb-true, leb-true, true≢false}
use Rattle.std.proofs.lemmas.List.Elements.{All-contains}
use Rattle.std.specs.FinMap.{empty}
use Rattle.macho_records.specs.Symbols.{common_size_of}
use Rattle.macho_model.specs.declared.placed.Counts.{Counts}
use Rattle.macho_model.specs.declared.targets.Site.{Site}
use Rattle.macho_model.specs.declared.targets.Site.TheVariants as site
use Rattle.macho_model.specs.declared.targets.Target.{Target}
use Rattle.macho_model.specs.declared.targets.Target.TheVariants as target
use Rattle.macho_model.specs.Links.{Link, SectionId, section_id, header_at, placed_exponent, carried_of}
use Rattle.macho_model.specs.Resolution.{entry_at}
use Rattle.macho_model.specs.Targets.{is_import, slots_of}
use Rattle.macho_model.specs.Fields.{Field, fields_of}
use Rattle.macho_model.specs.Placement.{Placed, id_of, common_of}
use Rattle.macho_model.specs.Memory.{Choice}
use Rattle.macho_model.specs.Stands.{SectionAt, IsAt}
use Rattle.macho_model.specs.Values.{needs_fixup, IsNotEncodable, BadRebase}
use Rattle.macho_model.specs.Valid.{stays_inside}
use Rattle.macho_image_laws.specs.Leads.{HasPlace, TargetsLead}
use Rattle.macho_model.proofs.FixedPointers.{pointer_keeps}
use Rattle.macho_model.proofs.Unrefused.{valid_relocations}
use Rattle.macho_image_laws.proofs.Sounding.{valid_is_sound}
use Rattle.macho_image_laws.proofs.Leading.{link_leads}
use Rattle.macho_writing_laws.proofs.Ranges.{IsValidPlaced, IsNear, section_near, common_near}
use Rattle.macho_writing_laws.proofs.Near.{same_id, base_low, target_near, section_multiple}

pub leads_of : (l : Link) (counts : Counts) (p : Placed) → IsValidPlaced l counts p → TargetsLead l
leads_of l counts p h = link_leads l h.objects (valid_relocations l counts h.valid) (valid_is_sound l counts h.valid).1

-- a field that stands at a multiple does so in memory
pub field_multiple : (l : Link) (counts : Counts) (p : Placed) (s : SectionId) (f : Field) (address j : ℕ) → IsValidPlaced l counts p
    → SectionAt p s.file s.section address → nat_le (2 ^ j) (2 ^ placed_exponent l s) ≡ true → address % 2 ^ j ≡ 0
field_multiple l counts p s f address j h (q, one, file_is, section_is, at) power =
    ap (λ (n : ℕ). n % 2 ^ j) (sym at)
    ∙ section_multiple l counts p q j h one
    (ap (λ (t : SectionId). nat_le (2 ^ j) (2 ^ placed_exponent l t)) (same_id q s.file s.section file_is section_is) ∙ power)

pub no_bad_place : (l : Link) (counts : Counts) (p : Placed) (s : SectionId) (f : Field) (address : ℕ) → IsValidPlaced l counts p
    → Contains (carried_of l) s → Contains (fields_of l s) f → needs_fixup l s f ≡ true → SectionAt p s.file s.section address
    → (0x4000 < (address + f.offset) % 0x4000 + 8) ⊎ (1 ≤ (address + f.offset) % 4) → ⊥
no_bad_place l counts p s f address h one field needs at bad =
    let keeps = pointer_keeps l s f h.valid.fields one field needs in
    let both = and_parts (nat_le 8 (2 ^ placed_exponent l s)) (f.offset % 8 == 0) keeps.1 in
    let section = field_multiple l counts p s f address 3 h at both.0 in
    let offset = eqb-true (f.offset % 8) 0 both.1 in
    elim bad [ inl crosses ↦ omega (arith, crosses, section, offset) | inr odd ↦ omega (arith, odd, section, offset) ]

-- a value near the base has a word
encodable : (p : Placed) (v : ℕ) → IsNear p v → IsNotEncodable p v → ⊥
encodable p v near (inl low) = omega (arith, near.0, low)
encodable p v near (inr high) = omega (arith, near.0, near.1, high)

-- a target plus an addend that stays inside is near the base
inside_near : (l : Link) (counts : Counts) (p : Placed) (c : Choice) (t : Target) (x addend : ℕ) → IsValidPlaced l counts p → HasPlace l t
    → is_import t ≡ false
    → stays_inside l t addend ≡ true → IsAt l p 0 c t x → IsNear p ((x + addend) % 2 ^ 64)
inside_near l counts p c (target.Section file section offset) x addend h has moves stays (address, (q, one, file_is, section_is, at), is) =
    let near = section_near l counts p q h one in
    let size : (header_at l (id_of q)).size ≡ (header_at l (section_id file section)).size = ap (λ (s : SectionId). (header_at l s).size)
    (same_id q file section file_is section_is) in
    let inside = leb-true ((offset + addend) % 2 ^ 64) (header_at l (section_id file section)).size stays in
    let low = base_low l counts p h in
    let bound : p.base ≤ 2 ^ 32 = elim low [ inl z ↦ omega (arith, z) | inr z ↦ omega (arith, z) ] in
    let sum : (x + addend) % 2 ^ 64 ≡ q.address + (offset + addend) % 2 ^ 64 = omega (arith, is, at, near.1, size, inside, bound) in
    (omega (arith, sum, near.0), omega (arith, sum, near.1, size, inside))
inside_near l counts p c (target.Common id) x addend h has moves stays (d, one, id_is, is) =
    let near = common_near l counts p d h one in
    let size : common_size_of (entry_at l (common_of l d.id)) ≡ common_size_of (entry_at l (common_of l id)) =
    ap (λ (n : ℕ). common_size_of (entry_at l (common_of l n))) id_is in
    let inside = leb-true addend (common_size_of (entry_at l (common_of l id))) stays in
    let low = base_low l counts p h in
    let bound : p.base ≤ 2 ^ 32 = elim low [ inl z ↦ omega (arith, z) | inr z ↦ omega (arith, z) ] in
    let sum : (x + addend) % 2 ^ 64 ≡ d.address + addend = omega (arith, is, near.1, size, inside, bound) in
    (omega (arith, sum, near.0), omega (arith, sum, near.1, size, inside))
inside_near l counts p c (target.Import id) x addend h has moves stays at = absurd (true≢false moves)
inside_near l counts p c target.Base x addend h has moves stays at =
    let zero_addend = eqb-true addend 0 stays in
    let low = base_low l counts p h in
    let bound : p.base ≤ 2 ^ 32 = elim low [ inl z ↦ omega (arith, z) | inr z ↦ omega (arith, z) ] in
    let sum : (x + addend) % 2 ^ 64 ≡ p.base = omega (arith, at, zero_addend, bound) in
    (omega (arith, sum), omega (arith, sum))
inside_near l counts p c (target.Absolute value) x addend h has moves stays at = absurd has
inside_near l counts p c target.None x addend h has moves stays at = absurd has

-- THE rebases
pub no_bad_rebase : (l : Link) (counts : Counts) (p : Placed) (at : Site) → IsValidPlaced l counts p → BadRebase l p at → ⊥
no_bad_rebase l counts p (site.Field file section relocation) h (f, x, (one, field, is), needs, moves, at, bad) =
    let keeps = pointer_keeps l (section_id file section) f h.valid.fields one field needs in
    let has = (leads_of l counts p h).pointers (section_id file section) f one field needs in
    encodable p ((x + f.addend) % 2 ^ 64) (inside_near l counts p empty f.target x f.addend h has moves keeps.2 at) bad
no_bad_rebase l counts p (site.Slot index) h (t, x, number, moves, at, bad) =
    let has = All-contains (HasPlace l) (slots_of l) t (leads_of l counts p h).slots (index, number.0, number.1) in
    encodable p x (target_near l counts p empty t x h has moves at) bad
no_bad_rebase l counts p (site.Stub index) h bad = bad
