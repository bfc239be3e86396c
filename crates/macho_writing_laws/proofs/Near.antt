-- Where targets are, in a placed valid link: near the base, at multiples of what they are aligned to.
--
-- A target that moves is an address of a section up to its end, the start of a common, or the base. A call goes to a stub or to the target,
-- a load to a slot or to the target.
use Rattle.std.proofs.Common.{◌≡◌, ℕ, zero, suc, ◌+◌, ◌%◌, ◌^◌, ◌≤◌, ◌⊎◌, ◌==◌, nat_le, if◌then◌else◌, Bool, true, false, refl, sym, ap, ◌∙◌, arith, inl, inr}
use Rattle.std.specs.Prelude.{Contains}
use Rattle.std.proofs.lemmas.Bool.{cases_Bool, and_parts, eqb-true, leb-true, true≢false}
use Rattle.std.proofs.lemmas.List.Elements.{All-contains}
use Rattle.macho_records.specs.Symbols.{common_exponent_of}
use Rattle.macho_model.specs.declared.placed.Counts.{Counts}
use Rattle.macho_model.specs.declared.placed.PlacedSection.{PlacedSection}
use Rattle.macho_model.specs.declared.placed.PlacedCommon.{PlacedCommon}
use Rattle.macho_model.specs.declared.targets.Target.{Target}
use Rattle.macho_model.specs.declared.targets.Target.TheVariants as target
use Rattle.macho_model.specs.Links.{Link, SectionId, section_id, header_at, placed_exponent}
use Rattle.macho_model.specs.Resolution.{entry_at}
use Rattle.macho_model.specs.Targets.{is_defined, is_import}
use Rattle.macho_model.specs.Placement.{Placed, id_of, common_of}
use Rattle.macho_model.specs.Memory.{Choice}
use Rattle.macho_model.specs.Stands.{IsAt, SlotAt, CallIsAt, LoadIsAt}
use Rattle.macho_model.specs.Valid.{is_multiple}
use Rattle.macho_image_laws.specs.Leads.{HasPlace}
use Rattle.macho_writing_laws.proofs.Ranges.{IsValidPlaced, IsNear, section_near, common_near, slot_near, stub_near}
use Rattle.macho_writing_laws.proofs.Reach.{cut_power}
use Rattle.macho_model.proofs.Parts.{aligned_of}

-- a placed section by its numbers
pub same_id : (q : PlacedSection) (file section : ℕ) → q.file ≡ file → q.section ≡ section → id_of q ≡ section_id file section
same_id q file section a b = ap (λ (n : ℕ). section_id n q.section) a ∙ ap (section_id file) b

-- the base is 0 or 2 ^ 32
pub base_low : (l : Link) (counts : Counts) (p : Placed) → IsValidPlaced l counts p → (p.base ≡ 0) ⊎ (p.base ≡ 2 ^ 32)
base_low l counts p h = elim (cases_Bool l.executable) [
  | inl runs ↦ inr (h.placed.base ∙ ap (λ (b : Bool). if b then 0x100000000 else 0) runs)
  | inr lib ↦ inl (h.placed.base ∙ ap (λ (b : Bool). if b then 0x100000000 else 0) lib)
]

-- THE targets are near
pub target_near : (l : Link) (counts : Counts) (p : Placed) (c : Choice) (t : Target) (x : ℕ) → IsValidPlaced l counts p → HasPlace l t
    → is_import t ≡ false
    → IsAt l p 0 c t x → IsNear p x
target_near l counts p c (target.Section file section offset) x h has moves (address, (q, one, file_is, section_is, at), is) =
    let near = section_near l counts p q h one in
    let size : (header_at l (id_of q)).size ≡ (header_at l (section_id file section)).size = ap (λ (s : SectionId). (header_at l s).size)
    (same_id q file section file_is section_is) in
    (omega (arith, near.0, is, at), omega (arith, near.1, is, at, size, has.1))
target_near l counts p c (target.Common id) x h has moves (d, one, id_is, is) =
    let near = common_near l counts p d h one in (omega (arith, near.0, is), omega (arith, near.1, is))
target_near l counts p c (target.Import id) x h has moves at = absurd (true≢false moves)
target_near l counts p c target.Base x h has moves at = (omega (arith, at), omega (arith, at))
target_near l counts p c (target.Absolute value) x h has moves at = absurd has
target_near l counts p c target.None x h has moves at = absurd has

-- calls, loads and slots
pub call_near : (l : Link) (counts : Counts) (p : Placed) (c : Choice) (t : Target) (x : ℕ) → IsValidPlaced l counts p → HasPlace l t
    → CallIsAt l p 0 c t x → IsNear p x
call_near l counts p c (target.Import id) x h has (stub, one, id_is, is) =
    let near = stub_near l counts p stub h one in (omega (arith, near.0, is), omega (arith, near.1, is))
call_near l counts p c (target.Section file section offset) x h has at = target_near l counts p c
    (target.Section file section offset) x h has refl at
call_near l counts p c (target.Common id) x h has at = target_near l counts p c (target.Common id) x h has refl at
call_near l counts p c target.Base x h has at = target_near l counts p c target.Base x h has refl at
call_near l counts p c (target.Absolute value) x h has at = absurd has
call_near l counts p c target.None x h has at = absurd has

pub slot_at_near : (l : Link) (counts : Counts) (p : Placed) (t : Target) (x : ℕ) → IsValidPlaced l counts p → SlotAt p 0 t x → IsNear p x
slot_at_near l counts p t x h (slot, one, target_is, is) =
    let near = slot_near l counts p slot h one in (omega (arith, near.0, is), omega (arith, near.1, is))

pub load_near : (l : Link) (counts : Counts) (p : Placed) (c : Choice) (t : Target) (x : ℕ) → IsValidPlaced l counts p → HasPlace l t
    → LoadIsAt l p 0 c t x → IsNear p x
load_near l counts p c (target.Import id) x h has at = slot_at_near l counts p (target.Import id) x h at
load_near l counts p c (target.Section file section offset) x h has at = target_near l counts p c
    (target.Section file section offset) x h has refl at
load_near l counts p c (target.Common id) x h has at = target_near l counts p c (target.Common id) x h has refl at
load_near l counts p c target.Base x h has at = target_near l counts p c target.Base x h has refl at
load_near l counts p c (target.Absolute value) x h has at = absurd has
load_near l counts p c target.None x h has at = absurd has

-- sums of multiples of one of five powers of two
pub add_multiple : (a b j : ℕ) → j ≤ 4 → a % 2 ^ j ≡ 0 → b % 2 ^ j ≡ 0 → (a + b) % 2 ^ j ≡ 0
add_multiple a b zero le first second = omega arith
add_multiple a b (suc zero) le first second = omega (arith, first, second)
add_multiple a b (suc (suc zero)) le first second = omega (arith, first, second)
add_multiple a b (suc (suc (suc zero))) le first second = omega (arith, first, second)
add_multiple a b (suc (suc (suc (suc zero)))) le first second = omega (arith, first, second)
add_multiple a b (suc (suc (suc (suc (suc j))))) le first second = absurd (omega (arith, le))

base_multiple : (b j : ℕ) → j ≤ 4 → (b ≡ 0) ⊎ (b ≡ 2 ^ 32) → b % 2 ^ j ≡ 0
base_multiple b zero le is = omega arith
base_multiple b (suc zero) le is = elim is [ inl z ↦ omega (arith, z) | inr z ↦ omega (arith, z) ]
base_multiple b (suc (suc zero)) le is = elim is [ inl z ↦ omega (arith, z) | inr z ↦ omega (arith, z) ]
base_multiple b (suc (suc (suc zero))) le is = elim is [ inl z ↦ omega (arith, z) | inr z ↦ omega (arith, z) ]
base_multiple b (suc (suc (suc (suc zero)))) le is = elim is [ inl z ↦ omega (arith, z) | inr z ↦ omega (arith, z) ]
base_multiple b (suc (suc (suc (suc (suc j))))) le is = absurd (omega (arith, le))

-- a placed section stands at a multiple
pub section_multiple : (l : Link) (counts : Counts) (p : Placed) (q : PlacedSection) (j : ℕ) → IsValidPlaced l counts p
    → Contains p.sections q
    → nat_le (2 ^ j) (2 ^ placed_exponent l (id_of q)) ≡ true → q.address % 2 ^ j ≡ 0
section_multiple l counts p q j h one power =
    cut_power q.address (placed_exponent l (id_of q)) j
    (All-contains (λ (r : PlacedSection). r.address % 2 ^ placed_exponent l (id_of r) ≡ 0) p.sections q (aligned_of h.placed).sections one)
    (leb-true (2 ^ j) (2 ^ placed_exponent l (id_of q)) power)

-- THE target plus an addend is a multiple
pub target_multiple : (l : Link) (counts : Counts) (p : Placed) (c : Choice) (t : Target) (x addend j : ℕ) → IsValidPlaced l counts p
    → is_defined t ≡ true → j ≤ 4
    → is_multiple l (2 ^ j) t addend ≡ true → IsAt l p 0 c t x → (x + addend) % 2 ^ j ≡ 0
target_multiple l counts p c (target.Section file section offset) x addend j h moves le test
    (address, (q, one, file_is, section_is, at), is) =
    let both = and_parts (nat_le (2 ^ j) (2 ^ placed_exponent l (section_id file section))) ((offset + addend) % 2 ^ j == 0) test in
    let power : nat_le (2 ^ j) (2 ^ placed_exponent l (id_of q)) ≡ true =
    ap (λ (s : SectionId). nat_le (2 ^ j) (2 ^ placed_exponent l s)) (same_id q file section file_is section_is) ∙ both.0 in
    let sum : q.address + (offset + addend) ≡ x + addend = omega (arith, is, at) in
    sym (ap (λ (n : ℕ). n % 2 ^ j) sum)
    ∙ add_multiple q.address (offset + addend) j le (section_multiple l counts p q j h one power)
    (eqb-true ((offset + addend) % 2 ^ j) 0 both.1)
target_multiple l counts p c (target.Common id) x addend j h moves le test (d, one, id_is, is) =
    let both = and_parts (nat_le (2 ^ j) (2 ^ common_exponent_of (entry_at l (common_of l id)))) (addend % 2 ^ j == 0) test in
    let power : nat_le (2 ^ j) (2 ^ common_exponent_of (entry_at l (common_of l d.id))) ≡ true =
    ap (λ (n : ℕ). nat_le (2 ^ j) (2 ^ common_exponent_of (entry_at l (common_of l n)))) id_is ∙ both.0 in
    let aligned = cut_power d.address (common_exponent_of (entry_at l (common_of l d.id))) j
    (All-contains
    (λ (e : PlacedCommon). e.address % 2 ^ common_exponent_of (entry_at l (common_of l e.id))
    ≡ 0) p.commons d (aligned_of h.placed).commons one)
    (leb-true (2 ^ j) (2 ^ common_exponent_of (entry_at l (common_of l d.id))) power) in
    let sum : d.address + addend ≡ x + addend = omega (arith, is) in
    sym (ap (λ (n : ℕ). n % 2 ^ j) sum) ∙ add_multiple d.address addend j le aligned (eqb-true (addend % 2 ^ j) 0 both.1)
target_multiple l counts p c (target.Import id) x addend j h moves le test at = absurd (true≢false (sym moves))
target_multiple l counts p c target.Base x addend j h moves le test at =
    let sum : p.base + addend ≡ x + addend = omega (arith, at) in
    sym (ap (λ (n : ℕ). n % 2 ^ j) sum) ∙ add_multiple p.base addend j le (base_multiple p.base j le (base_low l counts p h))
    (eqb-true (addend % 2 ^ j) 0 test)
target_multiple l counts p c (target.Absolute value) x addend j h moves le test at = absurd (true≢false (sym moves))
target_multiple l counts p c target.None x addend j h moves le test at = absurd (true≢false (sym moves))
