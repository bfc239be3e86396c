-- A field that holds its value denotes its target and addend, at every slide.
--
-- A field says a number, and the value written makes place plus number the target's address: so an instruction at the
-- place reaches the target. When the image slides, place and target move by the same s, and the number stays. Modulo
-- 2 ^ 64 that is a sum on both sides. A page moves by s too, where s is whole pages; an offset in a page does not move.
-- So each law is arithmetic on the number that the word decodes to; the rest of the word is the input's by `Holds`.
use Rattle.std.proofs.Common.{◌≡◌, ℕ, ◌+◌, ◌*◌, ◌-◌, ◌%◌, ◌^◌, ◌<◌, ◌==◌, nat_lt, if◌then◌else◌, true, false, arith, ◌∙◌, refl}
use Rattle.std.proofs.lemmas.Bool.Decides.{nat_tests}
use Rattle.macho_bytes.specs.Numbers.{signed, page, low, bits, PAGE}
use Rattle.macho_model.specs.Words.{imm12, is_add, is_ldr, scale_of, without_imm12}
use Rattle.macho_model.specs.Meaning.{Same, address, PointsTo, IsDifference, BranchesTo, PagesTo, OffsetsTo, AddsTo, LoadsFrom, IsDistance}
use Rattle.macho_arm64.specs.declared.kinds.FieldSize.TheVariants.{Bytes, Adr, JumpCall, Low12}
use Rattle.macho_arm64.specs.Fields.{fits_word, can_hold, Holds}
use Rattle.macho_arm64.specs.Relaxations.{IsMadeAdd}
use Rattle.macho_model.specs.Segments.{SEGMENT_PAGE}

-- a number of 64 bits is itself
pub signed_64 : (x : ℕ) → signed 64 x ≡ x
signed_64 x = elim (nat_lt x (2 ^ 63)) as (λ b. (if b then x else x + (2 ^ 64 - 2 ^ 64)) ≡ x) [ true ↦ refl | false ↦ omega arith ]

-- a pointer
pub points_to : (input word value x : ℕ) → Holds (Bytes 8) input word value → Same value x → PointsTo word x
points_to input word value x h row = omega (arith, h.says, signed_64 word)

-- an offset from a start that slides too, as a pointer in a thread-local descriptor holds
pub offsets_from : (input word value start target addend s : ℕ) → Holds (Bytes 8) input word value
    → Same (value + start) (target + addend) → Same (word + (start + s)) (target + s + addend)
offsets_from input word value start target addend s h row = omega (arith, h.says, signed_64 word)

-- a difference, of 4 or 8 bytes
pub is_difference : (width input word value subtrahend target addend s : ℕ) → Holds (Bytes width) input word value
    → Same (value + subtrahend) (target + addend) → IsDifference width word (target + s) (subtrahend + s) addend
is_difference width input word value subtrahend target addend s h row = omega (arith, h.says)

-- a branch
pub branches_to : (input word value place x s y : ℕ) → Holds JumpCall input word value → Same (value + place) x
    → Same (x + s) y → BranchesTo (place + s) word input y
branches_to input word value place x s y h row moved = record { reaches = omega (arith, h.says); kept = h.kept }

-- the page of an ADRP
pub pages_to : (input word value place x s y : ℕ) → Holds Adr input word value → Same (value + page (address place)) (page (address x))
    → s % SEGMENT_PAGE ≡ 0 → Same (x + s) y → PagesTo (place + s) word input y
pages_to input word value place x s y h row whole moved = record { reaches = omega (arith, h.says); kept = h.kept }

-- the offset of an ADD, a load or a store
pub offsets_to : (input word value x s y : ℕ) → Holds Low12 input word value → value ≡ low (address x)
    → s % SEGMENT_PAGE ≡ 0 → Same (x + s) y → OffsetsTo word input y
offsets_to input word value x s y h row whole moved = record { reaches = h.says ∙ omega arith; kept = h.kept }

-- a distance of 4 bytes
pub is_distance : (input word value place slot s : ℕ) → Holds (Bytes 4) input word value → Same (value + place) slot
    → IsDistance (place + s) word (slot + s)
is_distance input word value place slot s h row = omega (arith, h.says)

-- what is outside an immediate of 12 bits tells the operation, and so the scale, and both registers
same_operation : (a b : ℕ) → without_imm12 a ≡ without_imm12 b → bits 22 10 a ≡ bits 22 10 b
same_operation a b same = omega arith

same_registers : (a b : ℕ) → without_imm12 a ≡ without_imm12 b → bits 0 10 a ≡ bits 0 10 b
same_registers a b same = omega arith

-- a test for a number tells it
pub operation : (w n : ℕ) → (bits 22 10 w == n) ≡ true → bits 22 10 w ≡ n
operation w n is = grind (arith, nat_tests)

pub scale_of-add : (w : ℕ) → is_add w ≡ true → scale_of w ≡ 1
scale_of-add w is = rw is refl

pub scale_of-ldr : (w : ℕ) → is_ldr w ≡ true → scale_of w ≡ 8
scale_of-ldr w is =
    let op : bits 22 10 w ≡ 0b1111100101 = operation w 0b1111100101 is in
    let size : bits 30 2 w ≡ 3 = omega arith in
    rw (op, size) refl

-- the load of a slot
pub loads_from : (input word value slot s y : ℕ) → Holds Low12 input word value → is_ldr input ≡ true → value ≡ low (address slot)
    → s % SEGMENT_PAGE ≡ 0 → Same (slot + s) y → LoadsFrom word input y
loads_from input word value slot s y h load row whole moved =
    let still : is_ldr word ≡ true = rw (same_operation word input h.kept) load in
    let says : imm12 word * 8 ≡ value = rw (← scale_of-ldr word still) h.says in
    record { load = still; reaches = omega arith; kept = h.kept }

-- the load of a slot that was made an ADD, and then given the target's offset
pub adds_to : (input add word value x s y : ℕ) → is_ldr input ≡ true → IsMadeAdd input add → Holds Low12 add word value
    → value ≡ low (address x)
    → s % SEGMENT_PAGE ≡ 0 → Same (x + s) y → AddsTo word input y
adds_to input add word value x s y load made h row whole moved =
    let still : is_add word ≡ true = rw (same_operation word add h.kept) made.add in
    let says : imm12 word * 1 ≡ value = rw (← scale_of-add word still) h.says in
    let registers : bits 0 10 word ≡ bits 0 10 add = same_registers word add h.kept in
    record { load = load; add = still; base = omega arith; written = omega arith; reaches = omega arith }

pub add_can_hold : (input word value : ℕ) → IsMadeAdd input word → value < PAGE → can_hold Low12 word value ≡ true
add_can_hold input word value made small = rw (scale_of-add word made.add) (grind (arith, nat_tests))

-- a 64-bit load takes the offset of any slot, since a slot stands at a multiple of 8
pub slot_load_fits : (word : ℕ) → is_ldr word ≡ true → fits_word Low12 word ≡ true
slot_load_fits word load = rw (operation word 0b1111100101 load) refl

pub slot_load_can_hold : (word slot : ℕ) → is_ldr word ≡ true → slot % 8 ≡ 0 → can_hold Low12 word (low (address slot)) ≡ true
slot_load_can_hold word slot load aligned = rw (scale_of-ldr word load) (grind (arith, nat_tests))
