-- What a word says at a place it says at every slide, if the slide moves place and target alike.
--
-- A branch, a distance and a difference compare a place or a target with another: adding the slide to both sides of an
-- equation modulo 2 ^ 64 keeps it. A page compares pages of 4 KiB: a slide of whole pages moves the page of an address by
-- just the slide, and leaves the offset in it alone.
use Rattle.std.proofs.Common.{◌≡◌, ℕ, ◌+◌, ◌*◌, ◌%◌, ◌^◌, refl, sym, ap, ◌∙◌, arith}
use Rattle.macho_records.specs.Numbers.{signed, page, low}
use Rattle.macho_model.specs.Words.{imm21, imm26}
use Rattle.macho_model.specs.Meaning.{Same, address, IsDifference, BranchesTo, PagesTo, OffsetsTo, AddsTo, LoadsFrom, IsDistance, GoesThrough}

-- both sides of an equation modulo 2 ^ 64 move alike
pub same_slides : (x y s : ℕ) → Same x y → Same (x + s) (y + s)
same_slides x y s h = omega (arith, h)

pub same_slides_as : (x y m n s : ℕ) → m ≡ x + s → n ≡ y + s → Same x y → Same m n
same_slides_as x y m n s mx ny h = omega (arith, h, mx, ny)

pub branch_slides : (place word input x s : ℕ) → BranchesTo place word input x → BranchesTo (place + s) word input (x + s)
branch_slides place word input x s h =
    record {
      reaches = same_slides_as (place + 4 * signed 26 (imm26 word)) x (place + s + 4 * signed 26 (imm26 word)) (x + s) s
          (omega arith) refl h.reaches;
      kept = h.kept;
    }

pub difference_slides : (width word x y addend s : ℕ) → IsDifference width word x y addend → IsDifference width word (x + s) (y + s) addend
difference_slides width word x y addend s h =
    same_slides_as (signed (8 * width) word + y) (x + addend) (signed (8 * width) word + (y + s)) (x + s + addend) s (omega arith)
    (omega arith) h

pub distance_slides : (place word slot s : ℕ) → IsDistance place word slot → IsDistance (place + s) word (slot + s)
distance_slides place word slot s h =
    same_slides_as (place + signed 32 word) slot (place + s + signed 32 word) (slot + s) s (omega arith) refl h

-- the offset in a page does not move with whole pages, and the page moves by them
pub low_slides : (x s : ℕ) → s % 4096 ≡ 0 → low (address (x + s)) ≡ low (address x)
low_slides x s whole = omega (arith, whole)

pub page_slides : (x s : ℕ) → s % 4096 ≡ 0 → Same (page (address (x + s))) (page (address x) + s)
page_slides x s whole = omega (arith, whole)

-- a page: place and target move by whole pages
pages_reach : (place x imm s : ℕ) → s % 4096 ≡ 0 → Same (page (address place) + imm) (page (address x))
    → Same (page (address (place + s)) + imm) (page (address (x + s)))
pages_reach place x imm s whole h =
    let here = page_slides place s whole in
    let there = page_slides x s whole in
    let moved : Same (page (address place) + imm + s) (page (address x) + s) = same_slides (page (address place) + imm)
    (page (address x)) s h in
    let left : Same (page (address (place + s)) + imm) (page (address place) + s + imm) = added (page (address (place + s)))
    (page (address place) + s) imm here in
    let order : page (address place) + s + imm ≡ page (address place) + imm + s = omega arith in
    left ∙ ap (λ (n : ℕ). n % 2 ^ 64) order ∙ moved ∙ sym there
  where
    added : (m n k : ℕ) → Same m n → Same (m + k) (n + k)
    added m n k h = same_slides m n k h

pub page_of_slides : (place word input x s : ℕ) → s % 4096 ≡ 0 → PagesTo place word input x → PagesTo (place + s) word input (x + s)
page_of_slides place word input x s whole h =
    record { reaches = pages_reach place x (4096 * signed 21 (imm21 word)) s whole h.reaches; kept = h.kept }

-- offsets, and loads of slots or of addresses, do not move
pub offset_slides : (word input x s : ℕ) → s % 4096 ≡ 0 → OffsetsTo word input x → OffsetsTo word input (x + s)
offset_slides word input x s whole h = record { reaches = h.reaches ∙ sym (low_slides x s whole); kept = h.kept }

pub adds_slides : (word input x s : ℕ) → s % 4096 ≡ 0 → AddsTo word input x → AddsTo word input (x + s)
adds_slides word input x s whole h =
    record { load = h.load; add = h.add; base = h.base; written = h.written; reaches = h.reaches ∙ sym (low_slides x s whole) }

pub loads_slides : (word input slot s : ℕ) → s % 4096 ≡ 0 → LoadsFrom word input slot → LoadsFrom word input (slot + s)
loads_slides word input slot s whole h = record { load = h.load; reaches = h.reaches ∙ sym (low_slides slot s whole); kept = h.kept }
