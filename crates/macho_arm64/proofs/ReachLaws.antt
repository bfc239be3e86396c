-- A field can hold its row's value exactly where the definitions say that it reaches its target.
--
-- The values are differences of addresses modulo 2 ^ 64. That of two pages is whole pages, since 2 ^ 64 is; an offset in
-- a page is below a page. What is left of each test is the one that the definition of a reach has.
use Rattle.std.proofs.Common.{◌≡◌, ℕ, ◌+◌, ◌%◌, ◌^◌, ◌<◌, ◌≤◌, ◌==◌, nat_lt, ◌&&◌, ◌||◌, Bool, true, false, arith, sym, refl}
use Rattle.std.proofs.lemmas.Bool.Decides.{nat_tests}
use Rattle.macho_bytes.specs.Numbers.{bits, page, low, PAGE}
use Rattle.macho_model.specs.Words.{is_add, is_ldr, is_load_store, scale_of}
use Rattle.macho_model.specs.Supported.{takes_offset}
use Rattle.macho_model.specs.Meaning.{Same, address}
use Rattle.macho_model.specs.Values.{less, fits_signed, branch_reaches, page_reaches, offset_fits}
use Rattle.macho_arm64.specs.declared.kinds.FieldSize.TheVariants.{Bytes, Adr, JumpCall, Low12}
use Rattle.macho_arm64.specs.Fields.{fits_word, can_hold}

-- what a difference is for: it leads from the one to the other
pub less_leads : (x place : ℕ) → Same (less x place + place) x
less_leads x place = omega arith

and_zero : (b : Bool) (n : ℕ) → n ≡ 0 → (b && (n == 0)) ≡ b
and_zero true n is = rw is refl
and_zero false n is = refl

and_below : (b : Bool) (n : ℕ) → n < PAGE → (nat_lt n PAGE && b) ≡ b
and_below b n below = let test : nat_lt n PAGE ≡ true = grind (arith, nat_tests) in rw test refl

pub out_of_33 : (n : ℕ) → 2 ^ 32 ≤ n → n + 2 ^ 32 < 2 ^ 64 → fits_signed 33 n ≡ false
out_of_33 n low high = grind (arith, nat_tests)

-- a branch
pub branch_can_hold : (word place x : ℕ) → can_hold JumpCall word (less x place) ≡ branch_reaches place x
branch_can_hold word place x = refl

-- the page of an ADRP
pub page_can_hold : (word place x : ℕ) → can_hold Adr word (less (page (address x)) (page place)) ≡ page_reaches place x
page_can_hold word place x =
    let whole : less (page (address x)) (page place) % PAGE ≡ 0 = omega arith in
    and_zero (fits_signed 33 (less (page (address x)) (page place))) (less (page (address x)) (page place) % PAGE) whole

-- an offset in a page
pub offset_can_hold : (word x : ℕ) → can_hold Low12 word (low (address x)) ≡ offset_fits word x
offset_can_hold word x = and_below (low (address x) % scale_of word == 0) (low (address x)) (omega arith)

-- a difference or a distance of 4 bytes
pub distance_can_hold : (word x y : ℕ) → can_hold (Bytes 4) word (less x y) ≡ fits_signed 32 (less x y)
distance_can_hold word x y = refl

-- a slot that is too far from its stub, where no address comes near 2 ^ 64
pub stub_too_far : (place slot : ℕ) → page place + 2 ^ 32 ≤ slot → slot + 2 ^ 32 < 2 ^ 64 → page_reaches place slot ≡ false
stub_too_far place slot far high = out_of_33 (less (page (address slot)) (page place)) (omega arith) (omega arith)

-- a 64-bit load is a load, so the words with an offset are an ADD, a load or a store
ldr_is_load : (w : ℕ) → is_ldr w ≡ true → is_load_store w ≡ true
ldr_is_load w is =
    let op : bits 22 10 w ≡ 0b1111100101 = grind (arith, nat_tests) in
    let size : bits 27 3 w ≡ 0b111 = omega arith in
    let mode : bits 24 2 w ≡ 0b01 = omega arith in
    rw (size, mode) refl

or_absorbs : (a b c : Bool) → (b ≡ true → c ≡ true) → ((a || b) || c) ≡ (a || c)
or_absorbs true b c then = refl
or_absorbs false true c then = sym (then refl)
or_absorbs false false c then = refl

pub offset_words : (w : ℕ) → fits_word Low12 w ≡ takes_offset w
offset_words w = or_absorbs (is_add w) (is_ldr w) (is_load_store w) (ldr_is_load w)
