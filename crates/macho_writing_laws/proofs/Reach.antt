-- What reaches, of numbers near each other.
--
-- Two addresses at most 2 ^ 26 apart, with an addend below 2 ^ 23 in size, are less than 2 ^ 27 apart modulo 2 ^ 64, on one side or the
-- other; so are their pages, but for a page. So they are in the reach of branches and pages and of 32 bits. A multiple of a power of two
-- stays one when a multiple of it is added or cut off.
use Rattle.std.proofs.Common.{◌≡◌, ℕ, zero, suc, ◌+◌, ◌-◌, ◌%◌, ◌^◌, ◌<◌, ◌≤◌, ◌⊎◌, ◌==◌, ◌&&◌, nat_lt, nat_le, if◌then◌else◌, Bool, true, false, sym, ap, ◌∙◌, arith, inl, inr}
use Rattle.std.proofs.lemmas.Bool.{cases_lt, or_cases, or_left, or_right, and_from, ltb-true, lt-ltb, le-leb, eq-eqb}
use Rattle.std.proofs.Math.Pow.{mod-mod-pow, pow-lt}
use Rattle.std.proofs.Math.Nat.{zero-mod}
use Rattle.macho_bytes.specs.Numbers.{bits, page, low}
use Rattle.macho_model.specs.Words.{is_add, scale_of}
use Rattle.macho_model.specs.Valid.{is_small}
use Rattle.macho_model.specs.Values.{fits_signed, less, branch_reaches, page_reaches, offset_fits}
use Rattle.macho_model.proofs.Sections.{less_below}

-- a small addend
pub small_cases : (a : ℕ) → is_small a ≡ true → (a < 2 ^ 23) ⊎ (2 ^ 64 - 2 ^ 23 < a)
small_cases a h = elim (or_cases (nat_lt a (2 ^ 23)) (nat_lt (2 ^ 64 - 2 ^ 23) a) h) [
  | inl low_one ↦ inl (ltb-true a (2 ^ 23) low_one)
  | inr high_one ↦ inr (ltb-true (2 ^ 64 - 2 ^ 23) a high_one)
]

-- a number modulo 2 ^ 64 that is less than 2 ^ 27 in size
abbrev pub IsClose : ℕ → Type 0
IsClose d = (d < 2 ^ 27) ⊎ (2 ^ 64 - 2 ^ 27 ≤ d)

-- addresses near one base, with an addend
pub record AreClose (base x y a : ℕ) : Type 0 where
  pub low_base : base ≤ 2 ^ 32
  pub x_low : base ≤ x
  pub x_high : x ≤ base + 2 ^ 26
  pub y_low : base ≤ y
  pub y_high : y ≤ base + 2 ^ 26
  pub addend : (a < 2 ^ 23) ⊎ ((2 ^ 64 - 2 ^ 23 < a) × (a < 2 ^ 64))

-- the sum, modulo 2 ^ 64
sum_close : (base x y a : ℕ) → AreClose base x y a
    → ((x + a) % 2 ^ 64 + 2 ^ 25 ≤ y + 2 ^ 25 + 2 ^ 26 + 2 ^ 23) × (y ≤ (x + a) % 2 ^ 64 + 2 ^ 26 + 2 ^ 23)
    ⊎ (2 ^ 64 - 2 ^ 23 ≤ (x + a) % 2 ^ 64) × (y ≤ 2 ^ 26 + 2 ^ 23) × ((x + a) % 2 ^ 64 < 2 ^ 64)
sum_close base x y a h = elim h.addend [
  | inl small ↦ inl (
    omega (arith, small, h.low_base, h.x_low, h.x_high, h.y_low, h.y_high),
    omega
        (arith, small, h.low_base, h.x_low, h.x_high, h.y_low, h.y_high),
  )
  | inr (big, fits) ↦ elim (cases_lt (x + a) (2 ^ 64)) [
    | inl below ↦ inr (omega (arith, big, below), omega (arith, big, below, h.x_low, h.y_high), omega arith)
    | inr above ↦ inl (
      omega (arith, big, fits, above, h.low_base, h.x_low, h.x_high, h.y_low, h.y_high),
      omega
          (arith, big, fits, above, h.low_base, h.x_low, h.x_high, h.y_low, h.y_high),
    )
  ]
]

pub sum_less : (base x y a : ℕ) → AreClose base x y a → IsClose (less (x + a) y)
sum_less base x y a h = elim (sum_close base x y a h) [
  | inl near ↦ elim (cases_lt ((x + a) % 2 ^ 64) y) [
    | inl behind ↦ inr (omega (arith, near.0, near.1, behind, h.low_base, h.y_high))
    | inr ahead ↦ inl (omega (arith, near.0, near.1, ahead, h.low_base, h.y_high))
  ]
  | inr wrapped ↦ inr (omega (arith, wrapped.0, wrapped.1, wrapped.2))
]

-- of pages
abbrev IsNearPage : ℕ → Type 0
IsNearPage d = (d < 2 ^ 28) ⊎ (2 ^ 64 - 2 ^ 28 ≤ d)

pub page_less : (base x y a : ℕ) → AreClose base x y a → IsNearPage (less (page ((x + a) % 2 ^ 64)) (page y))
page_less base x y a h = elim (sum_close base x y a h) [
  | inl near ↦ elim (cases_lt (page ((x + a) % 2 ^ 64)) (page y)) [
    | inl behind ↦ inr (omega (arith, near.0, near.1, behind, h.low_base, h.y_high))
    | inr ahead ↦ inl (omega (arith, near.0, near.1, ahead, h.low_base, h.y_high))
  ]
  | inr wrapped ↦ inr (omega (arith, wrapped.0, wrapped.1, wrapped.2))
]

-- so they reach
fits_32 : (d : ℕ) → d < 2 ^ 64 → IsClose d → fits_signed 32 d ≡ true
fits_32 d fits (inl near) = or_left (nat_lt (d % 2 ^ 64) (2 ^ 31)) (nat_le (2 ^ 64 - 2 ^ 31) (d % 2 ^ 64))
    (lt-ltb (d % 2 ^ 64) (2 ^ 31) (omega (arith, near)))
fits_32 d fits (inr near) =
    or_right (nat_lt (d % 2 ^ 64) (2 ^ 31)) (nat_le (2 ^ 64 - 2 ^ 31) (d % 2 ^ 64))
    (le-leb (2 ^ 64 - 2 ^ 31) (d % 2 ^ 64) (omega (arith, near, fits)))

fits_28 : (d : ℕ) → d < 2 ^ 64 → IsClose d → fits_signed 28 d ≡ true
fits_28 d fits (inl near) = or_left (nat_lt (d % 2 ^ 64) (2 ^ 27)) (nat_le (2 ^ 64 - 2 ^ 27) (d % 2 ^ 64))
    (lt-ltb (d % 2 ^ 64) (2 ^ 27) (omega (arith, near)))
fits_28 d fits (inr near) =
    or_right (nat_lt (d % 2 ^ 64) (2 ^ 27)) (nat_le (2 ^ 64 - 2 ^ 27) (d % 2 ^ 64))
    (le-leb (2 ^ 64 - 2 ^ 27) (d % 2 ^ 64) (omega (arith, near, fits)))

fits_33 : (d : ℕ) → d < 2 ^ 64 → IsNearPage d → fits_signed 33 d ≡ true
fits_33 d fits (inl near) = or_left (nat_lt (d % 2 ^ 64) (2 ^ 32)) (nat_le (2 ^ 64 - 2 ^ 32) (d % 2 ^ 64))
    (lt-ltb (d % 2 ^ 64) (2 ^ 32) (omega (arith, near)))
fits_33 d fits (inr near) =
    or_right (nat_lt (d % 2 ^ 64) (2 ^ 32)) (nat_le (2 ^ 64 - 2 ^ 32) (d % 2 ^ 64))
    (le-leb (2 ^ 64 - 2 ^ 32) (d % 2 ^ 64) (omega (arith, near, fits)))

pub distance_fits : (base x y a : ℕ) → AreClose base x y a → fits_signed 32 (less (x + a) y) ≡ true
distance_fits base x y a h = fits_32 (less (x + a) y) (less_below (x + a) y) (sum_less base x y a h)

pub page_fits : (base x y a : ℕ) → AreClose base x y a → page_reaches y (x + a) ≡ true
page_fits base x y a h = fits_33 (less (page ((x + a) % 2 ^ 64)) (page y)) (less_below (page ((x + a) % 2 ^ 64)) (page y))
    (page_less base x y a h)

pub branch_fits : (base x y a : ℕ) → AreClose base x y a → (x + a) % 4 ≡ 0 → y % 4 ≡ 0 → branch_reaches y (x + a) ≡ true
branch_fits base x y a h four place =
    and_from (fits_signed 28 (less (x + a) y)) (less (x + a) y % 4 == 0)
    (fits_28 (less (x + a) y) (less_below (x + a) y) (sum_less base x y a h))
    (eq-eqb (less (x + a) y % 4) 0 (omega (arith, four, place)))

-- a multiple of a greater power of two is one of a smaller
pub cut_power : (n e j : ℕ) → n % 2 ^ e ≡ 0 → 2 ^ j ≤ 2 ^ e → n % 2 ^ j ≡ 0
cut_power n e j multiple less_power =
    elim (cases_lt e j) [
      | inl small ↦ absurd (omega (arith, pow-lt small, less_power))
      | inr le ↦
          let sum : e - j + j ≡ e = omega (arith, le) in
          sym (mod-mod-pow n (e - j) j) ∙ ap (λ (k : ℕ). n % 2 ^ k % 2 ^ j) sum ∙ ap (λ (m : ℕ). m % 2 ^ j) multiple ∙ zero_mod j
    ]
  where
    zero_mod : (k : ℕ) → 0 % 2 ^ k ≡ 0
    zero_mod k = zero-mod (2 ^ k)

-- the scales of offsets: five powers of two
pub data IsScale : ℕ → Type 0 where
  power : (j : ℕ) → j ≤ 4 → IsScale (2 ^ j)

pub is_scale : (w : ℕ) → IsScale (scale_of w)
is_scale w = by (is_add w) ((bits 30 2 w == 0) && (bits 26 1 w == 1) && (bits 23 1 w == 1))
  where
    by : (a b : Bool) → IsScale (if a then 1 else if b then 16 else 2 ^ bits 30 2 w)
    by true b = power 0 (omega arith)
    by false true = power 4 (omega arith)
    by false false = power (bits 30 2 w) (omega arith)

-- the low bits of a multiple are one
low_multiple : (v j : ℕ) → j ≤ 4 → v % 2 ^ j ≡ 0 → low (v % 2 ^ 64) % 2 ^ j ≡ 0
low_multiple v zero le multiple = omega arith
low_multiple v (suc zero) le multiple = omega (arith, multiple)
low_multiple v (suc (suc zero)) le multiple = omega (arith, multiple)
low_multiple v (suc (suc (suc zero))) le multiple = omega (arith, multiple)
low_multiple v (suc (suc (suc (suc zero)))) le multiple = omega (arith, multiple)
low_multiple v (suc (suc (suc (suc (suc j))))) le multiple = absurd (omega (arith, le))

pub offset_is_fit : (v w j : ℕ) → j ≤ 4 → 2 ^ j ≡ scale_of w → v % 2 ^ j ≡ 0 → offset_fits w v ≡ true
offset_is_fit v w j le is multiple =
    eq-eqb (low (v % 2 ^ 64) % scale_of w) 0 (ap (λ (m : ℕ). low (v % 2 ^ 64) % m) (sym is) ∙ low_multiple v j le multiple)
