-- A row of numbers of a type, written number after number.
--
-- The numbers of a type have values, and the row is that of the values: so the steps of a row of plain numbers
-- (`macho_bytes`, `Writes`) are its steps, with the value of the element where the number stood. That each value fits the
-- width is kept beside it: the values so far fit, and so does the one that was just written.
use Rattle.std.proofs.Common.{◌≡◌, ℕ, zero, suc, ◌+◌, ◌*◌, ◌^◌, ◌<◌, ◌≤◌, List, [], ◌∷◌, length, map, take, slice_index, sym, ap, subst, ◌∙◌, arith}
use Rattle.std.specs.Prelude.{get_or}
use Rattle.std.proofs.lemmas.List.{get_or-map, length-map, take_all}
use Rattle.macho_bytes.specs.Numbers.{ByteOrder, row_bytes, AllBelow}
use Rattle.macho_bytes.specs.Texts.{put}
use Rattle.macho_bytes.proofs.Numbers.{IsSound}
use Rattle.macho_bytes.proofs.Writes.{row_begins, row_goes_on, row_ends}

-- one number more that fits
all_below_more : (w i : ℕ) (ns : List ℕ) → AllBelow w (take i ns) → slice_index ns i < 256 ^ w → AllBelow w (take (suc i) ns)
all_below_more w zero [] so_far fits = tt
all_below_more w zero (n ∷ ns) so_far fits = (fits, tt)
all_below_more w (suc i) [] so_far fits = tt
all_below_more w (suc i) (n ∷ ns) so_far fits = (so_far.0, all_below_more w i ns so_far.1 fits)

-- nothing is written yet
pub values_begin : (order : ByteOrder) (w at : ℕ) (out : List ℕ) → at ≤ length out
    → (at ≡ at + w * 0) × (out ≡ put at (row_bytes order w []) out) × Unit {0}
values_begin order w at out fits = (omega arith, row_begins order w at out fits, tt)

-- one number more
pub values_go_on : {X : Type 0} (value : X → ℕ) (order : ByteOrder) → IsSound order
    → (w width at place i : ℕ) (xs : List X) (x : X) (before out now : List ℕ)
    → width ≡ w → i < length xs → at + w * length xs ≤ length before → x ≡ get_or xs i x
    → (place ≡ at + w * i) × (out ≡ put at (row_bytes order w (take i (map value xs))) before) × AllBelow w (take i (map value xs))
    → now ≡ put place (order.bytes_of w (value x)) out → value x < 256 ^ w
    → (place + width ≡ at + w * (i + 1)) × (now ≡ put at (row_bytes order w (take (i + 1) (map value xs))) before)
    × AllBelow w (take (i + 1) (map value xs))
values_go_on value order sound w width at place i xs x before out now wide lt fits is so_far written small =
    let ns = map value xs in
    let long : length ns ≡ length xs = length-map xs value in
    let here : slice_index ns i ≡ value x = get_or-map value xs i x 0 lt ∙ ap value (sym is) in
    let room : at + w * length ns ≤ length before = subst (λ (k : ℕ). at + w * k ≤ length before) (sym long) fits in
    let step = row_goes_on order sound w at place i ns before out now (omega (arith, long)) room so_far.0 so_far.1
    (written ∙ ap (λ (n : ℕ). put place (order.bytes_of w n) out) (sym here)) in
    let next : suc i ≡ i + 1 = omega arith in
    let more : AllBelow w (take (suc i) ns) = all_below_more w i ns so_far.2 (subst (λ (n : ℕ). n < 256 ^ w) (sym here) small) in (
      ap (λ (k : ℕ). place + k) wide ∙ step.0,
      step.1,
      subst (λ (k : ℕ). AllBelow w (take k ns)) next more,
    )

-- all are written
pub values_end : {X : Type 0} (value : X → ℕ) (order : ByteOrder) (w at i : ℕ) (xs : List X) (before out : List ℕ) → length xs ≤ i
    → out ≡ put at (row_bytes order w (take i (map value xs))) before → out ≡ put at (row_bytes order w (map value xs)) before
values_end value order w at i xs before out past so_far =
    row_ends order w at i (map value xs) before out (omega (arith, length-map xs value)) so_far

pub values_fit : {X : Type 0} (value : X → ℕ) (w i : ℕ) (xs : List X) → length xs ≤ i → AllBelow w (take i (map value xs))
    → AllBelow w (map value xs)
values_fit value w i xs past below =
    subst (AllBelow w) (take_all i (map value xs) (omega (arith, length-map xs value))) below
