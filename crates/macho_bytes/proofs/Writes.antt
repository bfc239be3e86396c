-- What a write through a part of a slice leaves, as a put.
--
-- A write of a text to the front of `&mut out[at..]` leaves the bytes below `at`, the text, and what stood behind
-- the text: that is the put. A loop that writes number after number keeps 'the numbers so far are put': the next
-- number stands where they end, and two puts next to each other are one.
use Rattle.std.proofs.Common.{◌≡◌, ℕ, suc, ◌^◌, ◌+◌, ◌*◌, ◌-◌, ◌<◌, ◌≤◌, List, [], ◌∷◌, ◌++◌, length, take, drop, slice_index, refl, sym, ap, ◌∙◌, arith}
use borrow.Rule.Slice.PartMut.{put_mid, mid_of}
use Rattle.std.proofs.lemmas.List.{drop_all, drop-drop, append-nil, take_more, length-drop, length-take, take_all}
use Rattle.std.proofs.Math.Nat.{mul-add, mul-le-mul_left, mod-eq_of_lt}
use Rattle.macho_bytes.specs.Numbers.{ByteOrder, little, big, le_bytes, be_bytes, row_bytes, AllBelow}
use Rattle.macho_bytes.specs.Texts.{put}
use Rattle.macho_bytes.proofs.Puts.{put-put, put_nothing}
use Rattle.macho_bytes.proofs.Numbers.{IsSound, length-row_bytes, row_bytes-more}

-- a text written to the front of `&mut out[at..]`
pub put_mid-front : (at k : ℕ) (out text now : List ℕ) → k ≡ length out - at → at + length text ≤ length out
    → now ≡ text ++ drop (length text) (mid_of at k out) → put_mid at k out now ≡ put at text out
unfolding put
put_mid-front at k out text now whole fits is =
    let rest : mid_of at k out ≡ drop at out = ap (λ (m : ℕ). take m (drop at out)) (whole ∙ sym (length-drop at out))
    ∙ take_all (length (drop at out)) (drop at out) (omega arith) in
    let behind : drop (length text) (mid_of at k out) ≡ drop (at + length text) out = ap (drop (length text)) rest
    ∙ drop-drop (length text) at out in
    let none : drop k (drop at out) ≡ [] = drop_all k (drop at out) (omega (arith, length-drop at out)) in
    let tail : now ++ drop k (drop at out) ≡ text ++ drop (at + length text) out =
    ap (λ (t : List ℕ). now ++ t) none ∙ append-nil now ∙ is ∙ ap (λ (t : List ℕ). text ++ t) behind in
    ap (λ (t : List ℕ). take at out ++ t) tail

-- a text written to the whole of `&mut out[at..end]`
pub put_mid-whole : (at k : ℕ) (out text now : List ℕ) → k ≡ length text → at + length text ≤ length out → now ≡ text
    → put_mid at k out now ≡ put at text out
unfolding put
put_mid-whole at k out text now whole fits is =
    let behind : drop k (drop at out) ≡ drop (at + length text) out = drop-drop k at out ∙ ap (λ (m : ℕ). drop m out) (omega arith) in
    ap (λ (t : List ℕ). take at out ++ t) (ap (λ (t : List ℕ). t ++ drop k (drop at out)) is ∙ ap (λ (t : List ℕ). text ++ t) behind)

-- the loop over a row: no number yet
pub row_begins : (order : ByteOrder) (w at : ℕ) (out : List ℕ) → at ≤ length out → out ≡ put at (row_bytes order w []) out
unfolding row_bytes
row_begins order w at out fits = sym (put_nothing at out fits)

-- one number more
pub row_goes_on : (order : ByteOrder) → IsSound order → (w at place i : ℕ) (ns before out now : List ℕ) → i < length ns
    → at + w * length ns ≤ length before
    → place ≡ at + w * i → out ≡ put at (row_bytes order w (take i ns)) before → now ≡ put place (order.bytes_of w (slice_index ns i)) out
    → (place + w ≡ at + w * (i + 1)) × (now ≡ put at (row_bytes order w (take (i + 1) ns)) before)
row_goes_on order sound w at place i ns before out now lt fits here so_far is =
    let step : w * (i + 1) ≡ w * i + w = mul-add w i 1 ∙ omega arith in
    let room : w * (i + 1) ≤ w * length ns = mul-le-mul_left w (omega arith) in
    let long : length (take i ns) ≡ i = omega (arith, length-take i ns) in
    let row : length (row_bytes order w (take i ns)) ≡ w * i = length-row_bytes order sound w (take i ns) ∙ ap (λ (k : ℕ). w * k) long in
    let both = put-put at place (row_bytes order w (take i ns)) (order.bytes_of w (slice_index ns i)) before (omega arith)
    (omega (arith, sound.long w (slice_index ns i))) in
    let more : row_bytes order w (take (i + 1) ns) ≡ row_bytes order w (take i ns) ++ order.bytes_of w (slice_index ns i) =
    ap (row_bytes order w) (take_more ns i 0 lt) ∙ row_bytes-more order w (take i ns) (slice_index ns i) in (
      omega arith,
      is ∙ ap (put place (order.bytes_of w (slice_index ns i))) so_far ∙ both ∙ ap (λ (t : List ℕ). put at t before) (sym more),
    )

-- the whole row
pub row_ends : (order : ByteOrder) (w at i : ℕ) (ns before out : List ℕ) → length ns ≤ i
    → out ≡ put at (row_bytes order w (take i ns)) before → out ≡ put at (row_bytes order w ns) before
row_ends order w at i ns before out past so_far = so_far ∙ ap (λ (t : List ℕ). put at (row_bytes order w t) before) (take_all i ns past)
