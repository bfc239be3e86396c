-- What a text put at a place leaves.
--
-- `put at text bytes` is three pieces: the bytes below `at`, the text, and the bytes from its end on. So a byte of
-- it is known by where its place lies, and two lists are equal where they agree at each place. Every lemma here
-- goes that way: three cases for a place, and arithmetic. With them two puts next to each other are one put of
-- both texts, what was put stands, and a part that shares no byte with the text stands as before.
use Rattle.std.proofs.Common.{◌≡◌, ℕ, ◌+◌, ◌-◌, ◌<◌, ◌≤◌, List, [], ◌++◌, length, get_or, take, drop, slice_range, refl, sym, ap, ◌∙◌, arith, inl, inr}
use Rattle.std.proofs.lemmas.Bool.{cases_lt}
use Rattle.std.proofs.lemmas.List.{ext_get_or, get_or-take, get_or-drop, get_or_append_left, get_or-append_right, length-take, length-drop, length-append, append-nil}
use Rattle.std.proofs.lemmas.List.Edits.{length-between, get_or-between}
use Rattle.macho_bytes.specs.Texts.{put, Part, end_of, Stands, Apart}
use Rattle.std.proofs.Math.Seq.{drop-length}

-- a put keeps the length
pub length-put : (at : ℕ) (text bytes : List ℕ) → at + length text ≤ length bytes → length (put at text bytes) ≡ length bytes
unfolding put
length-put at text bytes fits =
    omega (
      arith,
      length-append (take at bytes) (text ++ drop (at + length text) bytes),
      length-append text (drop (at + length text) bytes),
      length-take at bytes,
      length-drop (at + length text) bytes,
    )

-- a byte of the text
pub get_or-put_in : (at : ℕ) (text bytes : List ℕ) (i : ℕ) → at + length text ≤ length bytes → at ≤ i → i < at + length text
    → get_or (put at text bytes) i 0 ≡ get_or text (i - at) 0
unfolding put
get_or-put_in at text bytes i fits from to =
    let front : length (take at bytes) ≡ at = omega (arith, length-take at bytes) in
    get_or-append_right (take at bytes) (text ++ drop (at + length text) bytes) at i 0 front from
    ∙ get_or_append_left text (drop (at + length text) bytes) 0 (i - at) (omega arith)

-- a byte below the text
pub get_or-put_below : (at : ℕ) (text bytes : List ℕ) (i : ℕ) → at + length text ≤ length bytes → i < at
    → get_or (put at text bytes) i 0 ≡ get_or bytes i 0
unfolding put
get_or-put_below at text bytes i fits below =
    get_or_append_left (take at bytes) (text ++ drop (at + length text) bytes) 0 i (omega (arith, length-take at bytes))
    ∙ get_or-take at bytes i 0 below

-- a byte above the text
pub get_or-put_above : (at : ℕ) (text bytes : List ℕ) (i : ℕ) → at + length text ≤ length bytes → at + length text ≤ i
    → get_or (put at text bytes) i 0 ≡ get_or bytes i 0
unfolding put
get_or-put_above at text bytes i fits above =
    let front : length (take at bytes) ≡ at = omega (arith, length-take at bytes) in
    get_or-append_right (take at bytes) (text ++ drop (at + length text) bytes) at i 0 front (omega arith)
    ∙ get_or-append_right text (drop (at + length text) bytes) (length text) (i - at) 0 refl (omega arith)
    ∙ get_or-drop (at + length text) bytes (i - at - length text) 0
    ∙ ap (λ (k : ℕ). get_or bytes k 0) (omega arith)

-- a list of the same length is the put where each of its bytes is the text's, or what stood there
pub is_put : (at : ℕ) (text bytes now : List ℕ) → at + length text ≤ length bytes → length now ≡ length bytes
    → ((i : ℕ) → at ≤ i → i < at + length text → get_or now i 0 ≡ get_or text (i - at) 0)
    → ((i : ℕ) → i < at → get_or now i 0 ≡ get_or bytes i 0)
    → ((i : ℕ) → at + length text ≤ i → get_or now i 0 ≡ get_or bytes i 0)
    → now ≡ put at text bytes
is_put at text bytes now fits long inside below above =
    ext_get_or 0 now (put at text bytes) (long ∙ sym (length-put at text bytes fits)) each
  where
    each : (i : ℕ) → i < length now → get_or now i 0 ≡ get_or (put at text bytes) i 0
    each i h =
        elim (cases_lt i at) [
          | inl lt ↦ below i lt ∙ sym (get_or-put_below at text bytes i fits lt)
          | inr le ↦
              elim (cases_lt i (at + length text)) [
                | inl lt ↦ inside i le lt ∙ sym (get_or-put_in at text bytes i fits le lt)
                | inr past ↦ above i past ∙ sym (get_or-put_above at text bytes i fits past)
              ]
        ]

-- two puts, the second where the first ends, are one
pub put-put : (a b : ℕ) (x y bytes : List ℕ) → b ≡ a + length x → b + length y ≤ length bytes
    → put b y (put a x bytes) ≡ put a (x ++ y) bytes
put-put a b x y bytes next fits =
    is_put a (x ++ y) bytes (put b y (put a x bytes)) (omega (arith, long))
    (omega (arith, length-put b y (put a x bytes), first)) inside below above
  where
    long : length (x ++ y) ≡ length x + length y
    long = length-append x y

    first : length (put a x bytes) ≡ length bytes
    first = length-put a x bytes (omega arith)

    below : (i : ℕ) → i < a → get_or (put b y (put a x bytes)) i 0 ≡ get_or bytes i 0
    below i h = get_or-put_below b y (put a x bytes) i (omega (arith, first)) (omega arith) ∙ get_or-put_below a x bytes i (omega arith) h

    above : (i : ℕ) → a + length (x ++ y) ≤ i → get_or (put b y (put a x bytes)) i 0 ≡ get_or bytes i 0
    above i h = get_or-put_above b y (put a x bytes) i (omega (arith, first)) (omega (arith, long))
        ∙ get_or-put_above a x bytes i (omega arith) (omega (arith, long))

    inside : (i : ℕ) → a ≤ i → i < a + length (x ++ y) → get_or (put b y (put a x bytes)) i 0 ≡ get_or (x ++ y) (i - a) 0
    inside i from to =
        elim (cases_lt i b) [
          | inl lt ↦
              get_or-put_below b y (put a x bytes) i (omega (arith, first)) lt
              ∙ get_or-put_in a x bytes i (omega arith) from (omega arith)
              ∙ sym (get_or_append_left x y 0 (i - a) (omega arith))
          | inr le ↦
              get_or-put_in b y (put a x bytes) i (omega (arith, first)) le (omega (arith, long))
              ∙ ap (λ (k : ℕ). get_or y k 0) (omega arith)
              ∙ sym (get_or-append_right x y (length x) (i - a) 0 refl (omega arith))
        ]

-- a put of nothing
pub put_nothing : (at : ℕ) (bytes : List ℕ) → at ≤ length bytes → put at [] bytes ≡ bytes
put_nothing at bytes fits =
    sym (is_put at [] bytes bytes (omega arith) refl (λ i from to. absurd (omega arith)) (λ i below. refl) (λ i above. refl))

-- the bytes of a part
pub get_or-part : (bytes : List ℕ) (p : Part) → Stands bytes p → (i : ℕ) → i < length p.text → get_or p.text i 0 ≡ get_or bytes (p.at + i) 0
get_or-part bytes p s i h =
    ap (λ (t : List ℕ). get_or t i 0) (sym s.same) ∙ get_or-between bytes p.at (end_of p) i 0 (omega arith)

-- a part stands where each of its bytes does
pub stands_by_bytes : (bytes : List ℕ) (p : Part) → end_of p ≤ length bytes
    → ((i : ℕ) → i < length p.text → get_or bytes (p.at + i) 0 ≡ get_or p.text i 0) → Stands bytes p
stands_by_bytes bytes p within each =
    record { within = within; same = ext_get_or 0 (slice_range bytes p.at (end_of p)) p.text long same }
  where
    long : length (slice_range bytes p.at (end_of p)) ≡ length p.text
    long = omega (arith, length-between bytes p.at (end_of p))

    same : (i : ℕ) → i < length (slice_range bytes p.at (end_of p)) → get_or (slice_range bytes p.at (end_of p)) i 0 ≡ get_or p.text i 0
    same i h = get_or-between bytes p.at (end_of p) i 0 (omega (arith, long)) ∙ each i (omega (arith, long))

-- what was put stands
pub put_stands : (at : ℕ) (text bytes : List ℕ) → at + length text ≤ length bytes
    → Stands (put at text bytes) (record { at = at; text = text })
put_stands at text bytes fits =
    stands_by_bytes (put at text bytes) (record { at = at; text = text }) (omega (arith, length-put at text bytes fits))
    (λ i h. get_or-put_in at text bytes (at + i) fits (omega arith) (omega arith) ∙ ap (λ (k : ℕ). get_or text k 0) (omega arith))

-- a write leaves every part that shares no byte with it
pub stands_beside : (at : ℕ) (text bytes : List ℕ) (p : Part) → at + length text ≤ length bytes → Stands bytes p
    → Apart p (record { at = at; text = text }) → Stands (put at text bytes) p
stands_beside at text bytes p fits s apart =
    stands_by_bytes (put at text bytes) p (omega (arith, length-put at text bytes fits, s.within))
    (λ i h. elim apart [
      | inl before ↦ get_or-put_below at text bytes (p.at + i) fits (omega arith) ∙ sym (get_or-part bytes p s i h)
      | inr after ↦ get_or-put_above at text bytes (p.at + i) fits (omega arith) ∙ sym (get_or-part bytes p s i h)
    ])

pub ruleset puts = (put-put, length-put, put_nothing)

-- a text put over a list of its length is all of it; and so it is what a `Vec` has whose bytes were written
pub put_all : (text bytes : List ℕ) → length text ≡ length bytes → put 0 text bytes ≡ text
unfolding put
put_all text bytes same =
    ap (λ (n : ℕ). text ++ drop n bytes) (omega (arith, same)) ∙ ap (λ (t : List ℕ). text ++ t) (drop-length bytes) ∙ append-nil text
