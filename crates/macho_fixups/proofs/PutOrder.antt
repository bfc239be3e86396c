-- Two puts that share no byte, in either order.
--
-- A byte of the later text is there whichever put comes last, and so is one of the earlier text; every other byte is
-- that of the list. So both orders agree at each place.
use Rattle.std.proofs.Common.{◌≡◌, ℕ, ◌+◌, ◌-◌, ◌<◌, ◌≤◌, List, ◌++◌, length, get_or, arith, sym, ◌∙◌, inl, inr}
use Rattle.std.proofs.lemmas.Bool.{cases_lt}
use Rattle.macho_bytes.specs.Texts.{put}
use Rattle.macho_bytes.proofs.Puts.{is_put, put-put, length-put, get_or-put_in, get_or-put_below, get_or-put_above}

pub put_swap : (a b : ℕ) (x y bytes : List ℕ) → a + length x ≤ b → b + length y ≤ length bytes
    → put a x (put b y bytes) ≡ put b y (put a x bytes)
put_swap a b x y bytes apart fits =
    is_put b y (put a x bytes) (put a x (put b y bytes)) (omega (arith, first))
    (omega (arith, second, first, length-put a x (put b y bytes) (omega (arith, second)))) inside below above
  where
    first : length (put a x bytes) ≡ length bytes
    first = length-put a x bytes (omega arith)

    second : length (put b y bytes) ≡ length bytes
    second = length-put b y bytes fits

    inside : (i : ℕ) → b ≤ i → i < b + length y → get_or (put a x (put b y bytes)) i 0 ≡ get_or y (i - b) 0
    inside i from to = get_or-put_above a x (put b y bytes) i (omega (arith, second)) (omega arith) ∙ get_or-put_in b y bytes i fits from to

    below : (i : ℕ) → i < b → get_or (put a x (put b y bytes)) i 0 ≡ get_or (put a x bytes) i 0
    below i lt = elim (cases_lt i a) [
      | inl front ↦
          get_or-put_below a x (put b y bytes) i (omega (arith, second)) front ∙ get_or-put_below b y bytes i fits lt
          ∙ sym (get_or-put_below a x bytes i (omega arith) front)
      | inr from ↦ elim (cases_lt i (a + length x)) [
        | inl to ↦
            get_or-put_in a x (put b y bytes) i (omega (arith, second)) from to ∙ sym (get_or-put_in a x bytes i (omega arith) from to)
        | inr past ↦
            get_or-put_above a x (put b y bytes) i (omega (arith, second)) past ∙ get_or-put_below b y bytes i fits lt
            ∙ sym (get_or-put_above a x bytes i (omega arith) past)
      ]
    ]

    above : (i : ℕ) → b + length y ≤ i → get_or (put a x (put b y bytes)) i 0 ≡ get_or (put a x bytes) i 0
    above i past =
        get_or-put_above a x (put b y bytes) i (omega (arith, second)) (omega arith) ∙ get_or-put_above b y bytes i fits past
        ∙ sym (get_or-put_above a x bytes i (omega arith) (omega arith))

-- a text put in front of another one that is there makes one put of both
pub put_in_front : (a b : ℕ) (x y bytes : List ℕ) → b ≡ a + length x → b + length y ≤ length bytes
    → put a x (put b y bytes) ≡ put a (x ++ y) bytes
put_in_front a b x y bytes next fits = put_swap a b x y bytes (omega arith) fits ∙ put-put a b x y bytes next fits
