-- A number of the segments that no chain word covers is the one that memory holds.
--
-- Each of its bytes is a byte of the segments in no chain word. At any slide and for any choice such a byte is held at its address and the
-- slide, so the whole text is, and the number with it. The other way, what memory holds at slide 0 where no chain word has a byte can only
-- be a byte of the segments; so a text that is held there is the segments' text.
use Rattle.std.proofs.Common.{◌≡◌, ℕ, ◌+◌, ◌<◌, List, arith, subst, inl, inr}
use Rattle.std.specs.Prelude.{slice_index}
use Rattle.macho_model.specs.HeldLaws.{IsFree}
use Rattle.macho_model.specs.Memory.{Choice, Covers, Holds, HoldsNumber, IsSegmentByte}
use Rattle.macho_model.proofs.ChainMemory.{unfixed_byte_is_held}
use Rattle.macho_verify_laws.specs.InFile.{IsSegmentNumber}

-- THE number of the segments is held at every slide, for every choice.
pub number_held : (b : List ℕ) (w a n : ℕ) → IsFree b a w → IsSegmentNumber b w a n → (s : ℕ) (choice : Choice)
    → HoldsNumber b s choice w (a + s) n
number_held b w a n free number s choice =
    record {
      text = number.text;
      long = number.long;
      held = λ k lt. let small : k < w = omega (arith, lt, number.long) in
          subst (λ x. Holds b s choice x (slice_index number.text k)) (omega arith)
          (unfixed_byte_is_held b s choice (a + k) (slice_index number.text k) (free k small) (number.bytes k small));
      is = number.is;
    }

-- a byte that is held at slide 0 in no chain word is a byte of the segments
segment_byte : (b : List ℕ) (choice : Choice) (a k v : ℕ) → ((word_at : ℕ) → Covers b word_at (a + k) → ⊥)
    → Holds b 0 choice (a + 0 + k) v → IsSegmentByte b (a + k) v
segment_byte b choice a k v none held =
    let same : held.a ≡ a + k = omega (arith, held.slid) in
    elim held.byte [
      | inl c ↦ absurd (none c.word_at (subst (λ x. Covers b c.word_at x) same c.covers))
      | inr other ↦ subst (λ x. IsSegmentByte b x v) same other.1
    ]

-- THE number that is held at slide 0 is the segments'.
pub number_stands : (b : List ℕ) (choice : Choice) (w a n : ℕ) → IsFree b a w → HoldsNumber b 0 choice w (a + 0) n
    → IsSegmentNumber b w a n
number_stands b choice w a n free held =
    record {
      text = held.text;
      long = held.long;
      bytes = λ k lt. segment_byte b choice a k (slice_index held.text k) (free k lt) (held.held k (omega (arith, lt, held.long)));
      is = held.is;
    }
