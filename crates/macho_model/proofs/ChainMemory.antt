-- What memory holds where chain words are, and where none is.
--
-- The word that the loader makes of a chain word stands in memory at the address of the word plus the slide, as far as
-- no chain word of a greater address begins: from there on that one's bytes are the ones. Outside all chain words a byte
-- of memory is a segment's, at every slide and for every choice alike; so memory there is what it is at slide 0, moved.
use Rattle.std.proofs.Common.{◌≡◌, ℕ, ◌+◌, ◌-◌, ◌^◌, ◌<◌, ◌≤◌, ◌⊎◌, List, [], length, take, slice_index, get_or, refl, sym, ap, subst, ◌∙◌, arith, inl, inr}
use Rattle.std.proofs.lemmas.List.{length-take, get_or-take}
use Rattle.byteorder.specs.Numbers.{length-bytes_low_first, little_number-reads_back}
use Rattle.macho_records.specs.Numbers.{le_at, le_bytes}
use Rattle.macho_model.specs.Chain.{OnChainOf}
use Rattle.macho_model.specs.Needs.{POINTER_SIZE}
use Rattle.macho_model.specs.Memory.{Choice, Covers, IsFixed, IsSegmentByte, Holds, HoldsText, HoldsNumber}

-- a byte of the word at the greatest address of those that cover it
pub fixed_byte_is_held : (b : List ℕ) (s : ℕ) (choice : Choice) (word_at value a : ℕ) → IsFixed b s choice word_at value → word_at ≤ a
    → a < word_at + POINTER_SIZE
    → ((other : ℕ) → Covers b other a → other ≤ word_at) → Holds b s choice (a + s)
    (slice_index (le_bytes POINTER_SIZE value) (a - word_at))
fixed_byte_is_held b s choice word_at value a fixed from to last =
    record {
      a = a;
      slid = refl;
      byte = inl (record { word_at = word_at; covers = (fixed.on, from, to); last = last; value = value; fixed = fixed; is = refl });
    }

-- the first n bytes of a word in which no greater one begins before
pub fixed_text_is_held : (b : List ℕ) (s : ℕ) (choice : Choice) (a value n : ℕ) → IsFixed b s choice a value → n ≤ POINTER_SIZE
    → ((other : ℕ) → OnChainOf b other → (other ≤ a) ⊎ (a + n ≤ other))
    → HoldsText b s choice (a + s) (take n (le_bytes POINTER_SIZE value))
unfolding le_bytes
fixed_text_is_held b s choice a value n fixed short apart k within =
    let long : length (take n (le_bytes POINTER_SIZE value)) ≡ n = omega (
      arith,
      length-take n
          (le_bytes POINTER_SIZE value),
      length-bytes_low_first 0 POINTER_SIZE value,
    ) in
    let below : k < n = omega (arith, long) in
    let here : a + s + k ≡ a + k + s = omega arith in
    let place : a + k - a ≡ k = omega arith in
    let byte : slice_index (take n (le_bytes POINTER_SIZE value)) k ≡ slice_index (le_bytes POINTER_SIZE value) (a + k - a) =
    get_or-take n (le_bytes POINTER_SIZE value) k 0 below ∙ ap (λ (j : ℕ). get_or (le_bytes POINTER_SIZE value) j 0) (sym place) in
    rw (here, byte)
    (fixed_byte_is_held b s choice a value (a + k) fixed (omega arith) (omega arith)
    (λ other covers. elim (apart other covers.0) [ inl le ↦ le | inr behind ↦ absurd (omega (arith, covers.1, covers.2)) ]))

-- THE whole word, where no other one begins inside it.
pub fixed_word_is_held : (b : List ℕ) (s : ℕ) (choice : Choice) (a value : ℕ) → IsFixed b s choice a value → value < 2 ^ 64
    → ((other : ℕ) → OnChainOf b other → (other ≤ a) ⊎ (a + POINTER_SIZE ≤ other)) → HoldsNumber b s choice POINTER_SIZE (a + s) value
unfolding le_at le_bytes
fixed_word_is_held b s choice a value fixed fits apart =
    record {
      text = take POINTER_SIZE (le_bytes POINTER_SIZE value);
      long = omega (arith, length-take POINTER_SIZE (le_bytes POINTER_SIZE value), length-bytes_low_first 0 POINTER_SIZE value);
      held = fixed_text_is_held b s choice a value POINTER_SIZE fixed (omega arith) apart;
      is = sym (little_number-reads_back POINTER_SIZE value [] (omega arith));
    }

-- a byte of a segment outside all chain words, at every slide and for every choice
pub unfixed_byte_is_held : (b : List ℕ) (s : ℕ) (choice : Choice) (a v : ℕ) → ((word_at : ℕ) → Covers b word_at a → ⊥) → IsSegmentByte b a v
    → Holds b s choice (a + s) v
unfixed_byte_is_held b s choice a v none byte = record { a = a; slid = refl; byte = inr (none, byte) }

-- THE memory at a slide is memory at slide 0, moved, outside chain words.
pub memory_moves : (b : List ℕ) (s : ℕ) (c d : Choice) (a v : ℕ) → ((word_at : ℕ) → Covers b word_at a → ⊥) → Holds b 0 c a v
    → Holds b s d (a + s) v
memory_moves b s c d a v none held =
    let here : held.a ≡ a = omega (arith, held.slid) in
    elim held.byte [
      | inl chained ↦ absurd (none chained.word_at (subst (λ x. Covers b chained.word_at x) here chained.covers))
      | inr plain ↦ unfixed_byte_is_held b s d a v none (subst (λ x. IsSegmentByte b x v) here plain.1)
    ]

-- and back: what memory holds there at a slide it holds at slide 0
pub memory_moves_back : (b : List ℕ) (s : ℕ) (c d : Choice) (a v : ℕ) → ((word_at : ℕ) → Covers b word_at a → ⊥) → Holds b s c (a + s) v
    → Holds b 0 d a v
memory_moves_back b s c d a v none held =
    let here : held.a ≡ a = omega (arith, held.slid) in
    elim held.byte [
      | inl chained ↦ absurd (none chained.word_at (subst (λ x. Covers b chained.word_at x) here chained.covers))
      | inr plain ↦ record { a = a; slid = omega arith; byte = inr (none, subst (λ x. IsSegmentByte b x v) here plain.1) }
    ]
