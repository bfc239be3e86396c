-- Where a word stands in the file, and that words stand apart.
--
-- Segments are in order and share no address, so the first segment whose file part does not end in front of an address
-- is the one that has it, if one has. Its place in the file is counted from the segment's. Two words in one segment
-- are as far apart in the file as in memory; in two segments their places lie in file parts that share no byte.
use Rattle.std.proofs.Common.{◌≡◌, ℕ, zero, suc, ◌+◌, ◌-◌, ◌<◌, ◌≤◌, ◌⊎◌, ◌&&◌, nat_le, nat_lt, Bool, true, false, List, [], ◌∷◌, length, get_or, arith, refl, sym, ap, subst, ◌∙◌, inl, inr}
use Rattle.std.specs.Prelude.{Contains}
use Rattle.std.proofs.lemmas.Bool.{cases_lt}
use Rattle.std.proofs.lemmas.Bool.Decides.{nat_tests}
use Rattle.std.proofs.lemmas.List.{get_or_default}
use Rattle.std.proofs.lemmas.List.Elements.{All-contains}
use Rattle.macho_model.specs.Needs.{POINTER_SIZE}
use Rattle.macho_fixups.specs.declared.run.FixupSegment.{FixupSegment}
use Rattle.macho_fixups.specs.Runs.{AreSegments, Holds, is_in}
use Rattle.macho_fixups.specs.Chains.{place_of}
use Rattle.macho_fixups.specs.steps.Chains.{IsSegmentOf, ArePassed}
use Rattle.macho_fixups.proofs.SegmentWrites.{no_segment}

-- a segment behind which an address stands doesn't have it
not_in : (s : FixupSegment) (a : ℕ) → s.address + s.file_size ≤ a → is_in s a ≡ false
not_in s a past =
    let high : nat_lt a (s.address + s.file_size) ≡ false = grind (arith, nat_tests) in and_false (nat_le s.address a) high
  where
    and_false : (b : Bool) → nat_lt a (s.address + s.file_size) ≡ false → (b && nat_lt a (s.address + s.file_size)) ≡ false
    and_false true h = h
    and_false false h = refl

is_there : (s : FixupSegment) (a : ℕ) → Holds s a → is_in s a ≡ true
is_there s a holds =
    let low : nat_le s.address a ≡ true = grind (arith, nat_tests, holds.0) in
    let high : nat_lt a (s.address + s.file_size) ≡ true = grind (arith, nat_tests, holds.1) in
    rw (low, high) refl

-- the place of an address, by the number of its segment
pub place_of-at : (segments : List FixupSegment) (a m : ℕ) (d : FixupSegment) → IsSegmentOf segments a m
    → place_of segments a ≡ (get_or segments m d).file_offset + (a - (get_or segments m d).address)
unfolding place_of
place_of-at [] a m d one = absurd (omega (arith, one.within))
place_of-at (s ∷ segments) a zero d one = rw (is_there s a (one.holds d)) refl
place_of-at (s ∷ segments) a (suc m) d one =
    rw (not_in s a (one.passed 0 d (omega arith)))
    (place_of-at segments a m d (record {
      within = omega (arith, one.within);
      holds = λ e. one.holds e;
      passed = λ j e lt. one.passed (suc j) e (omega arith);
    }))

-- a segment of the list has a number
pub record HasNumber (segments : List FixupSegment) (s : FixupSegment) : Type 0 where
  pub number : ℕ
  pub within : number < length segments
  pub is : (d : FixupSegment) → get_or segments number d ≡ s

pub number_of : (segments : List FixupSegment) (s : FixupSegment) → Contains segments s → HasNumber segments s
number_of segments s one =
    All-contains (HasNumber segments) segments s
    (λ k d lt. record { number = k; within = lt; is = λ e. get_or_default segments k e d lt }) one

-- the first segment that isn't in front of an address has it, where one has
pub first_has : (segments : List FixupSegment) (a m : ℕ) (d : FixupSegment) → AreSegments segments
    → ((s : FixupSegment) × Contains segments s × Holds s a) → ArePassed segments m a → m < length segments
    → a < (get_or segments m d).address + (get_or segments m d).file_size → IsSegmentOf segments a m
first_has segments a m d order one passed within ahead =
    record { within = within; holds = holds; passed = passed.each }
  where
    s : FixupSegment
    s = one.0

    n : HasNumber segments s
    n = number_of segments s one.1

    holds : (e : FixupSegment) → Holds (get_or segments m e) a
    holds e =
        elim (cases_lt n.number m) [
          | inl early ↦
              let behind = passed.each n.number e early in
              absurd (omega (arith, behind, ap (λ (t : FixupSegment). t.address + t.file_size) (n.is e), one.2.1))
          | inr from ↦ elim (cases_lt m n.number) [
            | inl late ↦
                let own : (get_or segments m e).address + (get_or segments m e).size ≡ (get_or segments m d).address +
                (get_or segments m d).size =
                ap (λ (t : FixupSegment). t.address + t.size) (get_or_default segments m e d within) in
                absurd (omega (
                  arith,
                  order.in_order m n.number e late n.within,
                  order.sizes m d within,
                  own,
                  ap (λ (t : FixupSegment). t.address) (n.is e),
                  ahead,
                  one.2.0,
                ))
            | inr same ↦
                let at : n.number ≡ m = omega arith in
                subst (λ (k : ℕ). Holds (get_or segments k e) a) at (subst (λ (t : FixupSegment). Holds t a) (sym (n.is e)) one.2)
          ]
        ]

-- where all that have been passed lie in front, one is left
pub one_left : (segments : List FixupSegment) (a m : ℕ) → ((s : FixupSegment) × Contains segments s × Holds s a) → ArePassed segments m a
    → m < length segments
one_left segments a m one passed =
    let n = number_of segments one.0 one.1 in
    elim (cases_lt n.number m) [
      | inl early ↦
          let behind = passed.each n.number no_segment early in
          absurd (omega (arith, behind, ap (λ (t : FixupSegment). t.address + t.file_size) (n.is no_segment), one.2.1))
      | inr from ↦ omega (arith, n.within)
    ]

-- the segment of a number that has an address is the one that is found
pub numbered : (segments : List FixupSegment) (s : FixupSegment) (a : ℕ) → AreSegments segments → (n : HasNumber segments s) → Holds s a
    → IsSegmentOf segments a n.number
numbered segments s a order n holds =
    record {
      within = n.within;
      holds = λ d. subst (λ (t : FixupSegment). Holds t a) (sym (n.is d)) holds;
      passed = λ j e lt. omega (
        arith,
        order.in_order j n.number e lt n.within,
        order.sizes j e (omega (arith, n.within)),
        ap (λ (t : FixupSegment). t.address) (n.is e),
        holds.0,
      );
    }

-- the number of the segment that has an address
pub segment_number : (segments : List FixupSegment) (a : ℕ) → AreSegments segments → ((s : FixupSegment) × Contains segments s × Holds s a)
    → (m : ℕ) × IsSegmentOf segments a m
segment_number segments a order one =
    let n = number_of segments one.0 one.1 in (n.number, numbered segments one.0 a order n one.2)

-- two words, one behind the other, stand apart in the file
pub places_apart : (segments : List FixupSegment) (a b : ℕ) → AreSegments segments → ((s : FixupSegment) × Contains segments s × Holds s a)
    → ((s : FixupSegment) × Contains segments s × Holds s b) → a + POINTER_SIZE ≤ b
    → (place_of segments a + POINTER_SIZE ≤ place_of segments b) ⊎ (place_of segments b + POINTER_SIZE ≤ place_of segments a)
places_apart segments a b order one two far =
    let m = segment_number segments a order one in
    let n = segment_number segments b order two in
    by_numbers m.0 n.0 m.1 n.1
  where
    by_numbers : (m n : ℕ) → IsSegmentOf segments a m → IsSegmentOf segments b n
        → (place_of segments a + POINTER_SIZE ≤ place_of segments b) ⊎ (place_of segments b + POINTER_SIZE ≤ place_of segments a)
    by_numbers m n of_a of_b =
        let at_a = place_of-at segments a m no_segment of_a in
        let at_b = place_of-at segments b n no_segment of_b in
        let in_a = of_a.holds no_segment in
        let in_b = of_b.holds no_segment in
        elim (cases_lt m n) [
          | inl lower ↦ elim (order.apart m n no_segment lower of_b.within) [
            | inl before ↦ inl (omega (arith, at_a, at_b, in_a.0, in_a.1, in_b.0, in_b.1, before))
            | inr after ↦ inr (omega (arith, at_a, at_b, in_a.0, in_a.1, in_b.0, in_b.1, after))
          ]
          | inr from ↦ elim (cases_lt n m) [
            | inl higher ↦
                absurd (omega (
                  arith,
                  order.in_order n m no_segment higher of_a.within,
                  order.sizes n no_segment of_b.within,
                  in_a.0,
                  in_b.1,
                  far,
                ))
            | inr same ↦
                let at : get_or segments n no_segment ≡ get_or segments m no_segment = ap (λ (k : ℕ). get_or segments k no_segment)
                (omega arith) in
                inl (omega (
                  arith,
                  at_a,
                  at_b,
                  in_a.0,
                  in_a.1,
                  in_b.0,
                  ap (λ (t : FixupSegment). t.address) at,
                  ap (λ (t : FixupSegment). t.file_offset) at,
                  far,
                ))
          ]
        ]
