-- The number of a segment: the first place of its name, or the length where there is none.
use Rattle.std.proofs.Common.{◌≡◌, ℕ, get_or, sym, ap, ◌∙◌, [], length, inl, inr, arith}
use Rattle.std.proofs.lemmas.Bool.{cases_lt}
use Rattle.std.proofs.lemmas.List.Sums.{position_or_len_is}
use Rattle.std.proofs.lemmas.List.{get_or_default}
use Rattle.macho_records.specs.declared.segments.SegmentName.{SegmentName}
use Rattle.macho_layout.specs.Keys.{padded, same_segment}
use Rattle.macho_layout.proofs.cells.segment_number.Goals as goal

pub returns-then-eq-clause-value : goal.returns-then-eq-clause-value
returns-then-eq-clause-value c =
    sym (position_or_len_is (λ (other : SegmentName). same_segment other c.args.name) c.args.names.now c.loop-number.number (padded [])
    (omega arith) (λ k low. c.loop-number.invariant k (padded []) low)
    (λ low. ap (λ (n : SegmentName). same_segment n c.args.name) (get_or_default c.args.names.now c.loop-number.number (padded [])
    (record { 0 = [] }) c.loop-number-test.true) ∙ sym c.eq.ensures ∙ c.if-eq.true))

pub loop-number-preserved : goal.loop-number-preserved
loop-number-preserved c = λ k d low. elim (cases_lt k c.loop-number.number) [
  | inl before ↦ c.loop-number.invariant k d before
  | inr last ↦
      let at : k ≡ c.loop-number.number = omega arith in
      ap (λ (i : ℕ). same_segment (get_or c.args.names.now i d) c.args.name) at
      ∙ ap (λ (n : SegmentName). same_segment n c.args.name) (get_or_default c.args.names.now c.loop-number.number d _
      c.loop-number-test.true) ∙ sym c.eq.ensures ∙ c.if-eq.false
]

pub returns-clause-value : goal.returns-clause-value
returns-clause-value c =
    sym (position_or_len_is (λ (other : SegmentName). same_segment other c.args.name) c.args.names.now (length c.args.names.now) (padded [])
    (omega arith) (λ k low. c.loop-number.invariant k (padded []) (omega arith)) (λ low. absurd (omega arith)))
