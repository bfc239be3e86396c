-- The search ends at the first segment that has the address.
use Rattle.std.proofs.Common.{◌%◌, ◌^◌, ℕ, ap, sym, ◌∙◌, arith}
use Rattle.macho_model.specs.Addresses.{offset_in_file}
use Rattle.macho_places.proofs.Segments.{found_is, none_is, none_more, low_mod}
use Rattle.macho_places.proofs.offsets.file_offset.Goals as goal

pub loop-segment-init : goal.loop-segment-init
loop-segment-init c = record { none = λ k d low. absurd (omega (arith, low)) }

pub returns-then-has_in_file-clause-is : goal.returns-then-has_in_file-clause-is
returns-then-has_in_file-clause-is c p same =
    ap (λ (n : ℕ). n % 2 ^ 64)
    (found_is p c.args.address c.args.segments.now c.loop-segment.segment-index _ same c.loop-segment-test.true c.loop-segment.invariant
    (sym c.has_in_file.ensures ∙ c.if-has_in_file.true))

pub returns-then-has_in_file-clause-low : goal.returns-then-has_in_file-clause-low
returns-then-has_in_file-clause-low c p same low =
    ap (λ (n : ℕ). n % 2 ^ 64)
    (found_is p c.args.address c.args.segments.now c.loop-segment.segment-index _ same c.loop-segment-test.true c.loop-segment.invariant
    (sym c.has_in_file.ensures ∙ c.if-has_in_file.true))
    ∙ low_mod (offset_in_file p c.args.address) low

pub loop-segment-preserved : goal.loop-segment-preserved
loop-segment-preserved c =
    none_more c.args.address c.args.segments.now c.loop-segment.segment-index _ c.loop-segment-test.true c.loop-segment.invariant
    (sym c.has_in_file.ensures ∙ c.if-has_in_file.false)

pub returns-clause-is : goal.returns-clause-is
returns-clause-is c p same =
    ap (λ (n : ℕ). n % 2 ^ 64)
    (none_is p c.args.address c.args.segments.now c.loop-segment.segment-index same (omega
    (arith, c.loop-segment-test.false)) c.loop-segment.invariant)

pub returns-clause-low : goal.returns-clause-low
returns-clause-low c p same low =
    none_is p c.args.address c.args.segments.now c.loop-segment.segment-index same (omega
    (arith, c.loop-segment-test.false)) c.loop-segment.invariant
