-- The number of the first segment with a name, or how many there are.
--
-- None before it has the name, and it has it, or there are no more.
use Rattle.std.proofs.Common.{◌≡◌, [], map, length, sym, ap, ◌∙◌, arith}
use Rattle.std.specs.Str.{bytes_eq}
use Rattle.std.proofs.lemmas.List.{get_or_default, get_or-map, length-map}
use Rattle.std.proofs.lemmas.List.Sums.{position_or_len_is}
use Rattle.macho_bytes.specs.Texts.{name_of}
use Rattle.macho_records.specs.Segments.{text_of}
use Rattle.macho_records.specs.declared.segments.SegmentName.{SegmentName}
use Rattle.macho_placement_rules.proofs.segments.number_of.Goals as goal

pub returns-then-eq-clause-value : goal.returns-then-eq-clause-value
returns-then-eq-clause-value c =
    let n : SegmentName = record { 0 = [] } in
    let names = c.args.others.now in
    let k = c.loop-number.number in
    sym (position_or_len_is (bytes_eq c.args.text.now) (map text_of names) k []
    (omega (arith, length-map names text_of))
    (λ j low. ap (bytes_eq c.args.text.now) (get_or-map text_of names j n [] (omega arith)) ∙ c.loop-number.invariant j n low)
    (λ low. ap (bytes_eq c.args.text.now) (get_or-map text_of names k n [] c.loop-number-test.true
    ∙ ap text_of (get_or_default names k n (record { 0 = [] }) c.loop-number-test.true))
    ∙ ap (bytes_eq c.args.text.now) (sym (c.name_bytes.ensures ∙ ap name_of c.into_bytes-bytes.ensures))
    ∙ sym c.eq.ensures ∙ c.if-eq.true))

pub returns-clause-value : goal.returns-clause-value
returns-clause-value c =
    let n : SegmentName = record { 0 = [] } in
    let names = c.args.others.now in
    let long : length (map text_of names) ≡ length names = length-map names text_of in
    sym (position_or_len_is (bytes_eq c.args.text.now) (map text_of names) (length names) []
    (omega arith)
    (λ j low. ap (bytes_eq c.args.text.now) (get_or-map text_of names j n [] low) ∙ c.loop-number.invariant j n (omega arith))
    (λ low. absurd (omega arith)))
