-- Whether a part shares no address with any of some others.
--
-- What holds of the first k and of the next one holds of one more. One that shares an address refutes it of all; at the end these are all.
use Rattle.std.proofs.Common.{sym, ◌∙◌, arith}
use Rattle.std.proofs.lemmas.List.{length-map}
use Rattle.std.proofs.lemmas.List.Elements.{All-map}
use Rattle.macho_bytes.proofs.Members.{all_unmap}
use Rattle.macho_model.specs.Placement.{AreApart}
use Rattle.macho_placement_rules.specs.declared.parts.Part.{Part}
use Rattle.macho_placement_rules.specs.Parts.{piece_of}
use Rattle.macho_placement_rules.proofs.Each.{each_more}
use Rattle.macho_placement_rules.proofs.template.meets_none.Goals as goal

pub loop-part-preserved : goal.loop-part-preserved
loop-part-preserved c =
    each_more (λ (x : Part). AreApart (piece_of c.args.whole.now) (piece_of x)) c.args.parts.now c.loop-part.part-index _
    c.loop-part-test.true c.loop-part.invariant c.if-not-is_apart.ensures.found

pub returns-then-not-is_apart-clause-only : goal.returns-then-not-is_apart-clause-only
returns-then-not-is_apart-clause-only c = λ all.
    let none : Part = record { start = 0; size = 0; exponent = 0 } in
    sym c.if-not-is_apart.true ∙ c.is_apart.ensures.only
    (all_unmap (AreApart (piece_of c.args.whole.now)) piece_of c.args.parts.now all c.loop-part.part-index none c.loop-part-test.true)

pub returns-clause-found : goal.returns-clause-found
returns-clause-found c =
    All-map (AreApart (piece_of c.args.whole.now)) piece_of c.args.parts.now
    (λ k d low. c.loop-part.invariant k d (omega (arith, length-map c.args.parts.now piece_of)))
