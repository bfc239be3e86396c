-- Whether each part begins at a multiple of its alignment.
--
-- A part of which it doesn't hold refutes it of all; at the end it holds of all.
use Rattle.std.proofs.Common.{◌≡◌, ◌%◌, ◌^◌, sym, ◌∙◌, eq-eqb, arith}
use Rattle.std.proofs.lemmas.List.{length-map}
use Rattle.std.proofs.lemmas.List.Elements.{All-map}
use Rattle.macho_bytes.proofs.Members.{all_unmap}
use Rattle.macho_model.specs.Placement.{Piece}
use Rattle.macho_placement_rules.specs.declared.parts.Part.{Part}
use Rattle.macho_placement_rules.specs.Parts.{piece_of}
use Rattle.macho_placement_rules.proofs.parts.are_aligned.Goals as goal

-- a piece begins at a multiple of its alignment
abbrev IsAligned : Piece → Type 0
IsAligned c = c.start % 2 ^ c.exponent ≡ 0

pub returns-then-not-is_aligned-clause-only : goal.returns-then-not-is_aligned-clause-only
returns-then-not-is_aligned-clause-only c = λ all.
    let none : Part = record { start = 0; size = 0; exponent = 0 } in
    let one = all_unmap IsAligned piece_of c.args.parts.now all c.loop-part.part-index none c.loop-part-test.true in
    sym c.if-not-is_aligned.true ∙ c.is_aligned.ensures ∙ eq-eqb _ 0 one

pub returns-clause-found : goal.returns-clause-found
returns-clause-found c =
    All-map IsAligned piece_of c.args.parts.now (λ k d low. c.loop-part.invariant k d (omega (arith, length-map c.args.parts.now piece_of)))
