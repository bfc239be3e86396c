-- The segment with the number is the one whose command was found.
use Rattle.std.proofs.Common.{refl, subst}
use Rattle.macho_image_walks.specs.declared.walk.Listed.TheVariants as list
use Rattle.macho_model.specs.Chain.{OnPageChain, chain_segments}
use Rattle.macho_image_walks.specs.steps.Walks.{chain_segment_at}
use Rattle.macho_image_walks.proofs.NumberedWalk.{nth_one}
use Rattle.macho_image_walks.proofs.chain_words.is_on_nth.Goals as goal

pub returns-in-Some-clause-only : goal.returns-in-Some-clause-only
returns-in-Some-clause-only c is place nth page on =
    let found = c.in-Some.ensures.found c.in-Some.place refl in
    let same = nth_one list.Segments c.args.bytes.now c.args.number place c.in-Some.place nth found in
    c.is_on_segment.ensures.only is page
    (subst (λ p. OnPageChain (chain_segments c.args.bytes.now) c.args.bytes.now (chain_segment_at c.args.bytes.now c.args.number p) page
    c.args.address) same on)

pub is_on_segment-requires : goal.is_on_segment-requires
is_on_segment-requires c = record { nth = c.in-Some.ensures.found c.in-Some.place refl }
