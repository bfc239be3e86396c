-- The address is on no chain of the pages so far.
use Rattle.std.proofs.Common.{ℕ, ◌<◌}
use Rattle.macho_model.specs.Chain.{OnPageChain, chain_segments}
use Rattle.macho_image_walks.specs.steps.Walks.{chain_segment_at}
use Rattle.macho_image_walks.proofs.chain_words.is_on_segment.Given as goal

abbrev pub invariant-loop-page : goal.invariant-loop-page
invariant-loop-page l =
    (k : ℕ) → k < l.page → OnPageChain (chain_segments l.bytes) l.bytes (chain_segment_at l.bytes l.number l.place) k l.address → ⊥
