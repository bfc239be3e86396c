-- A word of a page's chain is on the chain of the segments; a file without fixup tables has neither.
use Rattle.std.proofs.Common.{◌≡◌, ℕ, List, [], get_or, ap, ◌∙◌, arith}
use Rattle.std.specs.Prelude.{Contains}
use Rattle.std.specs.List.{enumerate_from}
use Rattle.std.proofs.lemmas.List.{get_or-map, length-map}
use Rattle.std.proofs.lemmas.List.FromFn.{get_or-enumerate_from, length-enumerate_from}
use Rattle.macho_records.specs.declared.header.SegmentCommand.{SegmentCommand}
use Rattle.macho_model.specs.Lists.{IsNumber}
use Rattle.macho_model.specs.Images.{segments_of, tables_of}
use Rattle.macho_model.specs.Chain.{ChainSegment, OnChain, OnPageChain, chain_segment, chain_segments}
use Rattle.macho_model.specs.Chain as chain
use Rattle.macho_model.proofs.Unchained.{unchained}

-- the chain of a page is part of the chain
pub page_on_chain : (segments : List ChainSegment) (b : List ℕ) (s : ChainSegment) (page a : ℕ) → Contains segments s
    → OnPageChain segments b s page a → OnChain segments b a
page_on_chain segments b s page _ one (chain.OnPageChain.first within starts) = chain.OnChain.first s page one within starts
page_on_chain segments b s page _ one (chain.OnPageChain.next a word on stands goes) =
    chain.OnChain.next a word (page_on_chain segments b s page a one on) stands goes

-- a file without tables has no page's chain
pub no_page_chain : (b : List ℕ) → tables_of b ≡ [] → (s : ChainSegment) (page a : ℕ) → Contains (chain_segments b) s
    → OnPageChain (chain_segments b) b s page a → ⊥
no_page_chain b none s page a one on = unchained b none a (page_on_chain (chain_segments b) b s page a one on)

-- a segment with its number is one that chains see
pub with_number : (b : List ℕ) (number : ℕ) (s : SegmentCommand) → IsNumber (segments_of b) number s
    → Contains (enumerate_from 0 (segments_of b)) (number, s)
with_number b number s is = (
  number,
  omega (arith, is.0, length-enumerate_from 0 (segments_of b)),
  get_or-enumerate_from 0 (segments_of b) number (number, s) is.0
      ∙ ap (λ (k : ℕ). (k, get_or (segments_of b) number s)) (omega arith) ∙ ap (λ (x : SegmentCommand). (number, x)) is.1,
)

pub number_in_chain : (b : List ℕ) (number : ℕ) (s : SegmentCommand) → IsNumber (segments_of b) number s
    → Contains (chain_segments b) (chain_segment b (number, s))
unfolding chain_segments with_number
number_in_chain b number s is =
    let one = with_number b number s is in (
      number,
      omega (arith, is.0, length-enumerate_from 0 (segments_of b), length-map (enumerate_from 0 (segments_of b)) (chain_segment b)),
      get_or-map (chain_segment b) (enumerate_from 0 (segments_of b)) number (number, s) (chain_segment b (number, s))
          (omega (arith, is.0, length-enumerate_from 0 (segments_of b)))
          ∙ ap (chain_segment b) one.2,
    )

-- without fixup tables no page of a segment has a chain
pub no_page_of : (b : List ℕ) → tables_of b ≡ [] → (number : ℕ) (s : SegmentCommand) (page a : ℕ) → IsNumber (segments_of b) number s
    → OnPageChain (chain_segments b) b (chain_segment b (number, s)) page a → ⊥
no_page_of b none number s page a is on = no_page_chain b none (chain_segment b (number, s)) page a (number_in_chain b number s is) on
