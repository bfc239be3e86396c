-- The chain of a file without fixup tables is empty.
--
-- A chain has its words from page starts: the least set has no word without a first one. Page starts stand in a fixup
-- table, so where a file has no table each of its segments has no starts, and no page has a first word. A word that
-- another one leads to stands behind that one, which is on the chain too.
use Rattle.std.proofs.Common.{◌≡◌, ℕ, List, [], length, ap, refl, arith}
use Rattle.std.proofs.lemmas.List.Elements.{All-map, All-contains}
use Rattle.std.specs.Prelude.{Contains}
use Rattle.std.specs.List.{enumerate_from}
use Rattle.macho_model.specs.Images.{segments_of, tables_of}
use Rattle.macho_model.specs.Chain.{ChainSegment, OnChain, first, next, chain_segment, chain_segments, OnChainOf}
use Rattle.macho_model.specs.Memory.{Covers}

-- segments without page starts have no chain
pub chain_needs_starts : (segments : List ChainSegment) (b : List ℕ) → ((s : ChainSegment) → Contains segments s → s.starts ≡ []) → (a : ℕ)
    → OnChain segments b a → ⊥
chain_needs_starts segments b none _ (first s page one within starts) = let empty = ap (λ (xs : List ℕ). length xs) (none s one) in
    omega arith
chain_needs_starts segments b none _ (next a word on stands goes) = chain_needs_starts segments b none a on

-- without tables a segment has no page starts
no_starts : (b : List ℕ) → tables_of b ≡ [] → (s : ChainSegment) → Contains (chain_segments b) s → s.starts ≡ []
unfolding chain_segments
no_starts b none s one =
    All-contains (λ (x : ChainSegment). x.starts ≡ []) (chain_segments b) s
    (All-map (λ (x : ChainSegment). x.starts ≡ []) (chain_segment b) (enumerate_from 0 (segments_of b)) (λ k d lt. rw none refl)) one

-- a file without tables has no chain
pub unchained : (b : List ℕ) → tables_of b ≡ [] → (a : ℕ) → OnChainOf b a → ⊥
unchained b none a on = chain_needs_starts (chain_segments b) b (no_starts b none) a on

-- so no chain word covers any address
pub uncovered : (b : List ℕ) → tables_of b ≡ [] → (a word_at : ℕ) → Covers b word_at a → ⊥
uncovered b none a word_at covers = unchained b none word_at covers.0
