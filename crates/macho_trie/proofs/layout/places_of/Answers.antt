-- The sums of the first sizes, one after the other.
use Rattle.std.proofs.Common.{ap, sym, ◌≡◌, ◌∷◌, ◌++◌, [], ◌∙◌, ◌+◌, arith, map, take, sum, length, ℕ, List}
use Rattle.std.specs.List.{range_with_len}
use Rattle.std.proofs.lemmas.List.FromFn.{map-range_with_len_more}
use Rattle.std.proofs.lemmas.List.Sums.{sum_by_more}
use Rattle.macho_trie.proofs.layout.places_of.Goals as goal

-- one sum more
sums_more : (sizes places next : List ℕ) (place n : ℕ) → places ≡ map (λ (k : ℕ). sum (take k sizes)) (range_with_len 0 n)
    → place ≡ sum (take n sizes) → next ≡ places ++ place ∷ []
    → next ≡ map (λ (k : ℕ). sum (take k sizes)) (range_with_len 0 (n + 1))
sums_more sizes places next place n before here is =
    is ∙ ap (λ (xs : List ℕ). xs ++ place ∷ []) before
    ∙ ap (λ (m : ℕ). map (λ (k : ℕ). sum (take k sizes)) (range_with_len 0 n) ++ m ∷ []) here
    ∙ sym (map-range_with_len_more (λ (k : ℕ). sum (take k sizes)) 0 n n (omega arith))

pub loop-size-preserved : goal.loop-size-preserved
loop-size-preserved c = record {
  placed = sums_more c.args.sizes.now c.loop-size.places.items _ c.loop-size.place c.loop-size.size-index c.loop-size.invariant.placed
      c.loop-size.invariant.here c.in_ok-push.ensures.items;
  here = omega (
    arith,
    c.in_ok-place.ensures,
    c.loop-size.invariant.here,
    sum_by_more (λ (x : ℕ). x) c.args.sizes.now c.loop-size.size-index 0 c.loop-size-test.true,
  );
}

pub returns : goal.returns
returns c =
    let end : c.loop-size.size-index ≡ length c.args.sizes.now = omega arith in
    sums_more c.args.sizes.now c.loop-size.places.items _ c.loop-size.place c.loop-size.size-index c.loop-size.invariant.placed
    c.loop-size.invariant.here c.in_ok-push-2.ensures.items
    ∙ ap (λ (n : ℕ). map (λ (k : ℕ). sum (take k c.args.sizes.now)) (range_with_len 0 (n + 1))) end
