use Rattle.std.proofs.Common.{◌≡◌, map, take, sum}
use Rattle.std.specs.List.{range_with_len}
use Rattle.macho_trie.proofs.layout.places_of.Given as goal

abbrev pub invariant-loop-size : goal.invariant-loop-size
invariant-loop-size l = record {
  placed : l.places.items ≡ map (λ k. sum (take k l.sizes)) (range_with_len 0 l.size-index);
  here : l.place ≡ sum (take l.size-index l.sizes);
}
