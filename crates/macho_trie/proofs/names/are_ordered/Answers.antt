use Rattle.std.proofs.Common.{List, sym, ap, subst, rules, ℕ}
use denote.Ref.{Bor}
use Rattle.std.specs.List.Sorted.{IsNonDecreasingBy}
use Rattle.std.proofs.lemmas.List.Sorted.{IsNonDecreasingBy-from_sort_by_key, IsPermutation-map}
use Rattle.macho_trie.specs.steps.Stacks.{edge_of, edges_of, byte_of}
use Rattle.macho_trie.proofs.Apart.{joined_before}
use Rattle.macho_trie.proofs.names.are_ordered.Goals as goal

pub first_bytes_rise-requires : goal.first_bytes_rise-requires
first_bytes_rise-requires c =
    let P : List (Bor (List ℕ) × ℕ) → Type 0 = λ es. IsNonDecreasingBy byte_of es in
    subst P (sym c.deref.ensures.value)
    (IsNonDecreasingBy-from_sort_by_key byte_of c.sort_unstable_by_key.new.self.items c.sort_unstable_by_key.ensures.sorted
    (λ a r q k. search rules))

pub returns-clause-moved : goal.returns-clause-moved
returns-clause-moved c =
    IsPermutation-map edge_of c.args.edges.now.items c.sort_unstable_by_key.new.self.items c.sort_unstable_by_key.ensures.permutation

pub returns-clause-joined : goal.returns-clause-joined
returns-clause-joined c =
    joined_before c.first_bytes_rise.result (edges_of c.args.edges.now.items) (edges_of c.sort_unstable_by_key.new.self.items)
    (edges_of c.deref.result.now)
    (IsPermutation-map edge_of c.args.edges.now.items c.sort_unstable_by_key.new.self.items c.sort_unstable_by_key.ensures.permutation)
    (ap (λ (es : List (Bor (List ℕ) × ℕ)). edges_of es) c.deref.ensures.value) c.first_bytes_rise.ensures.joined
