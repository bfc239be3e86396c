-- Rows of the walk, computed: tries from bytes written out, which are malformed at a place, and two that are malformed
-- nowhere, with all names that look-up finds.
--
-- What is wrong is shown by one way, or two, that arrive at the place. That nothing is wrong is shown by all ways: by
-- induction each of them arrives at one of the nodes that are written out, by its name.
use Rattle.std.proofs.Common.{◌≡◌, ℕ, zero, suc, ◌<◌, List, [], ◌∷◌, ◌++◌, length, slice_index, slice_index_or, codes, if◌then◌else◌, ◌==◌, Contains, Option, Some, None}
use Rattle.std.proofs.Common.{refl, sym, ap, subst, ◌∙◌, arith, lit<}
use Rattle.std.specs.List.{All, AllPairs}
use Rattle.std.specs.Cmp.Lexicographic.{slice_cmp}
use Rattle.std.specs.Ordering.{nat_cmp}
use Rattle.std.specs.declared.cmp.Ordering.TheVariants.{Less}
use Rattle.macho_bytes.specs.Uleb.{uleb_at}
use Rattle.macho_trie.specs.Exports.{Exported, as_value}
use Rattle.macho_trie.specs.Nodes.{Edge, Node, ended_name, export_in, terminal_between, terminal_at, edge_at, edges_at, node_at}
use Rattle.macho_trie.specs.Lookup.{here, along, trie_finds}
use Rattle.macho_trie.specs.Walks.{Reaches, first, next, AreApart, no_node, not_apart, twice, IsMalformedAt}
use Rattle.macho_trie.specs.Lists.{AreExports}
use Rattle.macho_trie.proofs.Reaching.{arrives, same_node}

abbrev edge_to : List ℕ → ℕ → Edge
edge_to label child = record { label = label; child = child }

abbrev plain_node : List Edge → Node
plain_node edges = record { export = None; edges = edges }

-- a circle: the first node's edge `a` leads back to it
abbrev circle : List ℕ
circle = 0 ∷ 1 ∷ 0x61 ∷ 0 ∷ 0 ∷ []

circle_root : node_at circle 0 ≡ Some (plain_node (edge_to (codes "a") 0 ∷ []))
unfolding node_at terminal_at terminal_between edges_at edge_at ended_name uleb_at
circle_root = refl

circle_is_malformed : IsMalformedAt circle 0
circle_is_malformed = (
  lit< tt,
  twice [] (codes "a") first
      (next 0 [] (plain_node (edge_to (codes "a") 0 ∷ [])) (edge_to (codes "a") 0) first circle_root (0, lit< tt, refl))
      (λ same. cc),
)

-- a child past the end
abbrev past : List ℕ
past = 0 ∷ 1 ∷ 0x61 ∷ 0 ∷ 9 ∷ []

past_root : node_at past 0 ≡ Some (plain_node (edge_to (codes "a") 9 ∷ []))
unfolding node_at terminal_at terminal_between edges_at edge_at ended_name uleb_at
past_root = refl

past_child : node_at past 9 ≡ None
unfolding node_at terminal_at uleb_at
past_child = refl

past_is_malformed : IsMalformedAt past 9
past_is_malformed = (
  lit< tt,
  no_node (codes "a") (next 0 [] (plain_node (edge_to (codes "a") 9 ∷ [])) (edge_to (codes "a") 9) first past_root (0, lit< tt, refl))
      past_child,
)

-- an empty label
abbrev unnamed : List ℕ
unnamed = 0 ∷ 1 ∷ 0 ∷ 4 ∷ 0 ∷ 0 ∷ []

unnamed_root : node_at unnamed 0 ≡ Some (plain_node (edge_to [] 4 ∷ []))
unfolding node_at terminal_at terminal_between edges_at edge_at ended_name uleb_at
unnamed_root = refl

unnamed_is_malformed : IsMalformedAt unnamed 0
unnamed_is_malformed = (
  lit< tt,
  not_apart [] (plain_node (edge_to [] 4 ∷ [])) first unnamed_root
      (λ a. let some : 0 < length (edge_to [] 4).label = a.some 0 (edge_to [] 4) (lit< tt) in omega arith),
)

-- two edges that begin with one byte, to two nodes
abbrev forked : List ℕ
forked = 0 ∷ 2 ∷ 0x61 ∷ 0 ∷ 9 ∷ 0x61 ∷ 0x62 ∷ 0 ∷ 11 ∷ 0 ∷ 0 ∷ 0 ∷ 0 ∷ []

abbrev forked_edges : List Edge
forked_edges = edge_to (codes "a") 9 ∷ edge_to (codes "ab") 11 ∷ []

forked_root : node_at forked 0 ≡ Some (plain_node forked_edges)
unfolding node_at terminal_at terminal_between edges_at edge_at ended_name uleb_at
forked_root = refl

forked_is_malformed : IsMalformedAt forked 0
forked_is_malformed = (
  lit< tt,
  not_apart [] (plain_node forked_edges) first forked_root (λ a. a.apart 0 1 (edge_to [] 0) (lit< tt) (lit< tt) refl),
)

-- one node with two names
abbrev joined : List ℕ
joined = 0 ∷ 2 ∷ 0x61 ∷ 0 ∷ 8 ∷ 0x62 ∷ 0 ∷ 8 ∷ 0 ∷ 0 ∷ []

abbrev joined_edges : List Edge
joined_edges = edge_to (codes "a") 8 ∷ edge_to (codes "b") 8 ∷ []

joined_root : node_at joined 0 ≡ Some (plain_node joined_edges)
unfolding node_at terminal_at terminal_between edges_at edge_at ended_name uleb_at
joined_root = refl

joined_is_malformed : IsMalformedAt joined 8
joined_is_malformed = (
  lit< tt,
  twice (codes "a") (codes "b") (next 0 [] (plain_node joined_edges) (edge_to (codes "a") 8) first joined_root (0, lit< tt, refl))
      (next 0 [] (plain_node joined_edges) (edge_to (codes "b") 8) first joined_root (1, lit< tt, refl))
      (λ same. let bytes : 0x61 ≡ 0x62 = ap (λ (n : List ℕ). slice_index n 0) same in omega arith),
)

-- the trie of `a` at 0x10 and `ab` at 0x20: one name is the beginning of the other
abbrev both : List ℕ
both = 0 ∷ 1 ∷ 0x61 ∷ 0 ∷ 5 ∷ 2 ∷ 0 ∷ 0x10 ∷ 1 ∷ 0x62 ∷ 0 ∷ 12 ∷ 2 ∷ 0 ∷ 0x20 ∷ 0 ∷ []

abbrev node_of_a : Node
node_of_a = record { export = Some (as_value 0 0x10); edges = edge_to (codes "b") 12 ∷ [] }

abbrev node_of_ab : Node
node_of_ab = record { export = Some (as_value 0 0x20); edges = [] }

both_root : node_at both 0 ≡ Some (plain_node (edge_to (codes "a") 5 ∷ []))
unfolding node_at terminal_at terminal_between edges_at edge_at ended_name uleb_at
both_root = refl

both_a : node_at both 5 ≡ Some node_of_a
unfolding node_at terminal_at terminal_between export_in edges_at edge_at ended_name uleb_at
both_a = refl

both_ab : node_at both 12 ≡ Some node_of_ab
unfolding node_at terminal_at terminal_between export_in edges_at uleb_at
both_ab = refl

-- the visits: a place, its name and its node
pub data IsVisited : ℕ → List ℕ → Node → Type 0 where
  at_root : IsVisited 0 [] (plain_node (edge_to (codes "a") 5 ∷ []))
  at_a : IsVisited 5 (codes "a") node_of_a
  at_ab : IsVisited 12 (codes "ab") node_of_ab

only_edge : (e x : Edge) → Contains (e ∷ []) x → e ≡ x
only_edge e x (zero, within, is) = is
only_edge e x (suc k, within, is) = absurd (omega arith)

visited : (p : ℕ) (name : List ℕ) → Reaches both p name → (node : Node) × IsVisited p name node × (node_at both p ≡ Some node)
visited p name first = (plain_node (edge_to (codes "a") 5 ∷ []), at_root, both_root)
visited p name (next at before node e reached is edge) =
    let v = visited at before reached in
    let E : Node → Type 0 = λ n. Contains n.edges e in
    go at before v.0 e v.1 (subst E (same_node (node_at both at) node v.0 is v.2) edge)
  where
    go : (at : ℕ) (before : List ℕ) (node : Node) (e : Edge) → IsVisited at before node → Contains node.edges e
        → (found : Node) × IsVisited e.child (before ++ e.label) found × (node_at both e.child ≡ Some found)
    go at before node e at_root edge =
        let P : Edge → Type 0 = λ x. (found : Node) × IsVisited x.child x.label found × (node_at both x.child ≡ Some found) in
        subst P (only_edge (edge_to (codes "a") 5) e edge) (node_of_a, at_a, both_a)
    go at before node e at_a edge =
        let P : Edge → Type 0 = λ x. (found : Node) × IsVisited x.child (codes "a" ++ x.label) found × (node_at both x.child ≡ Some found)
        in
        subst P (only_edge (edge_to (codes "b") 12) e edge) (node_of_ab, at_ab, both_ab)
    go at before node e at_ab (k, within, is) = absurd (omega arith)

-- it is malformed nowhere
one_apart : (e : Edge) → 0 < length e.label → AreApart (e ∷ [])
one_apart e some = record {
  some = λ k d h.
      let here : k ≡ 0 = omega arith in
      let P : ℕ → Type 0 = λ i. 0 < length (slice_index_or (e ∷ []) i d).label in
      subst P (sym here) some;
  apart = λ i j d before within. absurd (omega arith);
}

apart_at : (p : ℕ) (name : List ℕ) (node : Node) → IsVisited p name node → AreApart node.edges
apart_at p name node at_root = one_apart (edge_to (codes "a") 5) (lit< tt)
apart_at p name node at_a = one_apart (edge_to (codes "b") 12) (lit< tt)
apart_at p name node at_ab = record { some = λ k d h. absurd (omega arith); apart = λ i j d before within. absurd (omega arith) }

abbrev name_of_place : ℕ → List ℕ
name_of_place p = if p == 0 then [] else (if p == 5 then codes "a" else codes "ab")

name_at : (p : ℕ) (name : List ℕ) (node : Node) → IsVisited p name node → name ≡ name_of_place p
name_at p name node at_root = refl
name_at p name node at_a = refl
name_at p name node at_ab = refl

both_is_fine : (place : ℕ) → IsMalformedAt both place → ⊥
both_is_fine place (some, no_node name reached none) =
    let v = visited place name reached in
    let contrary : None ≡ Some v.0 = sym none ∙ v.2 in
    cc
both_is_fine place (some, not_apart name node reached is not) =
    let v = visited place name reached in
    let A : Node → Type 0 = λ n. AreApart n.edges in
    not (subst A (same_node (node_at both place) v.0 node v.2 is) (apart_at place name v.0 v.1))
both_is_fine place (some, twice name other one two differ) =
    let v = visited place name one in
    let w = visited place other two in
    differ (name_at place name v.0 v.1 ∙ sym (name_at place other w.0 w.1))

-- its names
abbrev both_lines : List (List ℕ × Exported)
both_lines = (codes "a", as_value 0 0x10) ∷ (codes "ab", as_value 0 0x20) ∷ []

a_is_found : trie_finds both (codes "a") (as_value 0 0x10)
a_is_found =
    along 0 (codes "a") (plain_node (edge_to (codes "a") 5 ∷ [])) (edge_to (codes "a") 5) both_root refl
    (here 5 [] node_of_a both_a refl refl)

ab_is_found : trie_finds both (codes "ab") (as_value 0 0x20)
ab_is_found =
    along 0 (codes "ab") (plain_node (edge_to (codes "a") 5 ∷ [])) (edge_to (codes "a") 5) both_root refl
    (along 5 (codes "b") node_of_a (edge_to (codes "b") 12) both_a refl (here 12 [] node_of_ab both_ab refl refl))

both_are_listed : AreExports both both_lines
both_are_listed = record {
  rising = rising;
  found = found;
  all = λ name x finds.
      let end = arrives both x 0 name [] finds first in
      let v = visited end.0 name end.1 in
      listed end.0 name v.0 x v.1 (ap (λ (n : Node). n.export) (same_node (node_at both end.0) v.0 end.2.0 v.2 end.2.1) ∙ end.2.2);
}
  where
    rising : AllPairs (λ x y. slice_cmp nat_cmp x.0 y.0 ≡ Less) both_lines
    rising zero zero d before within = absurd (omega arith)
    rising zero (suc zero) d before within = refl
    rising zero (suc (suc j)) d before within = absurd (omega arith)
    rising (suc i) zero d before within = absurd (omega arith)
    rising (suc i) (suc zero) d before within = absurd (omega arith)
    rising (suc i) (suc (suc j)) d before within = absurd (omega arith)

    found : All (λ x. trie_finds both x.0 x.1) both_lines
    found zero d within = a_is_found
    found (suc zero) d within = ab_is_found
    found (suc (suc k)) d within = absurd (omega arith)

    listed : (p : ℕ) (name : List ℕ) (node : Node) (x : Exported) → IsVisited p name node → node.export ≡ Some x
        → Contains both_lines (name, x)
    listed p name node x at_root exports = absurd (cc)
    listed p name node x at_a exports = (0, lit< tt, ap (λ (y : Exported). let l : List ℕ × Exported = (codes "a", y) in l) value)
      where
        value : as_value 0 0x10 ≡ x
        value = cc
    listed p name node x at_ab exports = (1, lit< tt, ap (λ (y : Exported). let l : List ℕ × Exported = (codes "ab", y) in l) value)
      where
        value : as_value 0 0x20 ≡ x
        value = cc
