-- One visit more.
--
-- The next visit is the last that is pending. Its place is marked, and the children of its node are pending in its stead. What
-- was known of the visits stays: a place that wasn't marked was visited by no name. The name of the visit is greater than
-- all before, less than those of its children, and less than those that are still pending, with all that goes on behind it.
use Rattle.std.proofs.Common.{◌≡◌, ◌≢◌, ◌⊎◌, ℕ, ◌<◌, Bool, true, false, List, [], ◌∷◌, ◌++◌, length, get_or, set}
use Rattle.std.proofs.Common.{map, Contains, Some, sym, ap, subst, ◌∙◌, arith, inl, inr}
use Rattle.std.specs.List.{AllPairs}
use Rattle.std.specs.List.Sorted.{IsPermutation}
use Rattle.std.proofs.lemmas.List.{get_or-set_other, get_or-set_same, length-set}
use Rattle.std.proofs.lemmas.List.Elements.{Contains-append_left, Contains-append_right, Contains-push, Contains-push_cases}
use Rattle.std.proofs.lemmas.List.Elements.{Contains-append_cases}
use Rattle.std.proofs.lemmas.List.Sorted.{Contains-permutation, IsPermutation-sym}
use Rattle.macho_trie.specs.Nodes.{Edge, Node, node_at}
use Rattle.macho_trie.specs.Walks.{Reaches, next}
use Rattle.macho_trie.specs.steps.Walking.{IsBefore, IsParted, last_first, child_of, DoRise, IsFine, IsWalked}
use Rattle.macho_trie.proofs.Parting.{before_longer, before_more, before_parted, parted_longer, parted_labels}
use Rattle.macho_trie.proofs.Turning.{turned, turned_from, pairs_before, pair_of_last, pairs_turned}
use Rattle.macho_trie.proofs.Apart.{apart_rising}
use Rattle.macho_bytes.proofs.Comparing.{same_or_not}

-- Before the visit: the walk so far, with the visit on top of those that are pending, at a place that isn't marked; and
-- the node there, with its edges in order.
pub record IsNext (bytes : List ℕ) (met : List Bool) (seen rest : List (ℕ × List ℕ)) (p : ℕ) (name : List ℕ) (node : Node)
    (edges : List Edge) : Type 0 where
  pub walked : IsWalked bytes met seen (rest ++ (p, name) ∷ [])
  pub within : p < length met
  pub fresh : get_or met p false ≡ false
  pub is : node_at bytes p ≡ Some node
  pub moved : IsPermutation node.edges edges
  pub rise : DoRise edges

-- what is pending afterwards
abbrev pub pending_after : List (ℕ × List ℕ) → List ℕ → List Edge → List (ℕ × List ℕ)
pending_after rest name edges = rest ++ last_first (map (child_of name) edges)

reached_here : (bytes : List ℕ) (met : List Bool) (seen rest : List (ℕ × List ℕ)) (p : ℕ) (name : List ℕ) (node : Node) (edges : List Edge)
    → IsNext bytes met seen rest p name node edges → Reaches bytes p name
reached_here bytes met seen rest p name node edges n = n.walked.pending_reached p name (Contains-push rest (p, name))

-- the marks
met_after : (bytes : List ℕ) (met : List Bool) (seen rest : List (ℕ × List ℕ)) (p : ℕ) (name : List ℕ) (node : Node) (edges : List Edge)
    → IsNext bytes met seen rest p name node edges → (q : ℕ) → get_or (set met p true) q false ≡ true
    → (x : List ℕ) × Contains (seen ++ (p, name) ∷ []) (q, x)
met_after bytes met seen rest p name node edges n q marked =
    elim (same_or_not q p) [
      | inl same ↦
          let P : ℕ → Type 0 = λ r. Contains (seen ++ (p, name) ∷ []) (r, name) in
          (name, subst P (sym same) (Contains-push seen (p, name)))
      | inr other ↦
          let old = n.walked.met_seen q (sym (get_or-set_other met p q true false other) ∙ marked) in
          (old.0, Contains-append_left seen ((p, name) ∷ []) (q, old.0) old.1)
    ]

-- a visit that was made isn't at the place
seen_elsewhere : (bytes : List ℕ) (met : List Bool) (seen rest : List (ℕ × List ℕ)) (p : ℕ) (name : List ℕ) (node : Node)
    (edges : List Edge)
    → IsNext bytes met seen rest p name node edges → (q : ℕ) (x : List ℕ) → Contains seen (q, x) → q ≢ p
seen_elsewhere bytes met seen rest p name node edges n q x c same =
    let marked : get_or met p false ≡ true = ap (λ (r : ℕ). get_or met r false) (sym same) ∙ n.walked.seen_met q x c in
    let both : true ≡ false = sym marked ∙ n.fresh in
    cc

marked_after : (bytes : List ℕ) (met : List Bool) (seen rest : List (ℕ × List ℕ)) (p : ℕ) (name : List ℕ) (node : Node) (edges : List Edge)
    → IsNext bytes met seen rest p name node edges → (q : ℕ) (x : List ℕ) → Contains (seen ++ (p, name) ∷ []) (q, x)
    → get_or (set met p true) q false ≡ true
marked_after bytes met seen rest p name node edges n q x c =
    elim (Contains-push_cases seen (p, name) (q, x) c) [
      | inl old ↦
          get_or-set_other met p q true false (seen_elsewhere bytes met seen rest p name node edges n q x old) ∙ n.walked.seen_met q x old
      | inr same ↦
          let here : p ≡ q = ap (λ (v : ℕ × List ℕ). v.0) same in
          ap (λ (r : ℕ). get_or (set met p true) r false) (sym here) ∙ get_or-set_same met p true false n.within
    ]

once_after : (bytes : List ℕ) (met : List Bool) (seen rest : List (ℕ × List ℕ)) (p : ℕ) (name : List ℕ) (node : Node) (edges : List Edge)
    → IsNext bytes met seen rest p name node edges → (q : ℕ) (x y : List ℕ) → Contains (seen ++ (p, name) ∷ []) (q, x)
    → Contains (seen ++ (p, name) ∷ []) (q, y) → x ≡ y
once_after bytes met seen rest p name node edges n q x y c d =
    elim (Contains-push_cases seen (p, name) (q, x) c) [
      | inl old ↦ elim (Contains-push_cases seen (p, name) (q, y) d) [
        | inl other ↦ n.walked.once q x y old other
        | inr same ↦ absurd (seen_elsewhere bytes met seen rest p name node edges n q x old (sym (ap (λ (v : ℕ × List ℕ). v.0) same)))
      ]
      | inr same ↦ elim (Contains-push_cases seen (p, name) (q, y) d) [
        | inl old ↦ absurd (seen_elsewhere bytes met seen rest p name node edges n q y old (sym (ap (λ (v : ℕ × List ℕ). v.0) same)))
        | inr other ↦ sym (ap (λ (v : ℕ × List ℕ). v.1) same) ∙ ap (λ (v : ℕ × List ℕ). v.1) other
      ]
    ]

-- the visits
seen_after : (bytes : List ℕ) (met : List Bool) (seen rest : List (ℕ × List ℕ)) (p : ℕ) (name : List ℕ) (node : Node) (edges : List Edge)
    → IsNext bytes met seen rest p name node edges → (q : ℕ) (x : List ℕ) → Contains (seen ++ (p, name) ∷ []) (q, x) → Reaches bytes q x
seen_after bytes met seen rest p name node edges n q x c =
    let P : ℕ × List ℕ → Type 0 = λ v. Reaches bytes v.0 v.1 in
    elim (Contains-push_cases seen (p, name) (q, x) c) [
      | inl old ↦ n.walked.seen_reached q x old
      | inr same ↦ subst P same (reached_here bytes met seen rest p name node edges n)
    ]

pending_next : (bytes : List ℕ) (met : List Bool) (seen rest : List (ℕ × List ℕ)) (p : ℕ) (name : List ℕ) (node : Node) (edges : List Edge)
    → IsNext bytes met seen rest p name node edges → (q : ℕ) (x : List ℕ) → Contains (pending_after rest name edges) (q, x)
    → Reaches bytes q x
pending_next bytes met seen rest p name node edges n q x c =
    let P : ℕ × List ℕ → Type 0 = λ v. Reaches bytes v.0 v.1 in
    elim (Contains-append_cases rest (last_first (map (child_of name) edges)) (q, x) c) [
      | inl old ↦ n.walked.pending_reached q x (Contains-append_left rest ((p, name) ∷ []) (q, x) old)
      | inr fresh ↦
          let from = turned_from (child_of name) edges (q, x) fresh in
          let edge = Contains-permutation edges node.edges from.0 (IsPermutation-sym node.edges edges n.moved) from.1 in
          subst P from.2 (next p name node from.0 (reached_here bytes met seen rest p name node edges n) n.is edge)
    ]

-- what was pending is pending still, or was visited
kept_on : (seen rest : List (ℕ × List ℕ)) (p : ℕ) (name : List ℕ) (edges : List Edge) (v : ℕ × List ℕ)
    → Contains seen v ⊎ Contains (rest ++ (p, name) ∷ []) v
    → Contains (seen ++ (p, name) ∷ []) v ⊎ Contains (pending_after rest name edges) v
kept_on seen rest p name edges v (inl old) = inl (Contains-append_left seen ((p, name) ∷ []) v old)
kept_on seen rest p name edges v (inr c) =
    let P : ℕ × List ℕ → Type 0 = λ w. Contains (seen ++ (p, name) ∷ []) w in
    elim (Contains-push_cases rest (p, name) v c) [
      | inl still ↦ inr (Contains-append_left rest (last_first (map (child_of name) edges)) v still)
      | inr same ↦ inl (subst P same (Contains-push seen (p, name)))
    ]

fine_after : (bytes : List ℕ) (met : List Bool) (seen rest : List (ℕ × List ℕ)) (p : ℕ) (name : List ℕ) (node : Node) (edges : List Edge)
    → IsNext bytes met seen rest p name node edges → (q : ℕ) (x : List ℕ) → Contains (seen ++ (p, name) ∷ []) (q, x)
    → IsFine bytes (seen ++ (p, name) ∷ []) (pending_after rest name edges) q x
fine_after bytes met seen rest p name node edges n q x c =
    let P : ℕ × List ℕ → Type 0 = λ v. IsFine bytes (seen ++ (p, name) ∷ []) (pending_after rest name edges) v.0 v.1 in
    elim (Contains-push_cases seen (p, name) (q, x) c) [
      | inl old ↦
          let f = n.walked.fine q x old in
          record {
            node = f.node;
            is = f.is;
            apart = f.apart;
            on = λ e edge. kept_on seen rest p name edges (e.child, x ++ e.label) (f.on e edge);
          }
      | inr same ↦ subst P same here
    ]
  where
    here : IsFine bytes (seen ++ (p, name) ∷ []) (pending_after rest name edges) p name
    here = record {
      node = node;
      is = n.is;
      apart = apart_rising node.edges edges n.moved n.rise;
      on = λ e edge.
          inr (Contains-append_right rest (last_first (map (child_of name) edges)) (child_of name e)
          (turned (child_of name) edges e (Contains-permutation node.edges edges e n.moved edge)));
    }

-- the order of names
before_after : (bytes : List ℕ) (met : List Bool) (seen rest : List (ℕ × List ℕ)) (p : ℕ) (name : List ℕ) (node : Node) (edges : List Edge)
    → IsNext bytes met seen rest p name node edges → (q r : ℕ) (x y : List ℕ) → Contains (seen ++ (p, name) ∷ []) (q, x)
    → Contains (pending_after rest name edges) (r, y) → IsBefore x y
before_after bytes met seen rest p name node edges n q r x y c d =
    let P : ℕ × List ℕ → Type 0 = λ v. IsBefore v.1 y in
    elim (Contains-push_cases seen (p, name) (q, x) c) [ inl old ↦ from_old old | inr same ↦ subst P same from_here ]
  where
    from_old : Contains seen (q, x) → IsBefore x y
    from_old old =
        let Q : ℕ × List ℕ → Type 0 = λ v. IsBefore x v.1 in
        elim (Contains-append_cases rest (last_first (map (child_of name) edges)) (r, y) d) [
          | inl still ↦ n.walked.before q r x y old (Contains-append_left rest ((p, name) ∷ []) (r, y) still)
          | inr fresh ↦
              let from = turned_from (child_of name) edges (r, y) fresh in
              subst Q from.2 (before_longer x name from.0.label (n.walked.before q p x name old (Contains-push rest (p, name))))
        ]

    from_here : IsBefore name y
    from_here =
        let Q : ℕ × List ℕ → Type 0 = λ v. IsBefore name v.1 in
        elim (Contains-append_cases rest (last_first (map (child_of name) edges)) (r, y) d) [
          | inl still ↦ before_parted name y (pair_of_last (λ v w. IsParted w.1 v.1) rest (r, y) (p, name) n.walked.parted still)
          | inr fresh ↦
              let from = turned_from (child_of name) edges (r, y) fresh in
              let some : 0 < length from.0.label = labelled from.0 from.1 in
              subst Q from.2 (before_more name from.0.label some)
        ]
      where
        labelled : (e : Edge) → Contains edges e → 0 < length e.label
        labelled e (k, within, is) =
            let S : Edge → Type 0 = λ f. 0 < length f.label in
            subst S is (n.rise.some k e within)

parted_after : (bytes : List ℕ) (met : List Bool) (seen rest : List (ℕ × List ℕ)) (p : ℕ) (name : List ℕ) (node : Node) (edges : List Edge)
    → IsNext bytes met seen rest p name node edges → AllPairs (λ v w. IsParted w.1 v.1) (pending_after rest name edges)
parted_after bytes met seen rest p name node edges n =
    pairs_turned (λ v w. IsParted w.1 v.1) (child_of name) rest edges
    (pairs_before (λ v w. IsParted w.1 v.1) rest (p, name) n.walked.parted)
    (λ v e old edge. parted_longer name v.1 e.label (pair_of_last (λ v w. IsParted w.1 v.1) rest v (p, name) n.walked.parted old))
    (λ i j d before within.
    parted_labels name (get_or edges i d).label (get_or edges j d).label (n.rise.some i d (omega arith)) (n.rise.some j d within)
    (n.rise.rise i j d before within))

pub one_more : (bytes : List ℕ) (met : List Bool) (seen rest : List (ℕ × List ℕ)) (p : ℕ) (name : List ℕ) (node : Node) (edges : List Edge)
    → IsNext bytes met seen rest p name node edges
    → IsWalked bytes (set met p true) (seen ++ (p, name) ∷ []) (pending_after rest name edges)
one_more bytes met seen rest p name node edges n = record {
  some = n.walked.some;
  long = length-set met p true ∙ n.walked.long;
  met_seen = met_after bytes met seen rest p name node edges n;
  seen_met = marked_after bytes met seen rest p name node edges n;
  once = once_after bytes met seen rest p name node edges n;
  seen_reached = seen_after bytes met seen rest p name node edges n;
  pending_reached = pending_next bytes met seen rest p name node edges n;
  fine = fine_after bytes met seen rest p name node edges n;
  before = before_after bytes met seen rest p name node edges n;
  parted = parted_after bytes met seen rest p name node edges n;
  root = kept_on seen rest p name edges (0, []) n.walked.root;
}
