-- Pending nodes keep a part of the last name, and so their names.
--
-- A pending node keeps no more of the last name than one that is visited before it. So when the name is cut for the next
-- visit, and its label put behind, what the others keep is still there. The children of the visit keep all of its name.
-- A place that is marked leaves less to do than its children bring.
use Rattle.std.proofs.Common.{◌≡◌, ℕ, ◌+◌, ◌<◌, ◌≤◌, Bool, true, false, List, [], ◌∷◌, ◌++◌, length, take, get_or, set, map, Contains}
use Rattle.std.proofs.Common.{refl, ap, ◌∙◌, arith}
use denote.Ref.{Bor}
use Rattle.std.specs.List.{sum_by}
use Rattle.std.proofs.lemmas.List.{length-append, length-take-le, map-append, take-append-le, take-take}
use Rattle.std.proofs.lemmas.List.Elements.{All-append, All-contains, Contains-get_or, Contains-push}
use Rattle.std.proofs.lemmas.List.Sums.{sum_by-set}
use Rattle.std.proofs.Math.Seq.{take-length}
use Rattle.macho_trie.specs.steps.Walking.{last_first, child_of}
use Rattle.macho_trie.specs.declared.names.Pending.{Pending}
use Rattle.macho_trie.specs.steps.Stacks.{edge_of, edges_of, pending_at, visit_of, AreKept, work_of}
use Rattle.macho_trie.proofs.Turning.{turned_from, pairs_before, pair_of_last, pairs_turned}
use Rattle.macho_bytes.proofs.Members.{contains_first, contains_behind}

kept_name : (k n : ℕ) (name label : List ℕ) → k ≤ n → n ≤ length name → take k (take n name ++ label) ≡ take k name
kept_name k n name label h within =
    let fits : k ≤ length (take n name) = omega (arith, length-take-le n name within) in
    take-append-le k (take n name) label fits ∙ take-take k n name h

-- the visits of what is still pending
same_visits : (name label : List ℕ) (n : ℕ) (rest : List Pending) → n ≤ length name → ((p : Pending) → Contains rest p → p.kept ≤ n)
    → map (visit_of (take n name ++ label)) rest ≡ map (visit_of name) rest
same_visits name label n [] within less = refl
same_visits name label n (p ∷ rest) within less =
    let one : visit_of (take n name ++ label) p ≡ visit_of name p
    = ap (λ (kept : List ℕ). let v : ℕ × List ℕ = (p.place, kept ++ p.label.now) in v)
    (kept_name p.kept n name label (less p (contains_first p rest)) within) in
    let others : map (visit_of (take n name ++ label)) rest ≡ map (visit_of name) rest
    = same_visits name label n rest within (λ q c. less q (contains_behind p q rest c)) in
    ap (λ (v : ℕ × List ℕ). v ∷ map (visit_of (take n name ++ label)) rest) one ∙ ap (λ (vs : List (ℕ × List ℕ)). visit_of name p ∷ vs)
    others

turned_map : {X Y : Type 0} (f : X → Y) (xs : List X) → map f (last_first xs) ≡ last_first (map f xs)
unfolding last_first
turned_map f [] = refl
turned_map f (x ∷ xs) = map-append f (last_first xs) (x ∷ []) ∙ ap (λ ys. ys ++ f x ∷ []) (turned_map f xs)

-- the visits of the children
child_visits : (name : List ℕ) (edges : List (Bor (List ℕ) × ℕ))
    → map (visit_of name) (map (pending_at (length name)) edges) ≡ map (child_of name) (edges_of edges)
child_visits name [] = refl
child_visits name (e ∷ edges) =
    let one : visit_of name (pending_at (length name) e) ≡ child_of name (edge_of e)
    = ap (λ (kept : List ℕ). let v : ℕ × List ℕ = (e.1, kept ++ e.0.now) in v) (take-length name) in
    ap (λ (v : ℕ × List ℕ). v ∷ map (visit_of name) (map (pending_at (length name)) edges)) one
    ∙ ap (λ (vs : List (ℕ × List ℕ)). child_of name (edge_of e) ∷ vs) (child_visits name edges)

-- all visits after one more
pub visits_after : (name label : List ℕ) (n : ℕ) (rest : List Pending) (edges : List (Bor (List ℕ) × ℕ)) → n ≤ length name
    → ((p : Pending) → Contains rest p → p.kept ≤ n)
    → (let now : List ℕ = take n name ++ label in
    map (visit_of now) (rest ++ last_first (map (pending_at (length now)) edges))
    ≡ map (visit_of name) rest ++ last_first (map (child_of now) (edges_of edges)))
visits_after name label n rest edges within less =
    let now : List ℕ = take n name ++ label in
    let children : List Pending = map (pending_at (length now)) edges in
    map-append (visit_of now) rest (last_first children)
    ∙ ap (λ (vs : List (ℕ × List ℕ)). vs ++ map (visit_of now) (last_first children)) (same_visits name label n rest within less)
    ∙ ap (λ (vs : List (ℕ × List ℕ)). map (visit_of name) rest ++ vs) (turned_map (visit_of now) children
    ∙ ap (λ (vs : List (ℕ × List ℕ)). last_first vs) (child_visits now edges))

pub last_within : (name : List ℕ) (rest : List Pending) (next : Pending) → AreKept name (rest ++ next ∷ []) → next.kept ≤ length name
last_within name rest next k =
    All-contains (λ (p : Pending). p.kept ≤ length name) (rest ++ next ∷ []) next k.within (Contains-push rest next)

-- what is kept after one more
pub kept_after : (name label : List ℕ) (rest : List Pending) (next : Pending) (edges : List (Bor (List ℕ) × ℕ))
    → AreKept name (rest ++ next ∷ [])
    → (let now : List ℕ = take next.kept name ++ label in AreKept now (rest ++ last_first (map (pending_at (length now)) edges)))
kept_after name label rest next edges k = record {
  within =
      All-append (λ (p : Pending). p.kept ≤ length now) rest (last_first (map (pending_at (length now)) edges))
      (λ i d h. omega (arith, old (get_or rest i d) (Contains-get_or rest i d h)))
      (λ i d h. fresh (get_or (last_first (map (pending_at (length now)) edges)) i d)
      (Contains-get_or (last_first (map (pending_at (length now)) edges)) i d h));
  rising =
      pairs_turned (λ p q. p.kept ≤ q.kept) (pending_at (length now)) rest edges (pairs_before (λ p q. p.kept ≤ q.kept) rest next k.rising)
      (λ p e c d. old p c) (λ i j d before within. omega arith);
}
  where
    now : List ℕ
    now = take next.kept name ++ label

    long : next.kept ≤ length now
    long = omega (arith, length-append (take next.kept name) label, length-take-le next.kept name (last_within name rest next k))

    old : (p : Pending) → Contains rest p → p.kept ≤ length now
    old p c = omega (arith, pair_of_last (λ p q. p.kept ≤ q.kept) rest p next k.rising c, long)

    fresh : (p : Pending) → Contains (last_first (map (pending_at (length now)) edges)) p → p.kept ≤ length now
    fresh p c =
        let from = turned_from (pending_at (length now)) edges p c in
        let same : length now ≡ p.kept = ap (λ (q : Pending). q.kept) from.2 in
        omega arith

-- less to do
pub work_marked : (met : List Bool) (p : ℕ) → p < length met → get_or met p false ≡ false
    → sum_by work_of (set met p true) + 256 ≡ sum_by work_of met
work_marked met p within fresh =
    let sums : sum_by work_of (set met p true) + work_of (get_or met p false) ≡ sum_by work_of met + work_of true
    = sum_by-set work_of met p true false within in
    let here : work_of (get_or met p false) ≡ 256 = ap work_of fresh in
    omega arith

pub pending_length : (rest : List Pending) (kept : ℕ) (edges : List (Bor (List ℕ) × ℕ))
    → length (rest ++ last_first (map (pending_at kept) edges)) ≡ length rest + length edges
unfolding last_first
pending_length rest kept [] = omega (arith, length-append rest [])
pending_length rest kept (e ∷ edges) =
    let shorter = pending_length rest kept edges in
    omega (
      arith,
      shorter,
      length-append rest (last_first (map (pending_at kept) edges)),
      length-append rest (last_first (map (pending_at kept) edges) ++ pending_at kept e ∷ []),
      length-append (last_first (map (pending_at kept) edges)) (pending_at kept e ∷ []),
    )
