-- The sizes of nodes follow the widths of edges.
--
-- The width of an edge counts in the size of the node that it leaves. Where it gets d bytes more, no node gets smaller, the node
-- that it leaves grows by d bytes, and all nodes together grow by d bytes. So no other node has another size, and the sizes are
-- kept by one sum. Each row but the first is a child of some row: else no size would change with its width, but their sum does.
-- So when the children of all rows are named, each has a parent.
use Rattle.std.proofs.Common.{◌≡◌, ◌⊎◌, ℕ, zero, suc, ◌+◌, ◌<◌, ◌≤◌, List, [], ◌∷◌, length, take, sum, map, set, slice_index, replicate, get_or, Option, refl, sym, ap, subst, ◌∙◌, arith, inl, inr}
use Rattle.std.specs.List.{range_with_len}
use Rattle.std.proofs.lemmas.Bool.{cases_lt}
use Rattle.std.proofs.lemmas.List.{length-set, length-replicate, get_or-set_same, get_or-set_other, ext_get_or, take_all}
use Rattle.std.proofs.lemmas.List.Sums.{sum_by-set}
use Rattle.macho_trie.specs.Trees.{Edges, no_edge, edge, node_count}
use Rattle.macho_trie.specs.steps.Trees.{IsOneTree, HasChild}
use Rattle.macho_trie.specs.Tables.{first_edges, label_of, symbol_at, row_at, trees_from, children_at}
use Rattle.macho_trie.specs.Encoding.{edges_size, node_sizes, place_of}
use Rattle.macho_trie.specs.declared.table.Row.{Row}
use Rattle.macho_trie.specs.declared.layout.Layout.{Layout}
use Rattle.macho_trie.specs.steps.Layouts.{names_at, size_at, tree_at, children_of, IsLaid, IsChild, AreNamed, AreParents, AreSizes, AreSums, ArePlaces, IsLookedAt}
use Rattle.macho_trie.proofs.Building.{node_count-rows}
use Rattle.macho_trie.proofs.Cursor.{IsCursor}
use Rattle.macho_trie.proofs.Sizes.{length-node_sizes, node_size_at}
use Rattle.macho_trie.proofs.Widths.{AreAtMost, sum-at_most, node_sizes-grow}
use Rattle.macho_trie.proofs.Raising.{IsRaised, raised_set, edges_size-apart, place-raised}
use Rattle.macho_bytes.proofs.Maps.{sum-cons}

-- numbers that are at most others are these, where their sum is not less
same_sum : (xs ys : List ℕ) → length xs ≡ length ys → AreAtMost xs ys → sum ys ≤ sum xs → ys ≡ xs
same_sum [] [] same most less = refl
same_sum [] (y ∷ ys) same most less = absurd (omega arith)
same_sum (x ∷ xs) [] same most less = absurd (omega arith)
same_sum (x ∷ xs) (y ∷ ys) same most less =
    let rest = sum-at_most xs ys most.1 in
    let first : y ≡ x = omega (arith, most.0, rest, sum-cons x xs, sum-cons y ys, less) in
    ap (λ (n : ℕ). n ∷ ys) first
    ∙ ap (λ (zs : List ℕ). x ∷ zs) (same_sum xs ys (omega arith) most.1 (omega (arith, most.0, sum-cons x xs, sum-cons y ys, less)))

at_most-set : (xs ys : List ℕ) (p v : ℕ) → AreAtMost xs ys → v ≤ slice_index ys p → AreAtMost (set xs p v) ys
at_most-set [] ys p v most there = tt
at_most-set (x ∷ xs) [] p v most there = absurd most
at_most-set (x ∷ xs) (y ∷ ys) zero v most there = (there, most.1)
at_most-set (x ∷ xs) (y ∷ ys) (suc p) v most there = (most.0, at_most-set xs ys p v most.1 there)

-- numbers of which one is d more, and all together too
one_more : (xs ys : List ℕ) (p d : ℕ) → length xs ≡ length ys → AreAtMost xs ys → p < length xs
    → slice_index ys p ≡ slice_index xs p + d
    → sum ys ≡ sum xs + d → ys ≡ set xs p (slice_index xs p + d)
one_more xs ys p d same most within there all =
    same_sum (set xs p (slice_index xs p + d)) ys (length-set xs p (slice_index xs p + d) ∙ same)
    (at_most-set xs ys p (slice_index xs p + d) most (omega (arith, there)))
    (omega (arith, all, sum_by-set (λ (x : ℕ). x) xs p (slice_index xs p + d) 0 within))

-- a wider edge makes no width less
raised_most : (width wider : ℕ → ℕ) (c d j : ℕ) → IsRaised width wider c d → width j ≤ wider j
raised_most width wider c d j r = elim (cases_lt j c) [
  | inl low ↦ omega (arith, r.other j (inl low))
  | inr high ↦
      elim (cases_lt c j) [
        | inl above ↦ omega (arith, r.other j (inr above))
        | inr equal ↦
            let is : c ≡ j = omega arith in
            let here : wider j ≡ width j + d = subst (λ (n : ℕ). wider n ≡ width n + d) is r.here in
            omega (arith, here)
      ]
]

child_low : (c i : ℕ) (es : Edges) → HasChild c i es → i ≤ c
child_low c i no_edge child = absurd child
child_low c i (edge label symbol below rest) (inl same) = omega (arith, same)
child_low c i (edge label symbol below rest) (inr later) = omega (arith, child_low c (i + (node_count below + 1)) rest later)

-- the width of a child counts among the edges
edges_size-child : (width wider : ℕ → ℕ) (c d i : ℕ) (es : Edges) → IsRaised width wider c d → i ≤ c → HasChild c i es
    → edges_size wider i es ≡ edges_size width i es + d
edges_size-child width wider c d i no_edge r low child = absurd child
edges_size-child width wider c d i (edge label symbol below rest) r low (inl same) =
    let top : wider i ≡ width i + d = subst (λ (n : ℕ). wider n ≡ width n + d) same r.here in
    omega (arith, top, edges_size-apart width wider c d (i + (node_count below + 1)) rest r (inl (omega (arith, same))))
edges_size-child width wider c d i (edge label symbol below rest) r low (inr later) =
    let behind : i + (node_count below + 1) ≤ c = child_low c (i + (node_count below + 1)) rest later in
    omega (
      arith,
      r.other i (inl (omega (arith, behind))),
      edges_size-child width wider c d (i + (node_count below + 1)) rest r behind later,
    )

-- and not among other edges
edges_size-other : (width wider : ℕ → ℕ) (c d i : ℕ) (es : Edges) → IsRaised width wider c d → (HasChild c i es → ⊥)
    → edges_size wider i es ≡ edges_size width i es
edges_size-other width wider c d i no_edge r none = refl
edges_size-other width wider c d i (edge label symbol below rest) r none =
    let rest_same = edges_size-other width wider c d (i + (node_count below + 1)) rest r (λ later. none (inr later)) in
    elim (cases_lt i c) [
      | inl low ↦ omega (arith, r.other i (inl low), rest_same)
      | inr high ↦
          elim (cases_lt c i) [
            | inl above ↦ omega (arith, r.other i (inr above), rest_same)
            | inr equal ↦ absurd (none (inl (omega arith)))
          ]
    ]

-- all nodes together grow by as much as an edge
sum-raised : (size : Option ℕ → ℕ) (width wider : ℕ → ℕ) (c d : ℕ) (tree : Edges) → IsOneTree tree → IsRaised width wider c d → 1 ≤ c
    → c < node_count tree → sum (node_sizes size wider 0 tree) ≡ sum (node_sizes size width 0 tree) + d
unfolding place_of
sum-raised size width wider c d tree one r some within =
    let all : (w : ℕ → ℕ) → sum (take (node_count tree) (node_sizes size w 0 tree)) ≡ sum (node_sizes size w 0 tree)
    = λ w. ap (λ (xs : List ℕ). sum xs) (take_all (node_count tree) (node_sizes size w 0 tree) (omega (
      arith,
      length-node_sizes size w 0
          tree,
    ))) in
    omega (arith, place-raised size width wider c d (node_count tree) tree one r some within (omega arith), all width, all wider)

-- an edge gets wider: the node that it leaves grows
sizes_raised : (l : Layout) (width wider : ℕ → ℕ) (p c d : ℕ) → IsLaid l → IsOneTree (tree_at l) → IsRaised width wider c d → 1 ≤ c
    → c < length l.rows.now → p < length l.rows.now → IsChild l p c → (sizes : List ℕ) → AreSizes l width sizes
    → AreSizes l wider (set sizes p (slice_index sizes p + d))
sizes_raised l width wider p c d laid one r some within there child sizes is =
    let nodes = node_count-rows (names_at l) l.rows.now in
    let xs : List ℕ = node_sizes (size_at l) width 0 (tree_at l) in
    let ys : List ℕ = node_sizes (size_at l) wider 0 (tree_at l) in
    let below : p + 1 ≤ c = child_low c (p + 1) (children_of l p) child in
    let at : slice_index ys p ≡ slice_index xs p + d = omega (
      arith,
      node_size_at (size_at l) width p (names_at l) l.rows.now laid there,
      node_size_at (size_at l) wider p (names_at l) l.rows.now laid there,
      edges_size-child width wider c d (p + 1) (children_of l p) r below child,
    ) in
    let more = one_more xs ys p d (length-node_sizes (size_at l) width 0 (tree_at l) ∙ sym (length-node_sizes (size_at l) wider 0
    (tree_at l)))
    (node_sizes-grow (size_at l) (size_at l) width wider 0 (tree_at l) (λ m. omega arith) (λ j a b. raised_most width wider c d j r))
    (omega (arith, length-node_sizes (size_at l) width 0 (tree_at l), nodes)) at
    (sum-raised (size_at l) width wider c d (tree_at l) one r some (omega (arith, nodes))) in
    ap (λ (zs : List ℕ). set zs p (slice_index zs p + d)) is ∙ sym more

-- one edge is looked at, and the size of the node that it leaves is kept
pub sizes_more : (l : Layout) (was now parents sizes next : List ℕ) (c place growth : ℕ) → IsLaid l → IsOneTree (tree_at l)
    → AreParents l parents → length was ≡ length l.rows.now → 1 ≤ c → c < length l.rows.now → IsLookedAt place c growth was now
    → next ≡ set sizes (slice_index parents c) (slice_index sizes (slice_index parents c) + growth)
    → AreSizes l (slice_index was) sizes → AreSizes l (slice_index now) next
sizes_more l was now parents sizes next c place growth laid one named long some within looked is before =
    is ∙ sizes_raised l (slice_index was) (slice_index now) (slice_index parents c) c growth laid one
    (raised_set was now c growth (omega (arith, long)) looked.only) some within (named.within c some within) (named.child c some within)
    sizes before

-- there is a size for each row
pub length-sizes : (l : Layout) (width : ℕ → ℕ) (sizes : List ℕ) → AreSizes l width sizes → length sizes ≡ length l.rows.now
length-sizes l width sizes is =
    ap (λ (xs : List ℕ). length xs) is ∙ length-node_sizes (size_at l) width 0 (tree_at l) ∙ node_count-rows (names_at l) l.rows.now

-- so the parent of a child has one
pub parent_sized : (l : Layout) (width : ℕ → ℕ) (parents sizes : List ℕ) (c : ℕ) → AreParents l parents → AreSizes l width sizes → 1 ≤ c
    → c < length l.rows.now → slice_index parents c < length sizes
parent_sized l width parents sizes c named is some within = omega (arith, named.within c some within, length-sizes l width sizes is)

-- each row but the first is a child
no_orphan : (l : Layout) (c : ℕ) → IsLaid l → IsOneTree (tree_at l) → 1 ≤ c → c < length l.rows.now
    → ((k : ℕ) → k < length l.rows.now → IsChild l k c → ⊥) → ⊥
no_orphan l c laid one some within none =
    let nodes = node_count-rows (names_at l) l.rows.now in
    let ws : List ℕ = replicate (length l.rows.now) 0 in
    let us : List ℕ = set ws c (slice_index ws c + 1) in
    let r = raised_set ws us c 1 (omega (arith, length-replicate {A = ℕ} (length l.rows.now) 0)) refl in
    let xs : List ℕ = node_sizes (size_at l) (slice_index ws) 0 (tree_at l) in
    let ys : List ℕ = node_sizes (size_at l) (slice_index us) 0 (tree_at l) in
    let long_x = length-node_sizes (size_at l) (slice_index ws) 0 (tree_at l) in
    let long_y = length-node_sizes (size_at l) (slice_index us) 0 (tree_at l) in
    let each : (k : ℕ) → k < length ys → get_or ys k 0 ≡ get_or xs k 0
    = λ k here. let there : k < length l.rows.now = omega (arith, here, long_y, nodes) in omega (
      arith,
      node_size_at (size_at l) (slice_index ws) k (names_at l) l.rows.now laid there,
      node_size_at (size_at l) (slice_index us) k (names_at l) l.rows.now laid there,
      edges_size-other (slice_index ws) (slice_index us) c 1 (k + 1) (children_of l k) r (none k there),
    ) in
    let same : ys ≡ xs = ext_get_or 0 ys xs (long_y ∙ sym long_x) each in
    absurd (omega (
      arith,
      ap (λ (zs : List ℕ). sum zs) same,
      sum-raised (size_at l) (slice_index ws) (slice_index us) c 1 (tree_at l) one r some (omega (arith, nodes)),
    ))

-- The children of a row are named, one after the other: those that are left are among all, and each that isn't left has its name.
pub record AreNaming (names : List (List ℕ)) (rows : List Row) (row left child : ℕ) (was now : List ℕ) : Type 0 where
  pub long : length now ≡ length was
  pub among : (c : ℕ) → HasChild c child (first_edges left (trees_from names rows child))
      → HasChild c (row + 1) (children_at names rows row)
  pub each : (c : ℕ) → ((slice_index now c ≡ row) × HasChild c (row + 1) (children_at names rows row))
      ⊎ ((slice_index now c ≡ slice_index was c)
      × (HasChild c (row + 1) (children_at names rows row) → HasChild c child (first_edges left (trees_from names rows child))))

pub naming_first : (names : List (List ℕ)) (rows : List Row) (row left : ℕ) (was : List ℕ) → left ≡ (row_at rows row).children
    → AreNaming names rows row left (row + 1) was was
naming_first names rows row left was all =
    let N : ℕ → Type 0 = λ n. AreNaming names rows row n (row + 1) was was in
    subst N (sym all) (record { long = refl; among = λ c h. h; each = λ c. inr (refl, λ h. h) })

pub naming_more : (names : List (List ℕ)) (rows : List Row) (row left k child : ℕ) (was now : List ℕ) → left ≡ suc k
    → IsCursor names rows k child (row_at rows child) → length was ≡ length rows → AreNaming names rows row left child was now
    → AreNaming names rows row k (row_at rows child).after was (set now child row)
naming_more names rows row left k child was now is at long n = record {
  long = length-set now child row ∙ n.long;
  among = λ c h. n.among c (into c (inr h));
  each = each;
}
  where
    here : Row
    here = row_at rows child

    next : child + (node_count (first_edges here.children (trees_from names rows (child + 1))) + 1) ≡ here.after
    next = omega (arith, at.after)

    Later : ℕ → Type 0
    Later c = HasChild c here.after (first_edges k (trees_from names rows here.after))

    split : first_edges left (trees_from names rows child) ≡ edge (label_of names here) (symbol_at here)
        (first_edges here.children (trees_from names rows (child + 1))) (first_edges k (trees_from names rows here.after))
    split = ap (λ (m : ℕ). first_edges m (trees_from names rows child)) is ∙ at.is

    into : (c : ℕ) → (c ≡ child) ⊎ Later c → HasChild c child (first_edges left (trees_from names rows child))
    into c h =
        let P : ℕ → Type 0 = λ m. HasChild c m (first_edges k (trees_from names rows here.after)) in
        let E : Edges → Type 0 = λ es. HasChild c child es in
        subst E (sym split) (elim h [ inl same ↦ inl same | inr later ↦ inr (subst P (sym next) later) ])

    out : (c : ℕ) → HasChild c child (first_edges left (trees_from names rows child)) → (c ≡ child) ⊎ Later c
    out c h =
        let P : ℕ → Type 0 = λ m. HasChild c m (first_edges k (trees_from names rows here.after)) in
        let E : Edges → Type 0 = λ es. HasChild c child es in
        let both : (c ≡ child)
        ⊎ HasChild c (child + (node_count (first_edges here.children (trees_from names rows (child + 1))) + 1))
        (first_edges k (trees_from names rows here.after)) = subst E split h in
        elim both [ inl same ↦ inl same | inr later ↦ inr (subst P next later) ]

    All : ℕ → Type 0
    All c = HasChild c (row + 1) (children_at names rows row)

    kept : (c : ℕ) → (c ≡ child → ⊥) → slice_index (set now child row) c ≡ slice_index now c
    kept c apart = get_or-set_other now child c row 0 apart

    away : (c : ℕ) → (c ≡ child → ⊥) → ((slice_index (set now child row) c ≡ row) × All c)
        ⊎ ((slice_index (set now child row) c ≡ slice_index was c) × (All c → Later c))
    away c apart = elim (n.each c) [
      | inl named ↦ inl (kept c apart ∙ named.0, named.1)
      | inr not_named ↦
          inr (
            kept c apart ∙ not_named.0,
            λ h. elim (out c (not_named.1 h)) [ inl same ↦ absurd (apart same) | inr later ↦ later ],
          )
    ]

    equal : (c : ℕ) → c ≡ child → (slice_index (set now child row) c ≡ row) × All c
    equal c same = (
      ap (λ (m : ℕ). slice_index (set now child row) m) same
          ∙ get_or-set_same now child row 0 (omega (arith, n.long, long, at.within)),
      n.among c (into c (inl same)),
    )

    each : (c : ℕ) → ((slice_index (set now child row) c ≡ row) × All c)
        ⊎ ((slice_index (set now child row) c ≡ slice_index was c) × (All c → Later c))
    each c = elim (cases_lt c child) [
      | inl low ↦ away c (λ e. absurd (omega (arith, e)))
      | inr high ↦
          elim (cases_lt child c) [
            | inl above ↦ away c (λ e. absurd (omega (arith, e)))
            | inr same ↦ inl (equal c (omega arith))
          ]
    ]

pub naming_last : (l : Layout) (row left child : ℕ) (was now : List ℕ) → left ≡ 0
    → AreNaming (names_at l) l.rows.now row left child was now → AreNamed l row was now
naming_last l row left child was now end n = record {
  long = n.long;
  each = λ c. elim (n.each c) [ inl named ↦ inl named | inr not_named ↦ inr (not_named.0, λ h. none c (not_named.1 h)) ];
}
  where
    none : (c : ℕ) → HasChild c child (first_edges left (trees_from (names_at l) l.rows.now child)) → ⊥
    none c h =
        let E : ℕ → Type 0 = λ m. HasChild c child (first_edges m (trees_from (names_at l) l.rows.now child)) in
        subst E end h

-- The children of the first rows are named: a row that has no parent yet is no child of them.
pub record AreNamedSoFar (l : Layout) (parents : List ℕ) (count : ℕ) : Type 0 where
  pub long : length parents ≡ length l.rows.now
  pub each : (c : ℕ) → ((slice_index parents c < length l.rows.now) × IsChild l (slice_index parents c) c)
      ⊎ ((k : ℕ) → k < count → IsChild l k c → ⊥)

pub named_first : (l : Layout) (parents : List ℕ) → length parents ≡ length l.rows.now → AreNamedSoFar l parents 0
named_first l parents long = record { long = long; each = λ c. inr (λ k h. absurd (omega (arith, h))) }

pub named_more : (l : Layout) (was now : List ℕ) (row : ℕ) → row < length l.rows.now → AreNamed l row was now
    → AreNamedSoFar l was row → AreNamedSoFar l now (row + 1)
named_more l was now row within n so = record { long = n.long ∙ so.long; each = each }
  where
    Good : ℕ → ℕ → Type 0
    Good c p = (p < length l.rows.now) × IsChild l p c

    each : (c : ℕ) → Good c (slice_index now c) ⊎ ((k : ℕ) → k < row + 1 → IsChild l k c → ⊥)
    each c = elim (n.each c) [
      | inl named ↦ inl (subst (Good c) (sym named.0) (within, named.1))
      | inr same ↦
          elim (so.each c) [
            | inl good ↦ inl (subst (Good c) (sym same.0) good)
            | inr none ↦
                inr (λ k h. elim (cases_lt k row) [
                  | inl less ↦ none k less
                  | inr most ↦ subst (λ (m : ℕ). IsChild l m c → ⊥) (omega (arith, h, most)) same.1
                ])
          ]
    ]

pub named_all : (l : Layout) (parents : List ℕ) (count : ℕ) → count ≡ length l.rows.now → IsLaid l → IsOneTree (tree_at l)
    → AreNamedSoFar l parents count → AreParents l parents
named_all l parents count all laid one so = record {
  long = so.long;
  within = λ c some within. (good c some within).0;
  child = λ c some within. (good c some within).1;
}
  where
    good : (c : ℕ) → 1 ≤ c → c < length l.rows.now → (slice_index parents c < length l.rows.now) × IsChild l (slice_index parents c) c
    good c some within = elim (so.each c) [
      | inl here ↦ here
      | inr none ↦ absurd (no_orphan l c laid one some within (λ k h. none k (omega (arith, h, all))))
    ]

-- the sums of the sizes are the places
pub sums_are_places : (l : Layout) (width : ℕ → ℕ) (sizes places : List ℕ) → AreSizes l width sizes → AreSums sizes places
    → ArePlaces l width places
unfolding place_of
sums_are_places l width sizes places is sums =
    let long : length (node_sizes (size_at l) width 0 (tree_at l)) ≡ length l.rows.now
    = length-node_sizes (size_at l) width 0 (tree_at l) ∙ node_count-rows (names_at l) l.rows.now in
    sums
    ∙ ap (λ (xs : List ℕ). map (λ (k : ℕ). sum (take k xs)) (range_with_len 0 (length xs + 1))) is
    ∙ ap (λ (n : ℕ). map (λ (k : ℕ). sum (take k (node_sizes (size_at l) width 0 (tree_at l)))) (range_with_len 0 (n + 1))) long
