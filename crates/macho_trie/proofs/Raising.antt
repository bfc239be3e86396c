-- A list of edges is worked off.
--
-- The width of an edge counts once in the sizes of all nodes: in the node that the edge leaves, which stands in front of its
-- child. So an edge that gets d bytes more moves its child, and all nodes behind that, by d bytes, and moves the others in front
-- of the child by d bytes or not at all. The edges of a list are looked at from the first child on, so the place of the next
-- child is its former place and all the bytes by which the edges before have grown.
use Rattle.std.proofs.Common.{◌≡◌, ◌⊎◌, ℕ, zero, suc, ◌+◌, ◌-◌, ◌<◌, ◌≤◌, List, [], ◌∷◌, ◌++◌, length, take, sum, map, set, slice_index, Option, refl, sym, ap, subst, ◌∙◌, arith, inl, inr}
use Rattle.std.specs.List.{range_with_len}
use Rattle.std.proofs.lemmas.Bool.{cases_lt}
use Rattle.std.proofs.lemmas.List.{length-set, set-get_or, get_or-set_same, get_or-set_other}
use Rattle.std.proofs.lemmas.List.Sums.{sum_by-cons, sum_by-append, sum_by-set}
use Rattle.macho_bytes.specs.Uleb.{uleb_of}
use Rattle.macho_trie.specs.Trees.{Edges, no_edge, edge, node_count}
use Rattle.macho_trie.specs.steps.Trees.{IsOneTree}
use Rattle.macho_trie.specs.Encoding.{edges_size, node_sizes, place_of}
use Rattle.macho_trie.specs.steps.Layouts.{AreListed, AreLow, IsNarrow, IsLookedAt}
use Rattle.macho_trie.proofs.Sizes.{length-node_sizes}
use Rattle.macho_trie.proofs.Widths.{low_raised, place_at}

-- one width is so many bytes more than the other
pub record IsRaised (width wider : ℕ → ℕ) (c d : ℕ) : Type 0 where
  pub here : wider c ≡ width c + d
  pub other : (j : ℕ) → (j < c) ⊎ (c < j) → wider j ≡ width j

-- one width of a list is set
pub raised_set : (was now : List ℕ) (c d : ℕ) → c < length was → now ≡ set was c (slice_index was c + d)
    → IsRaised (slice_index was) (slice_index now) c d
raised_set was now c d within is = record {
  here = ap (λ (ws : List ℕ). slice_index ws c) is ∙ get_or-set_same was c _ 0 within;
  other = λ j away. ap (λ (ws : List ℕ). slice_index ws j) is
      ∙ get_or-set_other was c j _ 0 (λ e. elim away [ inl low ↦ absurd (omega (arith, e)) | inr high ↦ absurd (omega (arith, e)) ]);
}

-- edges that lie apart from it have the sizes that they had
pub edges_size-apart : (width wider : ℕ → ℕ) (c d i : ℕ) (es : Edges) → IsRaised width wider c d → (c < i) ⊎ (i + node_count es ≤ c)
    → edges_size wider i es ≡ edges_size width i es
edges_size-apart width wider c d i no_edge r apart = refl
edges_size-apart width wider c d i (edge label symbol below rest) r apart =
    omega (
      arith,
      r.other i (elim apart [ inl low ↦ inr low | inr high ↦ inl (omega arith) ]),
      edges_size-apart width wider c d (i + (node_count below + 1)) rest r (elim apart
          [ inl low ↦ inl (omega arith) | inr high ↦ inr (omega arith) ]),
    )

take_zero : (k : ℕ) (ys : List ℕ) → k ≡ 0 → take k ys ≡ []
take_zero k ys none = ap (λ (n : ℕ). take n ys) none

take-both : (k : ℕ) (xs ys : List ℕ) → take k (xs ++ ys) ≡ take k xs ++ take (k - length xs) ys
take-both zero [] ys = refl
take-both zero (x ∷ xs) ys = sym (take_zero (0 - length (x ∷ xs)) ys (omega arith))
take-both (suc k) [] ys = let none : suc k ≡ suc k - 0 = omega arith in ap (λ (n : ℕ). take n ys) none
take-both (suc k) (x ∷ xs) ys =
    let same : k - length xs ≡ suc k - length (x ∷ xs) = omega arith in
    ap (λ (zs : List ℕ). x ∷ zs) (take-both k xs ys) ∙ ap (λ (n : ℕ). take (suc k) (x ∷ xs) ++ take n ys) same

abbrev front_size : (Option ℕ → ℕ) → (ℕ → ℕ) → ℕ → ℕ → Edges → ℕ
front_size size width i k es = sum (take k (node_sizes size width i es))

-- the sizes of the first nodes: the node in front, those below it, and those beside
front-edge : (size : Option ℕ → ℕ) (width : ℕ → ℕ) (i k : ℕ) (label : List ℕ) (symbol : Option ℕ) (below rest : Edges)
    → front_size size width i (suc k) (edge label symbol below rest)
    ≡ size symbol + 1 + edges_size width (i + 1) below
    + (front_size size width (i + 1) k below + front_size size width (i + (node_count below + 1)) (k - node_count below) rest)
front-edge size width i k label symbol below rest =
    let under : List ℕ = node_sizes size width (i + 1) below in
    let beside : List ℕ = node_sizes size width (i + (node_count below + 1)) rest in
    omega (
      arith,
      sum_by-cons (λ (x : ℕ). x) (size symbol + 1 + edges_size width (i + 1) below) (take k (under ++ beside)),
      ap sum (take-both k under beside),
      sum_by-append (λ (x : ℕ). x) (take k under) (take (k - length under) beside),
      ap (λ (n : ℕ). sum (take (k - n) beside)) (length-node_sizes size width (i + 1) below),
    )

front-apart : (size : Option ℕ → ℕ) (width wider : ℕ → ℕ) (c d i k : ℕ) (es : Edges) → IsRaised width wider c d
    → (c ≤ i) ⊎ (i + node_count es ≤ c)
    → front_size size wider i k es ≡ front_size size width i k es
front-apart size width wider c d i zero es r apart = refl
front-apart size width wider c d i (suc k) no_edge r apart = refl
front-apart size width wider c d i (suc k) (edge label symbol below rest) r apart =
    omega (
      arith,
      front-edge size width i k label symbol below rest,
      front-edge size wider i k label symbol below rest,
      edges_size-apart width wider c d (i + 1) below r (elim apart [ inl low ↦ inl (omega arith) | inr high ↦ inr (omega arith) ]),
      front-apart size width wider c d (i + 1) k below r (elim apart [ inl low ↦ inl (omega arith) | inr high ↦ inr (omega arith) ]),
      front-apart size width wider c d (i + (node_count below + 1)) (k - node_count below) rest r
          (elim apart [ inl low ↦ inl (omega arith) | inr high ↦ inr (omega arith) ]),
    )

-- among some edges and the nodes that they lead to, the width counts once
raised_once : (size : Option ℕ → ℕ) (width wider : ℕ → ℕ) (c d i k : ℕ) (es : Edges) → IsRaised width wider c d
    → i ≤ c → c < i + node_count es → c ≤ i + k
    → edges_size wider i es + front_size size wider i k es ≡ edges_size width i es + front_size size width i k es + d
raised_once size width wider c d i k no_edge r low high near = absurd (omega arith)
raised_once size width wider c d i zero (edge label symbol below rest) r low high near =
    let here : c ≡ i = omega arith in
    let top : wider i ≡ width i + d = subst (λ (n : ℕ). wider n ≡ width n + d) here r.here in
    omega (arith, top, edges_size-apart width wider c d (i + (node_count below + 1)) rest r (inl (omega arith)))
raised_once size width wider c d i (suc k) (edge label symbol below rest) r low high near =
    let j : ℕ = i + (node_count below + 1) in
    let first = front-edge size width i k label symbol below rest in
    let second = front-edge size wider i k label symbol below rest in
    elim (cases_lt i c) [
      | inr same ↦
          let here : c ≡ i = omega arith in
          let top : wider i ≡ width i + d = subst (λ (n : ℕ). wider n ≡ width n + d) here r.here in
          omega (
            arith,
            top,
            first,
            second,
            edges_size-apart width wider c d j rest r (inl (omega arith)),
            edges_size-apart width wider c d (i + 1) below r (inl (omega arith)),
            front-apart size width wider c d (i + 1) k below r (inl (omega arith)),
            front-apart size width wider c d j (k - node_count below) rest r (inl (omega arith)),
          )
      | inl behind ↦
          elim (cases_lt c j) [
            | inl under ↦
                omega (
                  arith,
                  first,
                  second,
                  r.other i (inl behind),
                  edges_size-apart width wider c d j rest r (inl under),
                  front-apart size width wider c d j (k - node_count below) rest r (inl (omega arith)),
                  raised_once size width wider c d (i + 1) k below r (omega arith) (omega arith) (omega arith),
                )
            | inr beside ↦
                omega (
                  arith,
                  first,
                  second,
                  r.other i (inl behind),
                  edges_size-apart width wider c d (i + 1) below r (inr (omega arith)),
                  front-apart size width wider c d (i + 1) k below r (inr (omega arith)),
                  raised_once size width wider c d j (k - node_count below) rest r beside (omega arith) (omega arith),
                )
          ]
    ]

-- so the child and all nodes behind it move by as many bytes
pub place-raised : (size : Option ℕ → ℕ) (width wider : ℕ → ℕ) (c d k : ℕ) (tree : Edges) → IsOneTree tree → IsRaised width wider c d
    → 1 ≤ c → c < node_count tree → c ≤ k → place_of size wider tree k ≡ place_of size width tree k + d
unfolding place_of
place-raised size width wider c d k no_edge one r some within near = absurd (omega arith)
place-raised size width wider c d k (edge label symbol below rest) one r some within near =
    let all : node_count rest ≡ 0 = ap node_count one in
    let once = raised_once size width wider c d 0 k (edge label symbol below rest) r (omega arith) (omega arith) (omega arith) in
    omega (
      arith,
      once,
      r.other 0 (inl some),
      edges_size-apart width wider c d (0 + (node_count below + 1)) rest r (inl (omega arith)),
    )

-- What is known when some edges of a list were looked at: how many bytes were added, what is known of the widths, and where the
-- other children of the list are.
pub record AreWidening (size : Option ℕ → ℕ) (tree : Edges) (places list was now : List ℕ) (i growth : ℕ) : Type 0 where
  pub long : length now ≡ length was
  pub low : AreLow size tree now
  pub more : sum now ≡ sum was + growth
  pub none : growth ≡ 0 → now ≡ was
  pub first : 1 ≤ i → IsNarrow places was (slice_index list 0) → 1 ≤ growth
  pub placed : (j : ℕ) → i ≤ j → j < length list
      → place_of size (slice_index now) tree (slice_index list j) ≡ slice_index places (slice_index list j) + growth

pub widening_first : (size : Option ℕ → ℕ) (tree : Edges) (places list was : List ℕ) (n : ℕ) → AreLow size tree was
    → places ≡ map (place_of size (slice_index was) tree) (range_with_len 0 (n + 1)) → AreListed n list
    → AreWidening size tree places list was was 0 0
widening_first size tree places list was n low at l = record {
  long = refl;
  low = low;
  more = omega arith;
  none = λ e. refl;
  first = λ some. absurd (omega arith);
  placed = λ j some within. omega (
    arith,
    place_at (place_of size (slice_index was) tree) places n (slice_index list j) at
        (omega (arith, l.child j 0 within)),
  );
}

-- one edge more is looked at
pub widening_more : (size : Option ℕ → ℕ) (tree : Edges) (places list was now next : List ℕ) (i n place child growth more : ℕ)
    → IsOneTree tree
    → node_count tree ≡ n → length was ≡ n → AreListed n list → i < length list
    → child ≡ slice_index list i → place ≡ slice_index places child + growth → IsLookedAt place child more now next
    → AreWidening size tree places list was now i growth → AreWidening size tree places list was next (i + 1) (growth + more)
widening_more size tree places list was now next i n place child growth more one nodes long l inside child_is place_is looked w = record {
  long = ap length looked.only ∙ length-set now child _ ∙ w.long;
  low = elim looked.need [
    | inl zero_more ↦ subst (λ (ws : List ℕ). AreLow size tree ws) (sym (same zero_more)) w.low
    | inr need ↦ low_raised size tree now next child w.low (changed need)
  ];
  more = omega (arith, w.more, summed);
  none = λ e. same (omega (arith, e)) ∙ w.none (omega (arith, e));
  first = first;
  placed = placed;
}
  where
    within : child < length now
    within = omega (arith, child_is, l.child i 0 inside, w.long, long)

    raised : IsRaised (slice_index now) (slice_index next) child more
    raised = raised_set now next child more within looked.only

    same : more ≡ 0 → next ≡ now
    same zero_more =
        looked.only ∙ ap (λ (m : ℕ). set now child (slice_index now child + m)) zero_more
        ∙ ap (λ (m : ℕ). set now child m) (omega arith) ∙ set-get_or now child 0

    here : place_of size (slice_index now) tree child ≡ place
    here = ap (λ (k : ℕ). place_of size (slice_index now) tree k) child_is ∙ w.placed i (omega arith) inside
        ∙ ap (λ (k : ℕ). slice_index places k + growth) (sym child_is) ∙ sym place_is

    changed : slice_index now child + more ≡ length (uleb_of place) → (k : ℕ) → (slice_index next k ≡ slice_index now k)
        ⊎ ((slice_index now k ≤ slice_index next k) × (k ≡ child) × (slice_index next k ≡ length
        (uleb_of (place_of size (slice_index now) tree child))))
    changed need k = elim (cases_lt k child) [
      | inl low ↦ inl (raised.other k (inl low))
      | inr high ↦
          elim (cases_lt child k) [
            | inl above ↦ inl (raised.other k (inr above))
            | inr equal ↦
                let is : k ≡ child = omega arith in
                let value : slice_index next k ≡ slice_index now k + more
                = subst (λ (m : ℕ). slice_index next m ≡ slice_index now m + more) (sym is) raised.here in
                inr (
                  omega (arith, value),
                  is,
                  omega (
                    arith,
                    ap (λ (m : ℕ). slice_index next m) is,
                    raised.here,
                    need,
                    ap
                        (λ (p : ℕ). length (uleb_of p)) here,
                  ),
                )
          ]
    ]

    summed : sum next ≡ sum now + more
    summed = omega (arith, ap sum looked.only, sum_by-set (λ (x : ℕ). x) now child (slice_index now child + more) 0 within)

    first : 1 ≤ i + 1 → IsNarrow places was (slice_index list 0) → 1 ≤ growth + more
    first some narrow = elim (cases_lt 0 i) [
      | inl later ↦ omega (arith, w.first later narrow)
      | inr now_first ↦
          elim (cases_lt 0 growth) [
            | inl grown ↦ omega arith
            | inr none ↦
                let zero_growth : growth ≡ 0 = omega arith in
                let head : child ≡ slice_index list 0 = child_is ∙ ap (λ (k : ℕ). slice_index list k) (omega arith) in
                let where_is : place ≡ slice_index places (slice_index list 0) = place_is
                ∙ omega (arith, zero_growth, ap (λ (k : ℕ). slice_index places k) head) in
                let width : slice_index now child ≡ slice_index was (slice_index list 0)
                = ap (λ (ws : List ℕ). slice_index ws child) (w.none zero_growth) ∙ ap (λ (k : ℕ). slice_index was k) head in
                omega (arith, looked.enough, ap (λ (p : ℕ). length (uleb_of p)) where_is, width, narrow.narrow)
          ]
    ]

    placed : (j : ℕ) → i + 1 ≤ j → j < length list
        → place_of size (slice_index next) tree (slice_index list j) ≡ slice_index places (slice_index list j) + (growth + more)
    placed j later inside_j =
        let behind : child < slice_index list j = omega (arith, child_is, l.rising i j 0 (omega arith) inside_j) in
        omega (
          arith,
          place-raised size (slice_index now) (slice_index next) child more (slice_index list j) tree one raised
              (omega (arith, child_is, (l.child i 0 inside).0)) (omega (arith, child_is, (l.child i 0 inside).1, nodes))
              (omega (arith, behind)),
          w.placed j (omega arith) inside_j,
        )
