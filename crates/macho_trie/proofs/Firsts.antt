-- The first bytes of labels, one after the other.
--
-- Edges come in the order of their first bytes. As long as each is at or above one more than the last, they rise. The first
-- that isn't has no label, or begins with the byte of the one before it, since it begins with no lesser byte: such edges
-- may not stand together.
use Rattle.std.proofs.Common.{◌≡◌, ℕ, ◌+◌, ◌-◌, ◌<◌, ◌≤◌, List, [], ◌∷◌, length, get_or, slice_index, refl, sym, ap, subst, ◌∙◌}
use Rattle.std.proofs.Common.{arith, inl, inr, true, false, ◌==◌}
use denote.Ref.{Bor}
use Rattle.std.specs.List.Sorted.{IsNonDecreasingBy}
use Rattle.std.proofs.lemmas.Bool.{cases_lt}
use Rattle.std.proofs.lemmas.List.{get_or-map, get_or_default, length-map}
use Rattle.std.proofs.lemmas.Bool.Decides.{nat_tests}
use Rattle.macho_trie.specs.Nodes.{Edge}
use Rattle.macho_trie.specs.Walks.{AreApart}
use Rattle.macho_trie.specs.steps.Walking.{DoRise}
use Rattle.macho_trie.specs.steps.Stacks.{edge_of, edges_of, byte_of, DoRiseUpTo}

pub none_yet : (edges : List (Bor (List ℕ) × ℕ)) → DoRiseUpTo edges 0 0
none_yet edges = record {
  some = λ k d h. absurd (omega arith);
  rise = λ j k d before h. absurd (omega arith);
  below = λ k d h. absurd (omega arith);
  last = inl refl;
}

-- one edge more
pub one_more_rises : (edges : List (Bor (List ℕ) × ℕ)) (i least : ℕ) (e : Bor (List ℕ) × ℕ) → i < length edges → DoRiseUpTo edges i least
    → ((d : Bor (List ℕ) × ℕ) → get_or edges i d ≡ e) → 0 < length e.0.now → least ≤ byte_of e → DoRiseUpTo edges (i + 1) (byte_of e + 1)
one_more_rises edges i least e within r is some above =
    record { some = somes; rise = rise; below = below; last = inr (λ d. (omega arith, end d)) }
  where
    byte_is : (d : Bor (List ℕ) × ℕ) → byte_of (get_or edges i d) ≡ byte_of e
    byte_is d = ap byte_of (is d)

    somes : (k : ℕ) (d : Bor (List ℕ) × ℕ) → k < i + 1 → 0 < length (get_or edges k d).0.now
    somes k d h =
        elim (cases_lt k i) [
          | inl low ↦ r.some k d low
          | inr high ↦
              let here : k ≡ i = omega arith in
              let P : Bor (List ℕ) × ℕ → Type 0 = λ x. 0 < length x.0.now in
              subst P (sym (ap (λ (j : ℕ). get_or edges j d) here ∙ is d)) some
        ]

    below : (k : ℕ) (d : Bor (List ℕ) × ℕ) → k < i + 1 → byte_of (get_or edges k d) < byte_of e + 1
    below k d h =
        elim (cases_lt k i) [
          | inl low ↦ omega (arith, r.below k d low)
          | inr high ↦
              let here : k ≡ i = omega arith in
              let same : byte_of (get_or edges k d) ≡ byte_of e = ap (λ (j : ℕ). byte_of (get_or edges j d)) here ∙ byte_is d in
              omega arith
        ]

    rise : (j k : ℕ) (d : Bor (List ℕ) × ℕ) → j < k → k < i + 1 → byte_of (get_or edges j d) < byte_of (get_or edges k d)
    rise j k d before h =
        elim (cases_lt k i) [
          | inl low ↦ r.rise j k d before low
          | inr high ↦
              let here : k ≡ i = omega arith in
              let same : byte_of (get_or edges k d) ≡ byte_of e = ap (λ (n : ℕ). byte_of (get_or edges n d)) here ∙ byte_is d in
              omega (arith, r.below j d (omega arith))
        ]

    end : (d : Bor (List ℕ) × ℕ) → byte_of (get_or edges (i + 1 - 1) d) + 1 ≡ byte_of e + 1
    end d =
        let here : i + 1 - 1 ≡ i = omega arith in
        ap (λ (n : ℕ). byte_of (get_or edges n d) + 1) here ∙ ap (λ (n : ℕ). n + 1) (byte_is d)

edge_at_of : (edges : List (Bor (List ℕ) × ℕ)) (k : ℕ) (d : Edge) (e : Bor (List ℕ) × ℕ) → k < length edges
    → get_or (edges_of edges) k d ≡ edge_of (get_or edges k e)
edge_at_of edges k d e h = get_or-map edge_of edges k e d h

-- all edges
pub all_rise : (edges : List (Bor (List ℕ) × ℕ)) (end least : ℕ) → length edges ≤ end → DoRiseUpTo edges end least → DoRise (edges_of edges)
all_rise [] end least past r = record { some = λ k d h. absurd (omega arith); rise = λ i j d before h. absurd (omega arith) }
all_rise (x ∷ edges) end least past r = record { some = somes; rise = rise }
  where
    long : length (edges_of (x ∷ edges)) ≡ length (x ∷ edges)
    long = length-map (x ∷ edges) edge_of

    somes : (k : ℕ) (d : Edge) → k < length (edges_of (x ∷ edges)) → 0 < length (get_or (edges_of (x ∷ edges)) k d).label
    somes k d h =
        let within : k < length (x ∷ edges) = omega (arith, long) in
        let P : Edge → Type 0 = λ e. 0 < length e.label in
        subst P (sym (edge_at_of (x ∷ edges) k d x within)) (r.some k x (omega arith))

    rise : (i j : ℕ) (d : Edge) → i < j → j < length (edges_of (x ∷ edges))
        → slice_index (get_or (edges_of (x ∷ edges)) i d).label 0 < slice_index (get_or (edges_of (x ∷ edges)) j d).label 0
    rise i j d before h =
        let within : j < length (x ∷ edges) = omega (arith, long) in
        let first = ap (λ (e : Edge). slice_index e.label 0) (edge_at_of (x ∷ edges) i d x (omega arith)) in
        let second = ap (λ (e : Edge). slice_index e.label 0) (edge_at_of (x ∷ edges) j d x within) in
        let both = r.rise i j x before (omega arith) in
        let P : ℕ → Type 0 = λ n. n < slice_index (get_or (edges_of (x ∷ edges)) j d).label 0 in
        let Q : ℕ → Type 0 = λ n. byte_of (get_or (x ∷ edges) i x) < n in
        subst P (sym first) (subst Q (sym second) both)

-- the first edge that doesn't
pub no_label_joined : (edges : List (Bor (List ℕ) × ℕ)) (i : ℕ) (e : Bor (List ℕ) × ℕ) → i < length edges
    → ((d : Bor (List ℕ) × ℕ) → get_or edges i d ≡ e) → length e.0.now ≡ 0 → AreApart (edges_of edges) → ⊥
no_label_joined edges i e within is none a =
    let P : Edge → Type 0 = λ f. 0 < length f.label in
    let some : 0 < length e.0.now
    = subst P (edge_at_of edges i (edge_of e) e within ∙ ap edge_of (is e))
    (a.some i (edge_of e) (omega (arith, length-map edges edge_of))) in
    omega arith

pub same_byte_joined : (edges : List (Bor (List ℕ) × ℕ)) (i least : ℕ) (e : Bor (List ℕ) × ℕ) → i < length edges
    → IsNonDecreasingBy byte_of edges
    → DoRiseUpTo edges i least → ((d : Bor (List ℕ) × ℕ) → get_or edges i d ≡ e) → byte_of e < least → AreApart (edges_of edges) → ⊥
same_byte_joined edges i least e within order r is below a =
    elim r.last [
      | inl zero ↦ omega arith
      | inr last ↦
          let l = last e in
          let up = order (i - 1) i e (omega arith) within in
          let here : byte_of (get_or edges i e) ≡ byte_of e = ap byte_of (is e) in
          let same : byte_of (get_or edges (i - 1) e) ≡ byte_of (get_or edges i e) = omega arith in
          let long = length-map edges edge_of in
          a.apart (i - 1) i (edge_of e) (omega arith) (omega arith)
          (ap (λ (f : Edge). slice_index f.label 0) (edge_at_of edges (i - 1) (edge_of e) e (omega arith)) ∙ same
          ∙ sym (ap (λ (f : Edge). slice_index f.label 0) (edge_at_of edges i (edge_of e) e within)))
    ]

-- the same, by the tests on the edge at an index
pub one_more_tested : (edges : List (Bor (List ℕ) × ℕ)) (i least byte : ℕ) (d : Bor (List ℕ) × ℕ) → i < length edges
    → DoRiseUpTo edges i least
    → false ≡ (length (get_or edges i d).0.now == 0) → byte ≡ byte_of (get_or edges i d) → least ≤ byte
    → DoRiseUpTo edges (i + 1) (byte + 1)
one_more_tested edges i least byte d within r test is above =
    let e : Bor (List ℕ) × ℕ = get_or edges i d in
    let some : 0 < length e.0.now = grind (arith, nat_tests) in
    let P : ℕ → Type 0 = λ n. DoRiseUpTo edges (i + 1) (n + 1) in
    subst P (sym is) (one_more_rises edges i least e within r (λ c. get_or_default edges i c d within) some (omega arith))

pub no_label_tested : (edges : List (Bor (List ℕ) × ℕ)) (i : ℕ) (d : Bor (List ℕ) × ℕ) → i < length edges
    → true ≡ (length (get_or edges i d).0.now == 0) → AreApart (edges_of edges) → ⊥
no_label_tested edges i d within test a =
    let e : Bor (List ℕ) × ℕ = get_or edges i d in
    let none : length e.0.now ≡ 0 = grind (arith, nat_tests) in
    no_label_joined edges i e within (λ c. get_or_default edges i c d within) none a

pub byte_tested : (edges : List (Bor (List ℕ) × ℕ)) (i least byte : ℕ) (d : Bor (List ℕ) × ℕ) → i < length edges
    → IsNonDecreasingBy byte_of edges
    → DoRiseUpTo edges i least → byte ≡ byte_of (get_or edges i d) → byte < least → AreApart (edges_of edges) → ⊥
byte_tested edges i least byte d within order r is below a =
    same_byte_joined edges i least (get_or edges i d) within order r (λ c. get_or_default edges i c d within) (omega arith) a
