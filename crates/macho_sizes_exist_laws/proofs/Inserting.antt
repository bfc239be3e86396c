-- A name is inserted into a radix tree that doesn't lead to it.
--
-- Of the edges of a node at most one begins as the name does. Where none does, the name gets an edge of its own, in front of
-- the first that begins with a greater byte. Else label and name have a front in common. If that is the whole label, the name
-- ends at the edge's child, where none ended, or what is left of it is inserted below. If it is the whole name, the label is
-- cut there, and the name ends at the new node. Else the label is cut too, and both what is left of it and what is left of the
-- name, which begin with different bytes, are edges of the new node.
use Rattle.std.proofs.Common.{◌≡◌, ◌⊎◌, ℕ, ◌+◌, ◌-◌, ◌<◌, ◌≤◌, List, [], ◌∷◌, ◌++◌, length, Option, Some, None, refl, sym, ap, ◌∙◌, subst, append_assoc, arith, inl, inr}
use Rattle.std.specs.Prelude.{slice_index, IsSome}
use Rattle.std.proofs.lemmas.List.{append-nil, length-append, get_or_append_left, get_or-append_right}
use Rattle.macho_trie.specs.Trees.{Edges, no_edge, edge, LeadsTo, edge_count, IsLabel, BeginsAbove, AreRadix}
use Rattle.macho_size_laws.proofs.Trees.{head_of}

-- the first byte of a name
abbrev pub head : List ℕ → ℕ
head name = slice_index name 0

-- edges with one name more
pub record Inserted (es : Edges) (name : List ℕ) (s : ℕ) : Type 0 where
  pub out : Edges
  pub radix : AreRadix out
  pub old : (n : List ℕ) (t : ℕ) → LeadsTo es n t → LeadsTo out n t
  pub new : LeadsTo out name s
  pub only : (n : List ℕ) (t : ℕ) → LeadsTo out n t → LeadsTo es n t ⊎ ((n ≡ name) × (t ≡ s))
  pub above : (byte : ℕ) → BeginsAbove byte es → byte < slice_index name 0 → BeginsAbove byte out
  pub count : edge_count es ≤ edge_count out

same_number : (s t : ℕ) → (let o : Option ℕ = Some s in o ≡ Some t) → t ≡ s
same_number s t e = cc

-- a name's own edge leads to it alone
own_edge : (name : List ℕ) (s : ℕ) (rest : Edges) → LeadsTo (edge name (Some s) no_edge rest) name s
own_edge name s rest = inl ([], sym (append-nil name), inl (refl, refl))

by_own : (name : List ℕ) (s : ℕ) (rest : Edges) (n : List ℕ) (t : ℕ) → LeadsTo (edge name (Some s) no_edge rest) n t
    → LeadsTo rest n t ⊎ ((n ≡ name) × (t ≡ s))
by_own name s rest n t (inl (left, e, inl (end, is))) =
    inr (e ∙ ap (λ (w : List ℕ). name ++ w) end ∙ append-nil name, same_number s t is)
by_own name s rest n t (inl (left, e, inr on)) = absurd on
by_own name s rest n t (inr later) = inl later

-- in front of edges that begin above it
pub in_front : (name : List ℕ) (s : ℕ) (es : Edges) → IsLabel name → BeginsAbove (head name) es → AreRadix es
    → (i : Inserted es name s) × (edge_count i.out ≡ 1 + edge_count es)
in_front name s es l above r = (
  record {
    out = edge name (Some s) no_edge es;
    radix = (l, inl refl, tt, above, r);
    old = λ n t h. inr h;
    new = own_edge name s es;
    only = by_own name s es;
    above = λ byte b h. h;
    count = omega arith;
  },
  refl,
)

-- among the later edges
pub later : (label : List ℕ) (symbol : Option ℕ) (below rest : Edges) (name : List ℕ) (s : ℕ) → AreRadix (edge label symbol below rest)
    → head label < head name → (i : Inserted rest name s)
    → (j : Inserted (edge label symbol below rest) name s) × (edge_count j.out ≡ 1 + edge_count i.out)
later label symbol below rest name s r low i = (
  record {
    out = edge label symbol below i.out;
    radix = (r.0, r.1, r.2, i.above (head label) r.3 low, i.radix);
    old = old;
    new = inr i.new;
    only = only;
    above = λ byte b h. b;
    count = omega (arith, i.count);
  },
  refl,
)
  where
    old : (n : List ℕ) (t : ℕ) → LeadsTo (edge label symbol below rest) n t → LeadsTo (edge label symbol below i.out) n t
    old n t (inl way) = inl way
    old n t (inr h) = inr (i.old n t h)

    only : (n : List ℕ) (t : ℕ) → LeadsTo (edge label symbol below i.out) n t
        → LeadsTo (edge label symbol below rest) n t ⊎ ((n ≡ name) × (t ≡ s))
    only n t (inl way) = inl (inl way)
    only n t (inr h) = elim (i.only n t h) [ inl o ↦ inl (inr o) | inr e ↦ inr e ]

-- below an edge
pub under : (label : List ℕ) (symbol : Option ℕ) (below rest : Edges) (left : List ℕ) (s : ℕ) → AreRadix (edge label symbol below rest)
    → Inserted below left s → Inserted (edge label symbol below rest) (label ++ left) s
under label symbol below rest left s r i = record {
  out = edge label symbol i.out rest;
  radix = (r.0, ends r.1, i.radix, r.3, r.4);
  old = old;
  new = inl (left, refl, inr i.new);
  only = only;
  above = λ byte b h. b;
  count = omega arith;
}
  where
    ends : IsSome symbol ⊎ (2 ≤ edge_count below) → IsSome symbol ⊎ (2 ≤ edge_count i.out)
    ends (inl some) = inl some
    ends (inr two) = inr (omega (arith, two, i.count))

    old : (n : List ℕ) (t : ℕ) → LeadsTo (edge label symbol below rest) n t → LeadsTo (edge label symbol i.out rest) n t
    old n t (inl (l, e, inl end)) = inl (l, e, inl end)
    old n t (inl (l, e, inr on)) = inl (l, e, inr (i.old l t on))
    old n t (inr h) = inr h

    only : (n : List ℕ) (t : ℕ) → LeadsTo (edge label symbol i.out rest) n t
        → LeadsTo (edge label symbol below rest) n t ⊎ ((n ≡ label ++ left) × (t ≡ s))
    only n t (inl (l, e, inl end)) = inl (inl (l, e, inl end))
    only n t (inl (l, e, inr on)) = elim (i.only l t on) [
      | inl o ↦ inl (inl (l, e, inr o))
      | inr same ↦ inr (e ∙ ap (λ (w : List ℕ). label ++ w) same.0, same.1)
    ]
    only n t (inr h) = inl (inr h)

-- at an edge's child, where no name ended
pub ending : (label : List ℕ) (below rest : Edges) (s : ℕ) → AreRadix (edge label None below rest)
    → Inserted (edge label None below rest) label s
ending label below rest s r = record {
  out = edge label (Some s) below rest;
  radix = (r.0, inl refl, r.2, r.3, r.4);
  old = old;
  new = inl ([], sym (append-nil label), inl (refl, refl));
  only = only;
  above = λ byte b h. b;
  count = omega arith;
}
  where
    old : (n : List ℕ) (t : ℕ) → LeadsTo (edge label None below rest) n t → LeadsTo (edge label (Some s) below rest) n t
    old n t (inl (l, e, inl (end, is))) = cc
    old n t (inl (l, e, inr on)) = inl (l, e, inr on)
    old n t (inr h) = inr h

    only : (n : List ℕ) (t : ℕ) → LeadsTo (edge label (Some s) below rest) n t
        → LeadsTo (edge label None below rest) n t ⊎ ((n ≡ label) × (t ≡ s))
    only n t (inl (l, e, inl (end, is))) = inr (e ∙ ap (λ (w : List ℕ). label ++ w) end ∙ append-nil label, same_number s t is)
    only n t (inl (l, e, inr on)) = inl (inl (l, e, inr on))
    only n t (inr h) = inl (inr h)

-- both parts of a label are labels
pub front_label : (front left : List ℕ) → IsLabel (front ++ left) → 1 ≤ length front → IsLabel front
front_label front left l some = record { some = some; plain = plain }
  where
    plain : (k : ℕ) → k < length front → (1 ≤ slice_index front k) × (slice_index front k < 256)
    plain k within =
        let is : slice_index (front ++ left) k ≡ slice_index front k = get_or_append_left front left 0 k within in
        let byte = l.plain k (omega (arith, within, length-append front left)) in
        (omega (arith, is, byte.0), omega (arith, is, byte.1))

pub back_label : (front left : List ℕ) → IsLabel (front ++ left) → 1 ≤ length left → IsLabel left
back_label front left l some = record { some = some; plain = plain }
  where
    plain : (k : ℕ) → k < length left → (1 ≤ slice_index left k) × (slice_index left k < 256)
    plain k within =
        let is : slice_index (front ++ left) (length front + k) ≡ slice_index left (length front + k - length front)
        = get_or-append_right front left (length front) (length front + k) 0 refl (omega arith) in
        let at_k : slice_index left (length front + k - length front) ≡ slice_index left k
        = ap (λ (j : ℕ). slice_index left j) (omega arith) in
        let byte = l.plain (length front + k) (omega (arith, within, length-append front left)) in
        (omega (arith, is, at_k, byte.0), omega (arith, is, at_k, byte.1))

above_front : (front left : List ℕ) (es : Edges) → 1 ≤ length front → BeginsAbove (head (front ++ left)) es → BeginsAbove (head front) es
above_front front left es some above = subst (λ (b : ℕ). BeginsAbove b es) (head_of front left some) above

-- where a name ends inside a label
pub shorter : (front left : List ℕ) (symbol : Option ℕ) (below rest : Edges) (s : ℕ) → 1 ≤ length front → 1 ≤ length left
    → AreRadix (edge (front ++ left) symbol below rest) → Inserted (edge (front ++ left) symbol below rest) front s
shorter front left symbol below rest s some more r = record {
  out = edge front (Some s) (edge left symbol below no_edge) rest;
  radix = (
    front_label front left r.0 some,
    inl refl,
    (back_label front left r.0 more, r.1, r.2, tt, tt),
    above_front front left rest some r.3,
    r.4,
  );
  old = old;
  new = inl ([], sym (append-nil front), inl (refl, refl));
  only = only;
  above = λ byte b h. h;
  count = omega arith;
}
  where
    old : (n : List ℕ) (t : ℕ) → LeadsTo (edge (front ++ left) symbol below rest) n t
        → LeadsTo (edge front (Some s) (edge left symbol below no_edge) rest) n t
    old n t (inl (l, e, way)) = inl (left ++ l, e ∙ append_assoc front left l, inr (inl (l, refl, way)))
    old n t (inr h) = inr h

    only : (n : List ℕ) (t : ℕ) → LeadsTo (edge front (Some s) (edge left symbol below no_edge) rest) n t
        → LeadsTo (edge (front ++ left) symbol below rest) n t ⊎ ((n ≡ front) × (t ≡ s))
    only n t (inl (l, e, inl (end, is))) = inr (e ∙ ap (λ (w : List ℕ). front ++ w) end ∙ append-nil front, same_number s t is)
    only n t (inl (l, e, inr (inl (m, f, way)))) =
        inl (inl (m, e ∙ ap (λ (w : List ℕ). front ++ w) f ∙ sym (append_assoc front left m), way))
    only n t (inl (l, e, inr (inr none))) = absurd none
    only n t (inr h) = inl (inr h)

-- where a name leaves a label
pub forked : (front a b : List ℕ) (symbol : Option ℕ) (below rest : Edges) (s : ℕ) → 1 ≤ length front
    → AreRadix (edge (front ++ a) symbol below rest) → (i : Inserted (edge a symbol below no_edge) b s) → 2 ≤ edge_count i.out
    → Inserted (edge (front ++ a) symbol below rest) (front ++ b) s
forked front a b symbol below rest s some r i two = record {
  out = edge front None i.out rest;
  radix = (front_label front a r.0 some, inr two, i.radix, above_front front a rest some r.3, r.4);
  old = old;
  new = inl (b, refl, inr i.new);
  only = only;
  above = λ byte low h. subst (λ (x : ℕ). byte < x) (head_of front b some) h;
  count = omega arith;
}
  where
    old : (n : List ℕ) (t : ℕ) → LeadsTo (edge (front ++ a) symbol below rest) n t → LeadsTo (edge front None i.out rest) n t
    old n t (inl (l, e, way)) = inl (a ++ l, e ∙ append_assoc front a l, inr (i.old (a ++ l) t (inl (l, refl, way))))
    old n t (inr h) = inr h

    only : (n : List ℕ) (t : ℕ) → LeadsTo (edge front None i.out rest) n t
        → LeadsTo (edge (front ++ a) symbol below rest) n t ⊎ ((n ≡ front ++ b) × (t ≡ s))
    only n t (inl (l, e, inl (end, is))) = cc
    only n t (inl (l, e, inr on)) = elim (i.only l t on) [
      | inl (inl (m, f, way)) ↦ inl (inl (m, e ∙ ap (λ (w : List ℕ). front ++ w) f ∙ sym (append_assoc front a m), way))
      | inl (inr none) ↦ absurd none
      | inr (same, number) ↦ inr (e ∙ ap (λ (w : List ℕ). front ++ w) same, number)
    ]
    only n t (inr h) = inl (inr h)
