-- Distinct names of bytes without a NUL have an exports trie, whatever is exported under them.
--
-- Beginning at the last, each name is inserted into the tree of those behind it, which doesn't lead to it. The empty name ends at
-- the root, and any other one is a label that is inserted below it. So the tree leads from each name to its number, and from
-- no other. The tree has least widths, and with them its nodes have places, and its bytes are told.
use Rattle.std.proofs.Common.{◌≡◌, ◌⊎◌, ℕ, zero, suc, ◌+◌, ◌<◌, List, [], ◌∷◌, length, map, get_or, Option, Some, None, refl, sym, ap, ◌∙◌, subst, arith, inl, inr}
use Rattle.std.specs.Prelude.{slice_index_or}
use Rattle.std.proofs.lemmas.List.{length-map, get_or-map}
use Rattle.macho_trie.specs.Exports.{Exported, as_value}
use Rattle.macho_trie.specs.Trees.{Edges, no_edge, edge, LeadsTo, IsLabel, AreRadix}
use Rattle.macho_trie.specs.Encoding.{says_of, terminal_size, place_of, tree_bytes, AreLeast, IsExportsTrie}
use Rattle.macho_sizes_exist_laws.specs.Names.{IsSpelled}
use Rattle.macho_sizes_exist_laws.proofs.Inserting.{Inserted}
use Rattle.macho_sizes_exist_laws.proofs.Splitting.{insert}
use Rattle.macho_sizes_exist_laws.proofs.Widths.{least_widths}

-- a name has a number among names that are counted from another one
abbrev pub Numbered : List (List ℕ) → ℕ → List ℕ → ℕ → Type 0
Numbered [] i name s = ⊥
Numbered (x ∷ names) i name s = ((x ≡ name) × (s ≡ i)) ⊎ Numbered names (i + 1) name s

-- each name is spelled, and no later one is the same
abbrev pub AreInsertable : List (List ℕ) → Type 0
AreInsertable [] = Unit {0}
AreInsertable (x ∷ names) = IsSpelled x × ((i t : ℕ) → Numbered names i x t → ⊥) × AreInsertable names

-- a name ends at the root of a tree, or leads on below it
abbrev RootLeads : Option ℕ → Edges → List ℕ → ℕ → Type 0
RootLeads symbol below name s = ((name ≡ []) × (symbol ≡ Some s)) ⊎ LeadsTo below name s

-- A tree of names that are counted from a number.
record IsTreeOf (names : List (List ℕ)) (i : ℕ) : Type 0 where
  symbol : Option ℕ
  below : Edges
  radix : AreRadix below
  leads : (name : List ℕ) (s : ℕ) → Numbered names i name s → RootLeads symbol below name s
  only : (name : List ℕ) (s : ℕ) → RootLeads symbol below name s → Numbered names i name s

no_names : (i : ℕ) → IsTreeOf [] i
no_names i = record {
  symbol = None;
  below = no_edge;
  radix = tt;
  leads = λ name s none. absurd none;
  only = only;
}
  where
    only : (name : List ℕ) (s : ℕ) → RootLeads None no_edge name s → ⊥
    only name s (inl (end, is)) = cc
    only name s (inr none) = none

-- the empty name too
with_empty : (names : List (List ℕ)) (i : ℕ) (symbol : Option ℕ) (below : Edges) → AreRadix below
    → ((t : ℕ) → Numbered names (i + 1) [] t → ⊥)
    → ((name : List ℕ) (s : ℕ) → Numbered names (i + 1) name s → RootLeads symbol below name s)
    → ((name : List ℕ) (s : ℕ) → RootLeads symbol below name s → Numbered names (i + 1) name s)
    → IsTreeOf ([] ∷ names) i
with_empty names i (Some t) below radix new leads only = absurd (new t (only [] t (inl (refl, refl))))
with_empty names i None below radix new leads only = record {
  symbol = Some i;
  below = below;
  radix = radix;
  leads = forth;
  only = back;
}
  where
    forth : (name : List ℕ) (s : ℕ) → Numbered ([] ∷ names) i name s → RootLeads (Some i) below name s
    forth name s (inl (is, number)) = inl (sym is, ap (λ (n : ℕ). let o : Option ℕ = Some n in o) (sym number))
    forth name s (inr later) = elim (leads name s later) [
      | inl (end, is) ↦ absurd cc
      | inr on ↦ inr on
    ]

    back : (name : List ℕ) (s : ℕ) → RootLeads (Some i) below name s → Numbered ([] ∷ names) i name s
    back name s (inl (end, is)) = inl (sym end, cc)
    back name s (inr on) = inr (only name s (inr on))

-- and any other one
with_name : (x : List ℕ) (names : List (List ℕ)) (i : ℕ) → IsLabel x → ((t : ℕ) → Numbered names (i + 1) x t → ⊥)
    → IsTreeOf names (i + 1) → IsTreeOf (x ∷ names) i
with_name x names i l new t = by (insert t.below t.radix x i l (λ s on. new s (t.only x s (inr on))))
  where
    by : Inserted t.below x i → IsTreeOf (x ∷ names) i
    by n = record { symbol = t.symbol; below = n.out; radix = n.radix; leads = forth; only = back }
      where
        forth : (name : List ℕ) (s : ℕ) → Numbered (x ∷ names) i name s → RootLeads t.symbol n.out name s
        forth name s (inl (is, number)) =
            let L : List ℕ → Type 0 = λ w. LeadsTo n.out w i in
            inr (subst (λ (m : ℕ). LeadsTo n.out name m) (sym number) (subst L is n.new))
        forth name s (inr later) = elim (t.leads name s later) [
          | inl end ↦ inl end
          | inr on ↦ inr (n.old name s on)
        ]

        back : (name : List ℕ) (s : ℕ) → RootLeads t.symbol n.out name s → Numbered (x ∷ names) i name s
        back name s (inl end) = inr (t.only name s (inl end))
        back name s (inr on) = elim (n.only name s on) [
          | inl old ↦ inr (t.only name s (inr old))
          | inr same ↦ inl (sym same.0, same.1)
        ]

tree_of : (names : List (List ℕ)) (i : ℕ) → AreInsertable names → IsTreeOf names i
tree_of [] i able = no_names i
tree_of ([] ∷ names) i able =
    let t = tree_of names (i + 1) able.2 in
    with_empty names i t.symbol t.below t.radix (able.1 (i + 1)) t.leads t.only
tree_of ((b ∷ bs) ∷ names) i able =
    with_name (b ∷ bs) names i (record { some = omega arith; plain = able.0 }) (able.1 (i + 1)) (tree_of names (i + 1) able.2)

-- the number of a name is its place
numbered_at : (names : List (List ℕ)) (i k : ℕ) (name : List ℕ) → k < length names → get_or names k [] ≡ name
    → Numbered names i name (i + k)
numbered_at [] i k name within is = absurd (omega (arith, within))
numbered_at (x ∷ names) i zero name within is = inl (is, omega arith)
numbered_at (x ∷ names) i (suc k) name within is =
    let next : i + 1 + k ≡ i + suc k = omega arith in
    inr (subst (λ (s : ℕ). Numbered names (i + 1) name s) next (numbered_at names (i + 1) k name (omega (arith, within)) is))

place_numbered : (names : List (List ℕ)) (i : ℕ) (name : List ℕ) (s : ℕ) → Numbered names i name s
    → (k : ℕ) × (s ≡ i + k) × (k < length names) × (get_or names k [] ≡ name)
place_numbered [] i name s none = absurd none
place_numbered (x ∷ names) i name s (inl (is, number)) = (0, omega (arith, number), omega arith, is)
place_numbered (x ∷ names) i name s (inr later) =
    let p = place_numbered names (i + 1) name s later in
    (suc p.0, omega (arith, p.1), omega (arith, p.2), p.3)

-- a root leads where its tree does
root_to : (symbol : Option ℕ) (below : Edges) (name : List ℕ) (s : ℕ) → RootLeads symbol below name s
    → LeadsTo (edge [] symbol below no_edge) name s
root_to symbol below name s (inl end) = inl (name, refl, inl end)
root_to symbol below name s (inr on) = inl (name, refl, inr on)

to_root : (symbol : Option ℕ) (below : Edges) (name : List ℕ) (s : ℕ) → LeadsTo (edge [] symbol below no_edge) name s
    → RootLeads symbol below name s
to_root symbol below name s (inl (left, e, inl end)) = inl (e ∙ end.0, end.1)
to_root symbol below name s (inl (left, e, inr on)) = inr (subst (λ (w : List ℕ). LeadsTo below w s) (sym e) on)
to_root symbol below name s (inr none) = absurd none

abbrev pub names_in : List (List ℕ × Exported) → List (List ℕ)
names_in symbols = map (λ p. p.0) symbols

-- THE trie of some symbols
pub trie_of : (symbols : List (List ℕ × Exported)) → AreInsertable (names_in symbols) → (bytes : List ℕ) × IsExportsTrie symbols bytes
trie_of symbols able = (
  tree_bytes (says_of symbols) (place_of size widths.0 tree) 0 tree,
  record {
    symbol = t.symbol;
    below = t.below;
    radix = t.radix;
    names = λ name s. (forth name s, back name s);
    width = widths.0;
    least = widths.1;
    text = refl;
  },
)
  where
    t : IsTreeOf (names_in symbols) 0
    t = tree_of (names_in symbols) 0 able

    size : Option ℕ → ℕ
    size = terminal_size (says_of symbols)

    tree : Edges
    tree = edge [] t.symbol t.below no_edge

    widths : (width : ℕ → ℕ) × AreLeast size width tree
    widths = least_widths size tree

    long : length (names_in symbols) ≡ length symbols
    long = length-map symbols (λ (p : List ℕ × Exported). p.0)

    forth : (name : List ℕ) (s : ℕ) → LeadsTo tree name s
        → (s < length symbols) × ((slice_index_or symbols s ([], as_value 0 0)).0 ≡ name)
    forth name s on =
        let p = place_numbered (names_in symbols) 0 name s (t.only name s (to_root t.symbol t.below name s on)) in
        let here : p.0 ≡ s = omega (arith, p.1) in
        let within : s < length symbols = omega (arith, p.2, here, long) in
        let is = get_or-map (λ (q : List ℕ × Exported). q.0) symbols s ([], as_value 0 0) [] within in
        (within, sym is ∙ ap (λ (k : ℕ). get_or (names_in symbols) k []) (sym here) ∙ p.3)

    back : (name : List ℕ) (s : ℕ) → (s < length symbols) × ((slice_index_or symbols s ([], as_value 0 0)).0 ≡ name) → LeadsTo tree name s
    back name s (within, named) =
        let is = get_or-map (λ (q : List ℕ × Exported). q.0) symbols s ([], as_value 0 0) [] within in
        let number = numbered_at (names_in symbols) 0 s name (omega (arith, within, long)) (is ∙ named) in
        root_to t.symbol t.below name s
        (t.leads name s (subst (λ (k : ℕ). Numbered (names_in symbols) 0 name k) (omega arith) number))
