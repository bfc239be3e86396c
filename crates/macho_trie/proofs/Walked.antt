-- The end of the walk, its lines, and what makes a trie malformed.
--
-- In the end nothing is pending. So all that the walk reaches was visited, by induction along its edges; each place was
-- visited once, and nothing is malformed. Then look-up finds what visits export, and the lines are the list of the names.
-- A line more keeps the lines in order, since the names of all visits are less than those that are pending. A pending
-- visit at a marked place has two names there, for the same reason.
use Rattle.std.proofs.Common.{◌≡◌, ℕ, Bool, true, false, List, [], ◌∷◌, ◌++◌, get_or}
use Rattle.std.proofs.Common.{Contains, Option, Some, None, append-nil, refl, sym, ap, subst, ◌∙◌, arith, inl, inr}
use Rattle.std.specs.List.{AllPairs}
use Rattle.std.proofs.lemmas.List.Elements.{Contains-append_left, Contains-push, Contains-push_cases, Contains-get_or}
use Rattle.std.proofs.lemmas.List.Elements.{Contains-append_cases, Contains-append_right}
use Rattle.std.proofs.lemmas.List.Quantifiers.{all_pairs_push}
use Rattle.macho_trie.specs.Exports.{Exported}
use Rattle.macho_trie.specs.Nodes.{Node, node_at}
use Rattle.macho_trie.specs.Lookup.{trie_finds, here}
use Rattle.macho_trie.specs.Walks.{Reaches, first, next, AreApart, IsMalformedAt, no_node, not_apart, twice}
use Rattle.macho_trie.specs.Lists.{AreExports}
use Rattle.macho_trie.specs.steps.Walking.{IsBefore, DoesExport, IsWalked, IsLined, line_if}
use Rattle.macho_trie.proofs.Parting.{before_itself}
use Rattle.macho_trie.proofs.Reaching.{arrives, found_back, same_node}
use Rattle.macho_bytes.proofs.Members.{nil_contains}

not_both : (o : Option Node) (x : Node) → o ≡ None → o ≡ Some x → ⊥
not_both o x p q = cc

-- all that the walk reaches was visited
all_seen : (bytes : List ℕ) (met : List Bool) (seen : List (ℕ × List ℕ)) → IsWalked bytes met seen [] → (p : ℕ) (name : List ℕ)
    → Reaches bytes p name → Contains seen (p, name)
all_seen bytes met seen w p name first = elim w.root [ inl c ↦ c | inr c ↦ absurd (nil_contains _ c) ]
all_seen bytes met seen w p name (next at before node e reached is edge) =
    let f = w.fine at before (all_seen bytes met seen w at before reached) in
    let E : Node → Type 0 = λ n. Contains n.edges e in
    elim (f.on e (subst E (same_node (node_at bytes at) node f.node is f.is) edge)) [ inl c ↦ c | inr c ↦ absurd (nil_contains _ c) ]

-- nothing is malformed
pub none_malformed : (bytes : List ℕ) (met : List Bool) (seen : List (ℕ × List ℕ)) → IsWalked bytes met seen [] → (p : ℕ)
    → IsMalformedAt bytes p → ⊥
none_malformed bytes met seen w p (some, no_node name reached none) =
    let f = w.fine p name (all_seen bytes met seen w p name reached) in
    not_both (node_at bytes p) f.node none f.is
none_malformed bytes met seen w p (some, not_apart name node reached is not) =
    let f = w.fine p name (all_seen bytes met seen w p name reached) in
    let A : Node → Type 0 = λ n. AreApart n.edges in
    not (subst A (same_node (node_at bytes p) f.node node f.is is) f.apart)
none_malformed bytes met seen w p (some, twice name other one two differ) =
    differ (w.once p name other (all_seen bytes met seen w p name one) (all_seen bytes met seen w p other two))

-- the lines are the list of the names
pub are_exports : (bytes : List ℕ) (met : List Bool) (seen : List (ℕ × List ℕ)) (lines : List (List ℕ × Exported))
    → IsWalked bytes met seen [] → IsLined bytes seen lines → AreExports bytes lines
are_exports bytes met seen lines w l = record {
  rising = l.rising;
  found = λ k d within. found (get_or lines k d) (Contains-get_or lines k d within);
  all = all;
}
  where
    fine : (p : ℕ) (n : List ℕ) → Reaches bytes p n → (node : Node) × (node_at bytes p ≡ Some node) × AreApart node.edges
    fine p n reached =
        let f = w.fine p n (all_seen bytes met seen w p n reached) in
        (f.node, f.is, f.apart)

    found : (line : List ℕ × Exported) → Contains lines line → trie_finds bytes line.0 line.1
    found line c =
        let visit = l.found line.0 line.1 c in
        let F : List ℕ → Type 0 = λ n. trie_finds bytes n line.1 in
        subst F (append-nil line.0)
        (found_back bytes line.1 visit.0 line.0 [] fine (w.seen_reached visit.0 line.0 visit.1)
        (here visit.0 [] visit.2.0 visit.2.1 refl visit.2.2))

    all : (name : List ℕ) (x : Exported) → trie_finds bytes name x → Contains lines (name, x)
    all name x finds =
        let end = arrives bytes x 0 name [] finds first in
        l.all end.0 name x (all_seen bytes met seen w end.0 name end.1) end.2

-- what is wrong at the place of the next visit
pub no_node_next : (bytes : List ℕ) (met : List Bool) (seen rest : List (ℕ × List ℕ)) (p : ℕ) (name : List ℕ)
    → IsWalked bytes met seen (rest ++ (p, name) ∷ []) → node_at bytes p ≡ None → IsMalformedAt bytes p
no_node_next bytes met seen rest p name w none = (w.some, no_node name (w.pending_reached p name (Contains-push rest (p, name))) none)

pub not_apart_next : (bytes : List ℕ) (met : List Bool) (seen rest : List (ℕ × List ℕ)) (p : ℕ) (name : List ℕ) (node : Node)
    → IsWalked bytes met seen (rest ++ (p, name) ∷ []) → node_at bytes p ≡ Some node → (AreApart node.edges → ⊥) → IsMalformedAt bytes p
not_apart_next bytes met seen rest p name node w is not =
    (w.some, not_apart name node (w.pending_reached p name (Contains-push rest (p, name))) is not)

pub met_next : (bytes : List ℕ) (met : List Bool) (seen rest : List (ℕ × List ℕ)) (p : ℕ) (name : List ℕ)
    → IsWalked bytes met seen (rest ++ (p, name) ∷ []) → get_or met p false ≡ true → IsMalformedAt bytes p
met_next bytes met seen rest p name w marked =
    let old = w.met_seen p marked in
    let less = w.before p p old.0 name old.1 (Contains-push rest (p, name)) in
    let B : List ℕ → Type 0 = λ n. IsBefore n name in (
      w.some,
      twice old.0 name (w.seen_reached p old.0 old.1) (w.pending_reached p name (Contains-push rest (p, name)))
          (λ same. before_itself name (subst B same less)),
    )

pub one_line_more : (bytes : List ℕ) (met : List Bool) (seen rest : List (ℕ × List ℕ)) (p : ℕ) (name : List ℕ) (node : Node)
    (lines : List (List ℕ × Exported)) → IsWalked bytes met seen (rest ++ (p, name) ∷ []) → node_at bytes p ≡ Some node → IsLined bytes
    seen lines
    → IsLined bytes (seen ++ (p, name) ∷ []) (lines ++ line_if name node.export)
one_line_more bytes met seen rest p name node lines w is l = record { rising = rising node.export; found = found; all = all }
  where
    rising : (o : Option Exported) → AllPairs (λ x y. IsBefore x.0 y.0) (lines ++ line_if name o)
    rising None =
        let P : List (List ℕ × Exported) → Type 0 = λ ls. AllPairs (λ x y. IsBefore x.0 y.0) ls in
        subst P (sym (append-nil lines)) l.rising
    rising (Some x) =
        all_pairs_push (λ x y. IsBefore x.0 y.0) lines (name, x) l.rising
        (λ k d within. less (get_or lines k d) (Contains-get_or lines k d within))
      where
        less : (line : List ℕ × Exported) → Contains lines line → IsBefore line.0 name
        less line c =
            let visit = l.found line.0 line.1 c in
            w.before visit.0 p line.0 name visit.1 (Contains-push rest (p, name))

    only : (o : Option Exported) (n : List ℕ) (x : Exported) → Contains (line_if name o) (n, x) → (name ≡ n) × (o ≡ Some x)
    only None n x c = absurd (nil_contains _ c)
    only (Some y) n x c =
        elim (Contains-push_cases [] (name, y) (n, x) c) [
          | inl none ↦ absurd (nil_contains _ none)
          | inr this ↦ (
            ap (λ (v : List ℕ × Exported). v.0) this,
            ap (λ (v : List ℕ × Exported). let o : Option Exported = Some v.1 in o) this,
          )
        ]

    found : (n : List ℕ) (x : Exported) → Contains (lines ++ line_if name node.export) (n, x)
        → (q : ℕ) × Contains (seen ++ (p, name) ∷ []) (q, n) × DoesExport bytes q x
    found n x c =
        elim (Contains-append_cases lines (line_if name node.export) (n, x) c) [
          | inl old ↦
              let f = l.found n x old in
              (f.0, Contains-append_left seen ((p, name) ∷ []) (f.0, n) f.1, f.2)
          | inr this ↦
              let same = only node.export n x this in
              let P : List ℕ → Type 0 = λ m. Contains (seen ++ (p, name) ∷ []) (p, m) in
              (p, subst P same.0 (Contains-push seen (p, name)), (node, is, same.1))
        ]

    listed : (o : Option Exported) (x : Exported) → o ≡ Some x → Contains (line_if name o) (name, x)
    listed None x e = absurd (cc)
    listed (Some y) x e =
        let same : y ≡ x = cc in
        (0, omega arith, ap (λ (z : Exported). let line : List ℕ × Exported = (name, z) in line) same)

    all : (q : ℕ) (n : List ℕ) (x : Exported) → Contains (seen ++ (p, name) ∷ []) (q, n) → DoesExport bytes q x
        → Contains (lines ++ line_if name node.export) (n, x)
    all q n x c (other, is_other, exports) =
        elim (Contains-push_cases seen (p, name) (q, n) c) [
          | inl old ↦ Contains-append_left lines (line_if name node.export) (n, x) (l.all q n x old (other, is_other, exports))
          | inr this ↦
              let there : node_at bytes q ≡ Some node = ap (λ (v : ℕ × List ℕ). node_at bytes v.0) (sym this) ∙ is in
              let this_one : node.export ≡ Some x
              = ap (λ (m : Node). m.export) (same_node (node_at bytes q) node other there is_other) ∙ exports in
              let P : List ℕ → Type 0 = λ m. Contains (lines ++ line_if name node.export) (m, x) in
              subst P (ap (λ (v : ℕ × List ℕ). v.1) this)
              (Contains-append_right lines (line_if name node.export) (name, x) (listed node.export x this_one))
        ]
