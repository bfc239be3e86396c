-- What look-up finds is what the walk reaches.
--
-- Look-up goes along edges, so where it ends the walk arrives, by the name that was looked up. The other way round let all
-- nodes that the walk reaches have edges that may stand together. A name that goes on with an edge's label is led along
-- this edge alone, since the others begin with other bytes. So, from the last edge of a way back to the first one, what
-- is found from a place that the walk reaches is found from the first byte, with the name of the place before it.
use Rattle.std.proofs.Common.{◌≡◌, ◌≢◌, ℕ, zero, suc, ◌<◌, ◌&&◌, nat_lt, nat_eq, Bool, true, false, List, [], ◌∷◌, ◌++◌, length}
use Rattle.std.proofs.Common.{drop, slice_index, Contains, Option, Some, if◌then◌else◌, append-nil, refl, sym, ap, subst, ◌∙◌, arith, append_assoc}
use Rattle.std.specs.List.{find, starts_with}
use Rattle.std.proofs.lemmas.Bool.{lt-ltb}
use Rattle.std.proofs.lemmas.List.{get_or_append_left}
use Rattle.std.proofs.lemmas.List.Elements.{All-tail, All-contains}
use Rattle.std.proofs.Math.Seq.{drop-append_seam}
use Rattle.macho_trie.specs.Exports.{Exported}
use Rattle.macho_trie.specs.Nodes.{Edge, Node, node_at}
use Rattle.macho_trie.specs.Lookup.{leads, Finds, here, along}
use Rattle.macho_trie.specs.Walks.{Reaches, first, next, AreApart}
use Rattle.macho_trie.specs.steps.Walking.{DoesExport}
use Rattle.macho_trie.proofs.Following.{begins-true, begins-is}
use Rattle.macho_bytes.proofs.Bools.{both_parts}

-- an edge that leads on
does_lead : (e : Edge) (rest : List ℕ) → 0 < length e.label → leads (e.label ++ rest) e ≡ true
does_lead e rest some = rw (lt-ltb 0 (length e.label) some) (begins-true e.label rest)

-- another edge doesn't
other_leads : (e other : Edge) (rest : List ℕ) → 0 < length e.label → 0 < length other.label
    → slice_index other.label 0 ≢ slice_index e.label 0
    → leads (e.label ++ rest) other ≡ false
other_leads e other rest some others differ =
    elim (leads (e.label ++ rest) other) as (λ b. leads (e.label ++ rest) other ≡ b → b ≡ false) [
      | false ↦ λ h. refl
      | true ↦ λ h.
          let begins = (both_parts (nat_lt 0 (length other.label)) (starts_with nat_eq (e.label ++ rest) other.label) h).1 in
          absurd (differ (sym (get_or_append_left other.label (drop (length other.label) (e.label ++ rest)) 0 0 others)
          ∙ sym (ap (λ (xs : List ℕ). slice_index xs 0) (begins-is other.label (e.label ++ rest) begins))
          ∙ get_or_append_left e.label rest 0 0 some))
    ] refl

rest_apart : (x : Edge) (edges : List Edge) → AreApart (x ∷ edges) → AreApart edges
rest_apart x edges a = record {
  some = All-tail (λ (e : Edge). 0 < length e.label) x edges a.some;
  apart = λ i j d before within. a.apart (suc i) (suc j) d (omega arith) (omega arith);
}

-- the edge of a label is the first that may be taken
pub is_taken : (edges : List Edge) (e : Edge) (rest : List ℕ) → AreApart edges → Contains edges e
    → find (leads (e.label ++ rest)) edges ≡ Some e
is_taken [] e rest a (k, within, is) = absurd (omega arith)
is_taken (x ∷ edges) e rest a (zero, within, is) =
    let P : Edge → Type 0 = λ y. leads (e.label ++ rest) y ≡ true in
    let lead : leads (e.label ++ rest) x ≡ true
    = subst P (sym is) (does_lead e rest (All-contains (λ (e : Edge). 0 < length e.label) (x ∷ edges) e a.some (zero, within, is))) in
    rw lead (ap (λ (y : Edge). let o : Option Edge = Some y in o) is)
is_taken (x ∷ edges) e rest a (suc k, within, is) =
    let some = All-contains (λ (e : Edge). 0 < length e.label) (x ∷ edges) e a.some (suc k, within, is) in
    let differ : slice_index x.label 0 ≢ slice_index e.label 0
    = λ same. a.apart 0 (suc k) e (omega arith) within (same ∙ ap (λ (y : Edge). slice_index y.label 0) (sym is)) in
    let no = other_leads e x rest some (a.some 0 x (omega arith)) differ in
    rw no (is_taken edges e rest (rest_apart x edges a) (k, omega arith, is))

-- an edge that is taken is one of the node, and the name begins with its label
found_in : (rest : List ℕ) (edges : List Edge) (e : Edge) → find (leads rest) edges ≡ Some e → Contains edges e × (leads rest e ≡ true)
found_in rest [] e h = absurd (cc)
found_in rest (x ∷ edges) e h =
    elim (leads rest x) as (λ b. leads rest x ≡ b → (if b then Some x else find (leads rest) edges) ≡ Some e
    → Contains (x ∷ edges) e × (leads rest e ≡ true)) [
      | true ↦ λ lead is.
          let same : x ≡ e = cc in
          let P : Edge → Type 0 = λ y. leads rest y ≡ true in
          ((0, omega arith, same), subst P same lead)
      | false ↦ λ lead is.
          let deeper = found_in rest edges e is in
          ((suc deeper.0.0, omega (arith, deeper.0.1), deeper.0.2), deeper.1)
    ] refl h

pub same_node : (o : Option Node) (x y : Node) → o ≡ Some x → o ≡ Some y → x ≡ y
same_node o x y p q = cc

-- look-up ends where the walk arrives
pub arrives : (bytes : List ℕ) (x : Exported) (at : ℕ) (rest name : List ℕ) → Finds bytes x at rest → Reaches bytes at name
    → (p : ℕ) × Reaches bytes p (name ++ rest) × DoesExport bytes p x
arrives bytes x at rest name (here _ _ node is empty exports) reached =
    let P : List ℕ → Type 0 = λ n. Reaches bytes at n in
    (at, subst P (sym (ap (λ (n : List ℕ). name ++ n) empty ∙ append-nil name)) reached, (node, is, exports))
arrives bytes x at rest name (along _ _ node e is leading further) reached =
    let taken = found_in rest node.edges e leading in
    let begins = (both_parts (nat_lt 0 (length e.label)) (starts_with nat_eq rest e.label) taken.1).1 in
    let deeper = arrives bytes x e.child (drop (length e.label) rest) (name ++ e.label) further (next at name node e reached is taken.0) in
    let P : List ℕ → Type 0 = λ n. Reaches bytes deeper.0 n in
    let joined : (name ++ e.label) ++ drop (length e.label) rest ≡ name ++ rest
    = append_assoc name e.label (drop (length e.label) rest) ∙ sym (ap (λ (n : List ℕ). name ++ n) (begins-is e.label rest begins)) in
    (deeper.0, subst P joined deeper.1, deeper.2)

-- what is found from where the walk arrives is found from the first byte
pub found_back : (bytes : List ℕ) (x : Exported) (at : ℕ) (name rest : List ℕ)
    → ((p : ℕ) (n : List ℕ) → Reaches bytes p n → (node : Node) × (node_at bytes p ≡ Some node) × AreApart node.edges)
    → Reaches bytes at name → Finds bytes x at rest → Finds bytes x 0 (name ++ rest)
found_back bytes x at name rest fine first found = found
found_back bytes x at name rest fine (next before begun node e reached is edge) found =
    let known = fine before begun reached in
    let A : Node → Type 0 = λ n. AreApart n.edges in
    let apart : AreApart node.edges = subst A (same_node (node_at bytes before) known.0 node known.1 is) known.2 in
    let F : List ℕ → Type 0 = λ n. Finds bytes x e.child n in
    let from : Finds bytes x before (e.label ++ rest)
    = along before (e.label ++ rest) node e is (is_taken node.edges e rest apart edge)
    (subst F (sym (drop-append_seam e.label rest)) found) in
    let whole = found_back bytes x before begun (e.label ++ rest) fine reached from in
    let G : List ℕ → Type 0 = λ n. Finds bytes x 0 n in
    subst G (sym (append_assoc begun e.label rest)) whole
