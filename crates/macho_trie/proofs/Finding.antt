-- Look-up goes from node to node, and what it finds from a node on is what it finds from the next one on.
--
-- At a node with nothing left of the name, the relation's first rule alone can have held, since a step takes at least one
-- byte of what is left. With something left, the second rule alone can have held, and its edge is the one of the step.
-- So the answer from the node is the answer from the child, or none where there is no node or no step.
use Rattle.std.proofs.Common.{◌≡◌, ℕ, ◌+◌, List, [], ◌∷◌, length, take, drop, ◌-◌, slice_index, Option, Some, None, IfSome, refl, sym, ap, subst, ◌∙◌, arith}
use Rattle.std.specs.Option.{option_map, option_and_then}
use Rattle.std.specs.List.{find}
use Rattle.macho_trie.specs.Exports.{Exported, exported_of}
use Rattle.macho_trie.specs.declared.lookup.Export.{Export}
use Rattle.std.proofs.lemmas.List.{take_rest}
use Rattle.macho_trie.specs.Nodes.{Edge, Node, edges_at, terminal_at, node_at}
use Rattle.macho_trie.specs.Lookup.{leads, Finds, here, along}
use Rattle.macho_trie.specs.steps.Lookup.{step_of, step_among, IsStep, Visits}
use Rattle.macho_bytes.proofs.Comparing.{no_elements, same_some}

-- what maps to something is something
from_map : {X Y : Type 0} (f : X → Y) (o : Option X) (y : Y) → Some y ≡ option_map f o → (x : X) × (o ≡ Some x) × (y ≡ f x)
from_map f None y is = absurd (cc)
from_map f (Some x) y is = (x, refl, cc)

from_none : {X Y : Type 0} (f : X → Y) (o : Option X) → None ≡ option_map f o → o ≡ None
from_none f None is = refl
from_none f (Some x) is = absurd (cc)

not_both : {X : Type 0} (o : Option X) (x : X) → o ≡ None → o ≡ Some x → ⊥
not_both o x p q = cc

pub no_terminal : (bytes : List ℕ) (at : ℕ) → None ≡ terminal_at bytes at → node_at bytes at ≡ None
unfolding node_at
no_terminal bytes at none = rw (← none) refl

pub no_edges : (bytes rest : List ℕ) (at end : ℕ) (e : Option Exported) → Some (e, end) ≡ terminal_at bytes at
    → None ≡ option_map (step_among rest) (edges_at (slice_index bytes end) bytes (end + 1)) → node_at bytes at ≡ None
unfolding node_at
no_edges bytes rest at end e read none =
    let missing = from_none (step_among rest) (edges_at (slice_index bytes end) bytes (end + 1)) none in
    rw (← read) (rw missing refl)

pub visited : (bytes rest : List ℕ) (at end : ℕ) (e : Option Exported) (s : Option (ℕ × ℕ)) → Some (e, end) ≡ terminal_at bytes at
    → Some s ≡ option_map (step_among rest) (edges_at (slice_index bytes end) bytes (end + 1)) → Visits bytes at rest e s
unfolding node_at
visited bytes rest at end e s read is =
    let all = from_map (step_among rest) (edges_at (slice_index bytes end) bytes (end + 1)) s is in
    record { node = record { export = e; edges = all.0 }; is = seen all.0 all.1; exports = refl; leads_on = all.2 }
  where
    seen : (es : List Edge) → edges_at (slice_index bytes end) bytes (end + 1) ≡ Some es
        → option_and_then (λ t. option_map (λ es. (let n : Node = record { export = t.0; edges = es } in n)) (edges_at (slice_index
        bytes t.1) bytes (t.1 + 1)))
        (terminal_at bytes at) ≡ Some (record { export = e; edges = es })
    seen es read_es = rw (← read) (rw read_es refl)

pub nothing_found : (bytes rest : List ℕ) (at : ℕ) (x : Exported) → node_at bytes at ≡ None → Finds bytes x at rest → ⊥
nothing_found bytes rest at x none (here _ _ node is no_elements exports) = not_both (node_at bytes at) node none is
nothing_found bytes rest at x none (along _ _ node e is leading further) = not_both (node_at bytes at) node none is

-- the edge that a step is along
edge_of : (rest : List ℕ) (edges : List Edge) (s : ℕ × ℕ) → Some s ≡ step_among rest edges
    → (e : Edge) × (find (leads rest) edges ≡ Some e) × (s ≡ step_of e)
unfolding step_among
edge_of rest edges s is = from_map step_of (find (leads rest) edges) s is

step_is : (rest : List ℕ) (edges : List Edge) (e : Edge) → find (leads rest) edges ≡ Some e → step_among rest edges ≡ Some (step_of e)
unfolding step_among
step_is rest edges e is = rw is refl

-- a step of nothing isn't one
empty_step : (rest : List ℕ) (s : Option (ℕ × ℕ)) (t : ℕ × ℕ) → s ≡ Some t → IfSome s (IsStep rest) → IsStep rest t
empty_step rest s t is part = let P : Option (ℕ × ℕ) → Type 0 = λ o. IfSome o (IsStep rest) in subst P is part

-- the end of the name
pub answer_is : (bytes rest : List ℕ) (at : ℕ) (x : Exported) (e : Option Exported) (s : Option (ℕ × ℕ)) → Visits bytes at rest e s
    → IfSome s (IsStep rest)
    → length rest ≡ 0 → Finds bytes x at rest → e ≡ Some x
answer_is bytes rest at x e s v part end (here _ _ node is no_elements exports) =
    v.exports ∙ ap (λ (n : Node). n.export) (same_some (node_at bytes at) v.node node v.is is) ∙ exports
answer_is bytes rest at x e s v part end (along _ _ node edge is leading further) =
    let same : v.node ≡ node = same_some (node_at bytes at) v.node node v.is is in
    let step : s ≡ Some (step_of edge) = v.leads_on ∙ ap (λ (n : Node). step_among rest n.edges) same
    ∙ step_is rest node.edges edge leading in
    let taken = empty_step rest s (step_of edge) step part in
    absurd (omega (arith, taken))

pub answers : (bytes rest : List ℕ) (at : ℕ) (x : Exported) (s : Option (ℕ × ℕ)) → Visits bytes at rest (Some x) s → rest ≡ []
    → Finds bytes x at rest
answers bytes rest at x s v end = here at rest v.node v.is end (sym v.exports)

-- the way on
pub leads_back : (bytes rest : List ℕ) (at child taken : ℕ) (x : Exported) (e : Option Exported)
    → Visits bytes at rest e (Some (child, taken))
    → Finds bytes x child (drop taken rest) → Finds bytes x at rest
leads_back bytes rest at child taken x e v further =
    let edge = edge_of rest v.node.edges (child, taken) v.leads_on in
    let F : ℕ × ℕ → Type 0 = λ p. Finds bytes x p.0 (drop p.1 rest) in
    along at rest v.node edge.0 v.is edge.1 (subst F edge.2 further)

pub leads_to : (bytes rest : List ℕ) (at child taken : ℕ) (x : Exported) (e : Option Exported)
    → Visits bytes at rest e (Some (child, taken))
    → IsStep rest (child, taken) → Finds bytes x at rest → Finds bytes x child (drop taken rest)
leads_to bytes rest at child taken x e v part (here _ _ node is no_elements exports) = absurd (omega (arith, ap length no_elements))
leads_to bytes rest at child taken x e v part (along _ _ node edge is leading further) =
    let same : v.node ≡ node = same_some (node_at bytes at) v.node node v.is is in
    let step : Some (child, taken) ≡ Some (step_of edge)
    = v.leads_on ∙ ap (λ (n : Node). step_among rest n.edges) same ∙ step_is rest node.edges edge leading in
    let one : step_of edge ≡ (child, taken) = cc in
    let F : ℕ × ℕ → Type 0 = λ p. Finds bytes x p.0 (drop p.1 rest) in
    subst F one further

pub no_step : (bytes rest : List ℕ) (at : ℕ) (x : Exported) (e : Option Exported) → Visits bytes at rest e None → (length rest ≡ 0 → ⊥)
    → Finds bytes x at rest → ⊥
no_step bytes rest at x e v some (here _ _ node is no_elements exports) = some (ap length no_elements)
no_step bytes rest at x e v some (along _ _ node edge is leading further) =
    let same : v.node ≡ node = same_some (node_at bytes at) v.node node v.is is in
    let step : None ≡ Some (step_of edge) = v.leads_on ∙ ap (λ (n : Node). step_among rest n.edges) same
    ∙ step_is rest node.edges edge leading in
    cc

pub found_at_end : (bytes rest name : List ℕ) (at : ℕ) (e : Option Export) (s : Option (ℕ × ℕ))
    → Visits bytes at rest (option_map exported_of e) s
    → length rest ≡ 0 → ((x : Exported) → Finds bytes x at rest → Finds bytes x 0 name) → IfSome e (λ x. Finds bytes (exported_of x) 0 name)
found_at_end bytes rest name at None s v end back = tt
found_at_end bytes rest name at (Some x) s v end back = back (exported_of x)
    (answers bytes rest at (exported_of x) s v (no_elements rest end))

pub none_beyond : (bytes rest : List ℕ) (at : ℕ) (x : Exported) (e : Option Exported) (s : Option (ℕ × ℕ)) → Visits bytes at rest e s
    → s ≡ None
    → (length rest ≡ 0 → ⊥) → Finds bytes x at rest → ⊥
none_beyond bytes rest at x e s v none some f =
    let V : Option (ℕ × ℕ) → Type 0 = λ s. Visits bytes at rest e s in
    no_step bytes rest at x e (subst V none v) some f

-- the rest of a name behind a label, as a slice
abbrev pub behind_label : List ℕ → ℕ → List ℕ
behind_label rest taken = take (length rest - taken) (drop taken rest)

pub step_back : (bytes rest : List ℕ) (at child taken : ℕ) (x : Exported) (e : Option Exported) (s : Option (ℕ × ℕ))
    → Visits bytes at rest e s
    → s ≡ Some (child, taken) → Finds bytes x child (behind_label rest taken) → Finds bytes x at rest
step_back bytes rest at child taken x e s v is f =
    let V : Option (ℕ × ℕ) → Type 0 = λ s. Visits bytes at rest e s in
    let F : List ℕ → Type 0 = λ r. Finds bytes x child r in
    leads_back bytes rest at child taken x e (subst V is v) (subst F (take_rest rest taken) f)

pub step_on : (bytes rest : List ℕ) (at child taken : ℕ) (x : Exported) (e : Option Exported) (s : Option (ℕ × ℕ))
    → Visits bytes at rest e s
    → s ≡ Some (child, taken) → IfSome s (IsStep rest) → Finds bytes x at rest → Finds bytes x child (behind_label rest taken)
step_on bytes rest at child taken x e s v is part f =
    let V : Option (ℕ × ℕ) → Type 0 = λ s. Visits bytes at rest e s in
    let F : List ℕ → Type 0 = λ r. Finds bytes x child r in
    subst F (sym (take_rest rest taken)) (leads_to bytes rest at child taken x e (subst V is v) (empty_step rest s (child, taken) is
    part) f)
