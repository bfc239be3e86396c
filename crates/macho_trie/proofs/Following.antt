-- Look-up where the nodes of a radix tree stand.
--
-- A name that leads to a symbol begins with an edge's label. No edge before it has a label that the name begins with, since
-- labels begin with different bytes. So that edge is the first, and what is left of the name is found from its child on.
-- The other way round, the edge that is taken is one of the tree, its label is the name's beginning, and what is found
-- from its child on is what the rest leads to.
use Rattle.std.proofs.Common.{◌≡◌, ◌⊎◌, ℕ, ◌+◌, ◌<◌, ◌≤◌, ◌&&◌, nat_lt, nat_eq, Bool, true, false, List, [], ◌++◌, length, take, drop, slice_index, Option, Some, None, refl, sym, ap, subst, ◌∙◌, arith, inl, inr}
use lib.Pointwise.{pointwise, bytes_decides}
use Rattle.std.specs.Option.{option_map}
use Rattle.std.specs.List.{find, starts_with}
use Rattle.std.proofs.lemmas.Bool.{lt-ltb}
use Rattle.std.proofs.lemmas.List.{length-append, get_or_append_left, take-append-drop}
use Rattle.std.proofs.Math.Seq.{take-append_seam, drop-append_seam}
use Rattle.macho_trie.specs.Exports.{Exported}
use Rattle.macho_trie.specs.Nodes.{Edge, Node, node_at}
use Rattle.macho_trie.specs.Lookup.{leads, Finds, here, along}
use Rattle.macho_trie.specs.Trees.{Edges, no_edge, edge, LeadsTo, node_count, IsLabel, BeginsAbove, AreRadix}
use Rattle.macho_trie.proofs.Readback.{edge_list, node_of}
use Rattle.macho_bytes.proofs.Comparing.{same_some}

-- the nodes stand at their places
abbrev pub AllStand : List ℕ → (ℕ → Exported) → (ℕ → ℕ) → ℕ → Edges → Type 0
AllStand bytes says place i no_edge = Unit {0}
AllStand bytes says place i (edge label symbol below rest) =
    (node_at bytes (place i) ≡ Some (node_of says place i symbol below)) × AllStand bytes says place (i + 1) below
    × AllStand bytes says place (i + (node_count below + 1)) rest

-- an edge is taken where the name begins with its label
pub begins-true : (label left : List ℕ) → starts_with nat_eq (label ++ left) label ≡ true
begins-true label left = ap (λ (xs : List ℕ). pointwise nat_eq label xs) (take-append_seam label left) ∙ (bytes_decides label label).1 refl

pub begins-is : (label name : List ℕ) → starts_with nat_eq name label ≡ true → name ≡ label ++ drop (length label) name
begins-is label name begins =
    let cut : label ≡ take (length label) name = (bytes_decides label (take (length label) name)).0 begins in
    sym (take-append-drop (length label) name) ∙ ap (λ (xs : List ℕ). xs ++ drop (length label) name) (sym cut)

taken : (label left : List ℕ) (child : ℕ) → IsLabel label → leads (label ++ left) (record { label = label; child = child }) ≡ true
taken label left child l = rw (lt-ltb 0 (length label) l.some) (begins-true label left)

-- a name that leads on among edges begins with a byte above those before them
leads_above : (byte : ℕ) (es : Edges) (name : List ℕ) (s : ℕ) → AreRadix es → BeginsAbove byte es → LeadsTo es name s
    → (1 ≤ length name) × (byte < slice_index name 0)
leads_above byte no_edge name s r b l = absurd l
leads_above byte (edge label symbol below rest) name s r b (inl (left, is, further)) =
    let first : slice_index name 0 ≡ slice_index label 0
    = ap (λ (xs : List ℕ). slice_index xs 0) is ∙ get_or_append_left label left 0 0 r.0.some in
    (omega (arith, ap length is, length-append label left, r.0.some), omega (arith, first))
leads_above byte (edge label symbol below rest) name s r b (inr other) =
    let h = leads_above (slice_index label 0) rest name s r.4 r.3 other in
    (h.0, omega (arith, h.1))

-- such a name isn't begun by the label of an edge before
not_taken : (label name : List ℕ) (child : ℕ) → IsLabel label → slice_index label 0 < slice_index name 0
    → leads name (record { label = label; child = child }) ≡ false
not_taken label name child l above =
    elim (starts_with nat_eq name label) as (λ b. starts_with nat_eq name label ≡ b → (nat_lt 0 (length label) && b) ≡ false) [
      | false ↦ λ e. and_false (nat_lt 0 (length label))
      | true ↦ λ e.
          let first : slice_index name 0 ≡ slice_index label 0
          = ap (λ (xs : List ℕ). slice_index xs 0) (begins-is label name e) ∙ get_or_append_left label (drop (length label) name) 0 0
          l.some in
          absurd (omega arith)
    ] refl
  where
    and_false : (b : Bool) → (b && false) ≡ false
    and_false true = refl
    and_false false = refl

-- The edge that is taken, and what is found from its child on.
pub record IsTaken (bytes : List ℕ) (x : Exported) (name : List ℕ) (edges : List Edge) : Type 0 where
  pub edge : Edge
  pub first : find (leads name) edges ≡ Some edge
  pub further : Finds bytes x edge.child (drop (length edge.label) name)

-- the first edge is taken where the name begins with its label
begun : (bytes : List ℕ) (x : Exported) (place : ℕ → ℕ) (i : ℕ) (label name left : List ℕ) (symbol : Option ℕ) (below rest : Edges)
    → name ≡ label ++ left
    → IsLabel label → Finds bytes x (place i) left → IsTaken bytes x name (edge_list place i (edge label symbol below rest))
begun bytes x place i label name left symbol below rest is l f =
    let yes_leads : leads name (record { label = label; child = place i }) ≡ true
    = ap (λ (n : List ℕ). leads n (record { label = label; child = place i })) is ∙ taken label left (place i) l in
    let behind : left ≡ drop (length label) name = sym (ap (λ (n : List ℕ). drop (length label) n) is ∙ drop-append_seam label left) in
    let F : List ℕ → Type 0 = λ n. Finds bytes x (place i) n in
    record { edge = record { label = label; child = place i }; first = rw yes_leads refl; further = subst F behind f }

-- what leads to a symbol is found
pub leads_found : (bytes : List ℕ) (says : ℕ → Exported) (place : ℕ → ℕ) (i : ℕ) (es : Edges) (name : List ℕ) (s : ℕ) → AreRadix es
    → AllStand bytes says place i es → LeadsTo es name s → IsTaken bytes (says s) name (edge_list place i es)
leads_found bytes says place i no_edge name s r a l = absurd l
leads_found bytes says place i (edge label symbol below rest) name s r a (inl (left, is, inl (end, marked))) =
    begun bytes (says s) place i label name left symbol below rest is r.0
    (here (place i) left (node_of says place i symbol below) a.0 end (ap (λ (m : Option ℕ). option_map says m) marked))
leads_found bytes says place i (edge label symbol below rest) name s r a (inl (left, is, inr deeper)) =
    let t = leads_found bytes says place (i + 1) below left s r.2 a.1 deeper in
    begun bytes (says s) place i label name left symbol below rest is r.0
    (along (place i) left (node_of says place i symbol below) t.edge a.0 t.first t.further)
leads_found bytes says place i (edge label symbol below rest) name s r a (inr other) =
    let above = leads_above (slice_index label 0) rest name s r.4 r.3 other in
    let no = not_taken label name (place i) r.0 above.1 in
    let t = leads_found bytes says place (i + (node_count below + 1)) rest name s r.4 a.2 other in
    record { edge = t.edge; first = rw no t.first; further = t.further }

-- what is found from a child on: a name ends there, or it is found along an edge of the child
from_map : {X Y : Type 0} (f : X → Y) (o : Option X) (y : Y) → option_map f o ≡ Some y → (x : X) × (o ≡ Some x) × (y ≡ f x)
from_map f None y is = absurd (cc)
from_map f (Some x) y is = (x, refl, cc)

pub at_child : (bytes : List ℕ) (says : ℕ → Exported) (place : ℕ → ℕ) (i : ℕ) (symbol : Option ℕ) (below : Edges) (left : List ℕ) (x :
    Exported)
    → node_at bytes (place i) ≡ Some (node_of says place i symbol below)
    → ((e : Edge) → find (leads left) (edge_list place (i + 1) below) ≡ Some e → Finds bytes x e.child (drop (length e.label) left)
    → (s : ℕ) × LeadsTo below left s × (x ≡ says s))
    → Finds bytes x (place i) left → (s : ℕ) × (((left ≡ []) × (symbol ≡ Some s)) ⊎ LeadsTo below left s) × (x ≡ says s)
at_child bytes says place i symbol below left x stands deeper (here _ _ node is empty exports) =
    let same : node ≡ node_of says place i symbol below = same_some (node_at bytes (place i)) node (node_of says place i symbol below)
    is stands in
    let marked = from_map says symbol x (ap (λ (n : Node). n.export) (sym same) ∙ exports) in
    (marked.0, inl (empty, marked.1), marked.2)
at_child bytes says place i symbol below left x stands deeper (along _ _ node e is first further) =
    let same : node ≡ node_of says place i symbol below = same_some (node_at bytes (place i)) node (node_of says place i symbol below)
    is stands in
    let l = deeper e (ap (λ (n : Node). find (leads left) n.edges) (sym same) ∙ first) further in
    (l.0, inr l.1, l.2)

leads_begins : (name label : List ℕ) (child : ℕ) → leads name (record { label = label; child = child }) ≡ true
    → starts_with nat_eq name label ≡ true
leads_begins name label child both =
    elim (nat_lt 0 (length label)) as (λ b. (b && starts_with nat_eq name label) ≡ true → starts_with nat_eq name label ≡ true) [
      | true ↦ λ e. e
      | false ↦ λ e. absurd (cc)
    ] both

-- what is found leads to a symbol
pub found_leads : (bytes : List ℕ) (says : ℕ → Exported) (place : ℕ → ℕ) (i : ℕ) (es : Edges) (name : List ℕ) (x : Exported) (e : Edge)
    → AllStand bytes says place i es → find (leads name) (edge_list place i es) ≡ Some e → Finds bytes x e.child (drop (length e.label)
    name)
    → (s : ℕ) × LeadsTo es name s × (x ≡ says s)
found_leads bytes says place i no_edge name x e a first further = absurd (cc)
found_leads bytes says place i (edge label symbol below rest) name x e a first further =
    elim (leads name (record { label = label; child = place i }))
    as (λ b. leads name (record { label = label; child = place i }) ≡ b → (s : ℕ) × LeadsTo (edge label symbol below rest) name s × (x
    ≡ says s)) [
      | true ↦ λ taken_here.
          let is : find (leads name) (edge_list place i (edge label symbol below rest)) ≡ Some (record {
            label = label;
            child = place i;
          }) = rw taken_here refl in
          let same : e ≡ record { label = label; child = place i } = same_some _ e (record { label = label; child = place i }) first is in
          let F : Edge → Type 0 = λ d. Finds bytes x d.child (drop (length d.label) name) in
          let c = at_child bytes says place i symbol below (drop (length label) name) x a.0
          (λ d f g. found_leads bytes says place (i + 1) below (drop (length label) name) x d a.1 f g) (subst F same further) in
          (c.0, inl (drop (length label) name, begins-is label name (leads_begins name label (place i) taken_here), c.1), c.2)
      | false ↦ λ passed.
          let is : find (leads name) (edge_list place i (edge label symbol below rest)) ≡ find (leads name) (edge_list place (i +
          (node_count below + 1)) rest)
          = rw passed refl in
          let l = found_leads bytes says place (i + (node_count below + 1)) rest name x e a.2 (sym is ∙ first) further in
          (l.0, inr l.1, l.2)
    ] refl
