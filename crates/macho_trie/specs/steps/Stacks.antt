-- The walk as the code keeps it: marks, a stack of pending nodes, the last name, and the edges of the last node.
use Rattle.std.specs.Prelude.{◌≡◌, ◌⊎◌, ℕ, ◌+◌, ◌-◌, ◌<◌, ◌≤◌, Bool, true, false, if◌then◌else◌, List, ◌++◌, length, take, map}
use Rattle.std.specs.Prelude.{slice_index, slice_index_or, slice_set, Option, Some, None}
use Rattle.std.specs.List.{All, AllPairs, sum_by}
use Rattle.std.specs.List.Sorted.{IsPermutation}
use Rattle.std.specs.Option.{option_map}
use denote.Ref.{Bor}
use Rattle.macho_trie.specs.Exports.{Exported}
use Rattle.macho_trie.specs.Nodes.{Edge, Node, node_at}
use Rattle.macho_trie.specs.Walks.{AreApart, IsMalformedAt}
use Rattle.macho_trie.specs.Lists.{AreExports, line_of}
use Rattle.macho_trie.specs.steps.Walking.{last_first, DoRise, IsWalked, IsLined}
use Rattle.macho_trie.specs.declared.names.Pending.{Pending}
use Rattle.macho_trie.specs.declared.names.Walk.{Walk}
use Rattle.macho_trie.specs.declared.names.Lines.{Lines}

-- an edge that was read
abbrev pub edge_of : Bor (List ℕ) × ℕ → Edge
edge_of e = record { label = e.0.now; child = e.1 }

abbrev pub edges_of : List (Bor (List ℕ) × ℕ) → List Edge
edges_of es = map edge_of es

-- the first byte of its label
abbrev pub byte_of : Bor (List ℕ) × ℕ → ℕ
byte_of e = slice_index e.0.now 0

-- a pending node by its edge, where so much of the last name is kept
abbrev pub pending_at : ℕ → Bor (List ℕ) × ℕ → Pending
pending_at kept e = record { place = e.1; kept = kept; label = e.0 }

-- the visit of a pending node
abbrev pub visit_of : List ℕ → Pending → ℕ × List ℕ
visit_of name p = (p.place, take p.kept name ++ p.label.now)

-- What the names of pending nodes keep of the last name is there, and a later one keeps no less.
pub record AreKept (name : List ℕ) (pending : List Pending) : Type 0 where
  pub within : All (λ p. p.kept ≤ length name) pending
  pub rising : AllPairs (λ p q. p.kept ≤ q.kept) pending

-- What is wrong at a place.
pub data IsBad (bytes : List ℕ) (met : List Bool) (place : ℕ) : Type 0 where
  outside : length met ≤ place → IsBad bytes met place
  marked : slice_index_or met place false ≡ true → IsBad bytes met place
  unread : node_at bytes place ≡ None → IsBad bytes met place
  joined : (node : Node) → node_at bytes place ≡ Some node → (AreApart node.edges → ⊥) → IsBad bytes met place

-- A visit: its place is marked, its name is the last one, and the children of its node are pending.
pub record IsVisit (before : Walk) (next : Pending) (export : Option Exported) (after : Walk) : Type 0 where
  pub same : after.bytes.now ≡ before.bytes.now
  pub name : after.name.items ≡ take next.kept before.name.items ++ next.label.now
  pub within : next.place < length before.met.items
  pub fresh : slice_index_or before.met.items next.place false ≡ false
  pub mark : after.met.items ≡ slice_set before.met.items next.place true
  pub node : Node
  pub is : node_at before.bytes.now next.place ≡ Some node
  pub exports : export ≡ node.export
  pub edges : List (Bor (List ℕ) × ℕ)
  pub moved : IsPermutation node.edges (edges_of edges)
  pub rise : DoRise (edges_of edges)
  pub few : length edges ≤ 255
  pub pending : after.pending.items ≡ before.pending.items ++ last_first (map (pending_at (length after.name.items)) edges)

-- The walk so far, over the bytes with which it began, and the lines, where they are kept.
pub record IsFollowed (bytes : List ℕ) (are_kept : Bool) (walk : Walk) (lines : Lines) : Type 0 where
  pub same : walk.bytes.now ≡ bytes
  pub flag : lines.are_kept ≡ are_kept
  pub seen : List (ℕ × List ℕ)
  pub kept : AreKept walk.name.items walk.pending.items
  pub walked : IsWalked bytes walk.met.items seen (map (visit_of walk.name.items) walk.pending.items)
  pub lined : are_kept ≡ true → IsLined bytes seen (map line_of lines.items.items)

-- how much there is to do: places that aren't marked, each with room for all edges of a node, and what is pending
abbrev pub work_of : Bool → ℕ
work_of b = if b then 0 else 256

abbrev pub work_left : Walk → ℕ
work_left walk = sum_by work_of walk.met.items + length walk.pending.items

-- a list of names, as far as it is kept; and that nothing is malformed
pub record IsWhole (bytes : List ℕ) (are_kept : Bool) (lines : Lines) : Type 0 where
  pub exports : are_kept ≡ true → AreExports bytes (map line_of lines.items.items)
  pub none : (place : ℕ) → IsMalformedAt bytes place → ⊥

-- The first bytes of labels rise up to an edge, and all are below a bound, which is one more than the last.
pub record DoRiseUpTo (edges : List (Bor (List ℕ) × ℕ)) (end least : ℕ) : Type 0 where
  pub some : (k : ℕ) (d : Bor (List ℕ) × ℕ) → k < end → 0 < length (slice_index_or edges k d).0.now
  pub rise : (j k : ℕ) (d : Bor (List ℕ) × ℕ) → j < k → k < end → byte_of (slice_index_or edges j d) < byte_of (slice_index_or edges k d)
  pub below : (k : ℕ) (d : Bor (List ℕ) × ℕ) → k < end → byte_of (slice_index_or edges k d) < least
  pub last : (least ≡ 0) ⊎ ((d : Bor (List ℕ) × ℕ) → (0 < end) × (byte_of (slice_index_or edges (end - 1) d) + 1 ≡ least))

-- edges behind others
abbrev pub behind_edges : List Edge → Option (List Edge) → Option (List Edge)
behind_edges es edges = option_map (λ fs. es ++ fs) edges
