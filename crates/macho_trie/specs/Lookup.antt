-- Look-up in an exports trie: which name leads from the first node to which answer.
use Rattle.std.specs.Prelude.{◌≡◌, ℕ, ◌&&◌, nat_lt, nat_eq, Bool, List, [], length, drop, Some}
use Rattle.std.specs.List.{find, starts_with}
use Rattle.macho_trie.specs.Exports.{Exported}
use Rattle.macho_trie.specs.Nodes.{Edge, Node, node_at}

-- an edge may be taken: its label isn't empty, and the rest of the name begins with it
abbrev pub leads : List ℕ → Edge → Bool
leads rest e = nat_lt 0 (length e.label) && starts_with nat_eq rest e.label

-- The least relation with two rules. Where nothing is left of the name, the node answers. Else the first edge that may
-- be taken leads on, with its label taken off.
pub data Finds (bytes : List ℕ) (x : Exported) : ℕ → List ℕ → Type 0 where
  here : (at : ℕ) (rest : List ℕ) (node : Node) → node_at bytes at ≡ Some node → rest ≡ [] → node.export ≡ Some x → Finds bytes x at rest
  along : (at : ℕ) (rest : List ℕ) (node : Node) (e : Edge) → node_at bytes at ≡ Some node → find (leads rest) node.edges ≡ Some e
      → Finds bytes x e.child (drop (length e.label) rest) → Finds bytes x at rest

-- look-up of a name begins at the first byte
abbrev pub trie_finds : List ℕ → List ℕ → Exported → Type 0
trie_finds bytes name x = Finds bytes x 0 name
