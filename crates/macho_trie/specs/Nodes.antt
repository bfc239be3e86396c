-- A node of an exports trie: the terminal size, so many bytes of terminal part, the number of edges in one byte, and
-- the edges. All numbers but that one are ULEB128 (`mach-o/loader.h`, DYLD_EXPORTS_TRIE).
use Rattle.std.specs.Prelude.{ℕ, zero, suc, ◌+◌, ◌==◌, nat_lt, if◌then◌else◌, List, [], ◌∷◌, length, drop, slice_index, slice_range, Option, Some, None}
use Rattle.std.specs.Option.{option_map, option_and_then}
use Rattle.macho_bytes.specs.Texts.{name_of}
use Rattle.macho_bytes.specs.Uleb.{uleb_at}
use Rattle.macho_trie.specs.Exports.{Exported, as_value, as_reexport, is_reexport}

-- An edge: its label, and the place of its child, counted from the trie's first byte.
pub record Edge : Type 0 where
  pub label : List ℕ
  pub child : ℕ

-- A node: what is exported there, if anything is, and its edges in order.
pub record Node : Type 0 where
  pub export : Option Exported
  pub edges : List Edge

-- the bytes before the first NUL, None where there is none
unfoldable pub ended_name : List ℕ → Option (List ℕ)
ended_name bytes = if nat_lt (length (name_of bytes)) (length bytes) then Some (name_of bytes) else None

-- flags and a number, and the bytes behind them: an address, or an ordinal with a name up to a NUL
abbrev pub export_with : ℕ → ℕ → List ℕ → Option Exported
export_with flags number rest =
    if is_reexport flags then option_map (as_reexport flags number) (ended_name rest) else Some (as_value flags number)

-- what a terminal part says, all of it inside the part
unfoldable pub export_in : List ℕ → Option Exported
export_in part =
    option_and_then (λ flags. option_and_then (λ number. export_with flags.0 number.0 (drop number.1 part)) (uleb_at part flags.1))
    (uleb_at part 0)

-- a terminal part between two places: a node without one exports nothing
unfoldable pub terminal_between : List ℕ → ℕ → ℕ → Option (Option Exported)
terminal_between bytes start end = if start == end then Some None else option_map (λ e. Some e) (export_in (slice_range bytes start end))

-- the edge at a place, and the place after it: a label, its NUL, and the place of the child
unfoldable pub edge_at : List ℕ → ℕ → Option (Edge × ℕ)
edge_at bytes at =
    option_and_then (λ label. option_map (λ n. (record { label = label; child = n.0 }, n.1)) (uleb_at bytes (at + length label + 1)))
    (ended_name (drop at bytes))

-- so many edges from a place on
unfoldable pub edges_at : ℕ → List ℕ → ℕ → Option (List Edge)
edges_at zero bytes at = Some []
edges_at (suc others) bytes at = option_and_then (λ e. option_map (λ es. e.0 ∷ es) (edges_at others bytes e.1)) (edge_at bytes at)

-- what the node at a place exports, and the place after its terminal part, which lies inside the trie as the byte after it does
unfoldable pub terminal_at : List ℕ → ℕ → Option (Option Exported × ℕ)
terminal_at bytes at =
    option_and_then (λ size. let end = size.1 + size.0 in
    if nat_lt end (length bytes) then option_map (λ e. (e, end)) (terminal_between bytes size.1 end) else None) (uleb_at bytes at)

-- the node at a place, None where the bytes there are no node: some part isn't whole inside the trie
unfoldable pub node_at : List ℕ → ℕ → Option Node
node_at bytes at =
    option_and_then (λ t. option_map (λ es. record { export = t.0; edges = es }) (edges_at (slice_index bytes t.1) bytes (t.1 + 1)))
    (terminal_at bytes at)
