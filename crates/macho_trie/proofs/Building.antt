-- The steps of building keep what is known of the open nodes and of the names in the tree.
--
-- Closing the deepest open node puts its row in front. Its children were the first trees behind, so the trees are now one
-- tree with that node as its root, in front of the trees of the nodes above. It hangs at the next open node, or at a new
-- one where the next name leaves the way. The names at the trees stay the same, but for the one that ends at the node.
-- A name that is less takes the way up to where both are equal, and its node is then the deepest one.
use Rattle.std.proofs.Common.{◌≡◌, ◌⊎◌, ℕ, zero, suc, ◌+◌, ◌-◌, ◌<◌, ◌≤◌, nat_lt, Bool, true, false, List, [], ◌∷◌, ◌++◌, length, take, drop, slice_index, slice_range, Option, IsSome, refl, sym, ap, subst, append_assoc, ◌∙◌, arith, inl, inr}
use Rattle.std.proofs.lemmas.Bool.{cases_lt, lt-ltb}
use Rattle.std.proofs.lemmas.List.{append-nil, take-take, drop-take, get_or-take, get_or-drop, length-take, length-drop, take-append-drop}
use Rattle.macho_trie.specs.steps.Symbols.{IsPlain}
use Rattle.macho_trie.specs.Trees.{Edges, no_edge, edge, edge_count, node_count, IsLabel, BeginsAbove, AreRadix}
use Rattle.macho_trie.specs.Tables.{first_edges, later_edges, name_at, symbol_at, trees_of}
use Rattle.macho_trie.specs.steps.Building.{ending, names_along, names_open, IsGroup, AreAbove, BeginsWith, IsClosing, IsClosed, closed_row, hanging_depth, adopted, AreClosed, AreClosedRows}
use Rattle.macho_trie.specs.declared.table.Row.{Row}
use Rattle.macho_trie.specs.declared.build.Open.{Open}
use Rattle.macho_bytes.proofs.Groups.{not_below}

-- the nodes of some trees and of the others are all nodes, and rows spell one node each
pub node_count-split : (k : ℕ) (es : Edges) → node_count (first_edges k es) + node_count (later_edges k es) ≡ node_count es
node_count-split zero es = omega arith
node_count-split (suc k) no_edge = refl
node_count-split (suc k) (edge label symbol below rest) = omega (arith, node_count-split k rest)

pub node_count-rows : (names : List (List ℕ)) (rows : List Row) → node_count (trees_of names rows) ≡ length rows
node_count-rows names [] = refl
node_count-rows names (row ∷ rows) = omega (arith, node_count-rows names rows, node_count-split row.children (trees_of names rows))

-- one tree more in front
first-more : (k : ℕ) (label : List ℕ) (symbol : Option ℕ) (below rest : Edges)
    → first_edges (k + 1) (edge label symbol below rest) ≡ edge label symbol below (first_edges k rest)
first-more k label symbol below rest =
    let next : k + 1 ≡ suc k = omega arith in
    ap (λ (n : ℕ). first_edges n (edge label symbol below rest)) next

later-more : (k : ℕ) (label : List ℕ) (symbol : Option ℕ) (below rest : Edges)
    → later_edges (k + 1) (edge label symbol below rest) ≡ later_edges k rest
later-more k label symbol below rest =
    let next : k + 1 ≡ suc k = omega arith in
    ap (λ (n : ℕ). later_edges n (edge label symbol below rest)) next

-- the parts of a name up to two depths
way-part : (name : List ℕ) (start depth : ℕ) → start ≤ depth → take start name ++ slice_range name start (start + (depth - start)) ≡
    take depth name
way-part name start depth low =
    let to : start + (depth - start) ≡ depth = omega arith in
    let front : take start (take depth name) ≡ take start name = take-take start depth name low in
    let back : drop start (take depth name) ≡ slice_range name start (start + (depth - start))
    = ap (λ (k : ℕ). drop start (take k name)) (sym to) ∙ drop-take start (depth - start) name
    ∙ ap (λ (k : ℕ). take k (drop start name)) (omega arith) in
    ap (λ (xs : List ℕ). xs ++ slice_range name start (start + (depth - start))) (sym front)
    ∙ ap (λ (ys : List ℕ). take start (take depth name) ++ ys) (sym back) ∙ take-append-drop start (take depth name)

label_index : (name : List ℕ) (start depth k : ℕ) → k < depth - start
    → slice_index (slice_range name start (start + (depth - start))) k ≡ slice_index name (start + k)
label_index name start depth k in_part =
    let within : k < start + (depth - start) - start = omega arith in
    get_or-take (start + (depth - start) - start) (drop start name) k 0 within ∙ get_or-drop start name k 0

is_label : (name : List ℕ) (start depth : ℕ) → IsPlain name → start < depth → depth ≤ length name
    → IsLabel (slice_range name start (start + (depth - start)))
is_label name start depth plain low within = record { some = omega (arith, long); plain = each }
  where
    long : length (slice_range name start (start + (depth - start))) ≡ depth - start
    long = omega (arith, length-take (start + (depth - start) - start) (drop start name), length-drop start name)

    each : (k : ℕ) → k < length (slice_range name start (start + (depth - start)))
        → (1 ≤ slice_index (slice_range name start (start + (depth - start))) k) × (slice_index (slice_range name start (start + (depth
        - start))) k < 256)
    each k h =
        let same = label_index name start depth k (omega (arith, long)) in
        let byte = plain.plain (start + k) (omega (arith, long)) in
        (omega (arith, same, byte.0), omega (arith, same, byte.1))

label_begins : (name : List ℕ) (start depth : ℕ) → start < depth → slice_index (slice_range name start (start + (depth - start))) 0 ≡
    slice_index name start
label_begins name start depth low =
    label_index name start depth 0 (omega arith) ∙ ap (λ (k : ℕ). slice_index name k) (omega arith)

-- a group by what its edges are
group_by : (node : Open) (trees group : Edges) → first_edges node.children trees ≡ group → edge_count group ≡ node.children
    → node_count (later_edges node.children trees) ≡ node.opened → AreRadix group → IsGroup node trees
group_by node trees group is count opened radix = record {
  children = ap edge_count is
      ∙ count;
  opened = opened;
  radix = subst AreRadix (sym is) radix;
}

-- the row of a closed node is sound
row_sound : (names : List (List ℕ)) (symbol : ℕ) (terminal : Bool) (least start : ℕ) (rows : List Row) (node : Open) (nodes : List Open)
    → IsClosing names symbol terminal least rows node nodes → start ≤ node.depth
    → AreClosedRows names (closed_row symbol terminal start node ∷ rows)
row_sound names symbol terminal least start rows node nodes c low = (
  record {
    row = record { symbol = c.here; label = omega (arith, c.within); children = c.group.children };
    after = sym c.group.opened;
  },
  c.sound,
)

-- the label, the end and the children of a closed node
node_ends : (symbol : ℕ) (terminal : Bool) (start : ℕ) (name : List ℕ) (node : Open) (trees : Edges)
    → ((terminal ≡ true) × (node.depth ≡ length name)) ⊎ ((terminal ≡ false) × (2 ≤ node.children)) → IsGroup node trees
    → IsSome (symbol_at (closed_row symbol terminal start node)) ⊎ (2 ≤ edge_count (first_edges node.children trees))
node_ends symbol terminal start name node trees (inl marked) g = inl (rw marked.0 refl)
node_ends symbol terminal start name node trees (inr two) g = inr (omega (arith, two.1, g.children))

-- closed below the next open node
closes_below : (names : List (List ℕ)) (symbol : ℕ) (terminal : Bool) (least : ℕ) (rows : List Row) (node next : Open) (nodes : List Open)
    → IsClosing names symbol terminal least rows node (next ∷ nodes) → IsPlain (name_at names symbol) → least ≤ next.depth
    → IsClosed names symbol least (closed_row symbol terminal next.depth node ∷ rows)
    (record { depth = next.depth; children = next.children + 1; opened = next.opened }) nodes
closes_below names symbol terminal least rows node next nodes c plain low =
    let above = c.above in
    let deep : next.depth < node.depth = above.0 in
    let group : IsGroup next (later_edges node.children (trees_of names rows)) = above.1 in
    let name : List ℕ = name_at names symbol in
    let trees : Edges = trees_of names rows in
    let label : List ℕ = slice_range name next.depth (next.depth + (node.depth - next.depth)) in
    let mark : Option ℕ = symbol_at (closed_row symbol terminal next.depth node) in
    let more : first_edges (next.children + 1) (edge label mark (first_edges node.children trees) (later_edges node.children trees))
    ≡ edge label mark (first_edges node.children trees) (first_edges next.children (later_edges node.children trees))
    = first-more next.children label mark (first_edges node.children trees) (later_edges node.children trees) in
    let later : later_edges (next.children + 1) (edge label mark (first_edges node.children trees) (later_edges node.children trees))
    ≡ later_edges next.children (later_edges node.children trees)
    = later-more next.children label mark (first_edges node.children trees) (later_edges node.children trees) in
    let first_byte : slice_index label 0 ≡ slice_index name next.depth = label_begins name next.depth node.depth deep in
    let Begins : Edges → Type 0 = λ es. BeginsWith (slice_index name next.depth) es in
    let Above : Edges → Type 0 = λ es. AreAbove name next.depth es nodes in
    let After : ℕ → Type 0 = λ b. BeginsAbove b (first_edges next.children (later_edges node.children trees)) in
    record {
      here = c.here;
      sound = row_sound names symbol terminal least next.depth rows node (next ∷ nodes) c (omega arith);
      deep = low;
      within = omega (arith, c.within);
      group = group_by _ _ _ more (omega (arith, group.children)) (ap node_count later ∙ group.opened) (
        is_label name next.depth node.depth plain deep c.within,
        node_ends symbol terminal next.depth name node trees c.ends c.group,
        c.group.radix,
        subst After (sym first_byte) above.2,
        group.radix,
      );
      begins = subst Begins (sym more) first_byte;
      ends = elim above.3 [ inl some ↦ inr (omega arith) | inr top ↦ inl (omega arith) ];
      above = subst Above (sym later) above.4;
    }

-- closed below a new open node
closes_anew : (names : List (List ℕ)) (symbol : ℕ) (terminal : Bool) (least : ℕ) (rows : List Row) (node next : Open) (nodes : List Open)
    → IsClosing names symbol terminal least rows node (next ∷ nodes) → IsPlain (name_at names symbol) → next.depth < least
    → IsClosed names symbol least (closed_row symbol terminal least node ∷ rows)
    (record { depth = least; children = 1; opened = node.opened }) (next ∷ nodes)
closes_anew names symbol terminal least rows node next nodes c plain low =
    let above = c.above in
    let name : List ℕ = name_at names symbol in
    let trees : Edges = trees_of names rows in
    let label : List ℕ = slice_range name least (least + (node.depth - least)) in
    let first_byte : slice_index label 0 ≡ slice_index name least = label_begins name least node.depth c.deep in
    record {
      here = c.here;
      sound = row_sound names symbol terminal least least rows node (next ∷ nodes) c (omega (arith, c.deep));
      deep = omega arith;
      within = omega (arith, c.within, c.deep);
      group = record {
        children = refl;
        opened = c.group.opened;
        radix = (
          is_label name least node.depth plain c.deep c.within,
          node_ends symbol terminal least name node trees c.ends c.group,
          c.group.radix,
          tt,
          tt,
        );
      };
      begins = first_byte;
      ends = inl refl;
      above = (low, above.1, above.2, above.3, above.4);
    }

-- closing keeps what is known
pub closes : (names : List (List ℕ)) (symbol : ℕ) (terminal : Bool) (least : ℕ) (rows : List Row) (node : Open) (nodes : List Open)
    → IsClosing names symbol terminal least rows node nodes → IsPlain (name_at names symbol)
    → AreClosed names symbol least (closed_row symbol terminal (hanging_depth least nodes) node ∷ rows) (adopted least
    node.opened nodes)
closes names symbol terminal least rows node [] c plain = absurd (let above = c.above in omega (arith, above.0, c.deep))
closes names symbol terminal least rows node (next ∷ nodes) c plain =
    elim (cases_lt next.depth least) [
      | inl low ↦ rw (lt-ltb next.depth least low) (closes_anew names symbol terminal least rows node next nodes c plain low)
      | inr high ↦ rw (not_below next.depth least high) (closes_below names symbol terminal least rows node next nodes c plain high)
    ]

-- the names, when a node is closed
names_below : (names : List (List ℕ)) (symbol : ℕ) (terminal : Bool) (rows : List Row) (node next : Open) (nodes : List Open)
    → next.depth ≤ node.depth
    → names_open (name_at names symbol) (trees_of names (closed_row symbol terminal next.depth node ∷ rows))
    (record { depth = next.depth; children = next.children + 1; opened = next.opened } ∷ nodes)
    ≡ ending (take node.depth (name_at names symbol)) (symbol_at (closed_row symbol terminal next.depth node))
    ++ names_open (name_at names symbol) (trees_of names rows) (node ∷ next ∷ nodes)
names_below names symbol terminal rows node next nodes low =
    let name : List ℕ = name_at names symbol in
    let trees : Edges = trees_of names rows in
    let label : List ℕ = slice_range name next.depth (next.depth + (node.depth - next.depth)) in
    let mark : Option ℕ = symbol_at (closed_row symbol terminal next.depth node) in
    let more = first-more next.children label mark (first_edges node.children trees) (later_edges node.children trees) in
    let later = later-more next.children label mark (first_edges node.children trees) (later_edges node.children trees) in
    let way : take next.depth name ++ label ≡ take node.depth name = way-part name next.depth node.depth low in
    let beside : List (List ℕ × ℕ) = names_along (take next.depth name) (first_edges next.children (later_edges node.children trees)) in
    let above : List (List ℕ × ℕ) = names_open name (later_edges next.children (later_edges node.children trees)) nodes in
    ap (λ (es : Edges). names_along (take next.depth name) es
    ++ names_open name (later_edges (next.children + 1) (edge label mark (first_edges node.children trees) (later_edges node.children
    trees))) nodes) more
    ∙ ap (λ (es : Edges). names_along (take next.depth name)
    (edge label mark (first_edges node.children trees) (first_edges next.children (later_edges node.children trees))) ++ names_open
    name es nodes) later
    ∙ ap (λ (w : List ℕ). (ending w mark ++ (names_along w (first_edges node.children trees) ++ beside)) ++ above) way
    ∙ append_assoc (ending (take node.depth name) mark) (names_along (take node.depth name) (first_edges node.children trees) ++
    beside) above
    ∙ ap (λ (xs : List (List ℕ × ℕ)). ending (take node.depth name) mark ++ xs)
    (append_assoc (names_along (take node.depth name) (first_edges node.children trees)) beside above)

names_anew : (names : List (List ℕ)) (symbol : ℕ) (terminal : Bool) (least : ℕ) (rows : List Row) (node next : Open) (nodes : List Open)
    → least ≤ node.depth
    → names_open (name_at names symbol) (trees_of names (closed_row symbol terminal least node ∷ rows))
    (record { depth = least; children = 1; opened = node.opened } ∷ next ∷ nodes)
    ≡ ending (take node.depth (name_at names symbol)) (symbol_at (closed_row symbol terminal least node))
    ++ names_open (name_at names symbol) (trees_of names rows) (node ∷ next ∷ nodes)
names_anew names symbol terminal least rows node next nodes low =
    let name : List ℕ = name_at names symbol in
    let trees : Edges = trees_of names rows in
    let label : List ℕ = slice_range name least (least + (node.depth - least)) in
    let mark : Option ℕ = symbol_at (closed_row symbol terminal least node) in
    let way : take least name ++ label ≡ take node.depth name = way-part name least node.depth low in
    let above : List (List ℕ × ℕ) = names_open name (later_edges node.children trees) (next ∷ nodes) in
    ap (λ (w : List ℕ). (ending w mark ++ (names_along w (first_edges node.children trees) ++ [])) ++ above) way
    ∙ ap (λ (xs : List (List ℕ × ℕ)). (ending (take node.depth name) mark ++ xs) ++ above)
    (append-nil (names_along (take node.depth name) (first_edges node.children trees)))
    ∙ append_assoc (ending (take node.depth name) mark) (names_along (take node.depth name) (first_edges node.children trees)) above

pub names_closed : (names : List (List ℕ)) (symbol : ℕ) (terminal : Bool) (least : ℕ) (rows : List Row) (node : Open) (nodes : List Open)
    → IsClosing names symbol terminal least rows node nodes
    → names_open (name_at names symbol) (trees_of names (closed_row symbol terminal (hanging_depth least nodes) node ∷
    rows)) (adopted least node.opened nodes)
    ≡ ending (take node.depth (name_at names symbol)) (symbol_at (closed_row symbol terminal 0 node))
    ++ names_open (name_at names symbol) (trees_of names rows) (node ∷ nodes)
names_closed names symbol terminal least rows node [] c = absurd (let above = c.above in omega (arith, above.0, c.deep))
names_closed names symbol terminal least rows node (next ∷ nodes) c =
    elim (cases_lt next.depth least) [
      | inl low ↦ rw (lt-ltb next.depth least low) (names_anew names symbol terminal least rows node next nodes (omega (arith, c.deep)))
      | inr high ↦ rw (not_below next.depth least high)
          (names_below names symbol terminal rows node next nodes (let above = c.above in omega (arith, above.0)))
    ]
