-- The builder's calls that take several steps: down to a depth, on to a name, and to the end.
--
-- Closing a further node keeps the names that are in the tree, so after all of them the tree has these and the one that
-- ended at the first. Where the deepest node is of depth 0, no node can be above it, so it is the root, and no tree is
-- left beside its children.
use Rattle.std.proofs.Common.{◌≡◌, ℕ, suc, ◌+◌, ◌-◌, ◌<◌, ◌≤◌, nat_lt, if◌then◌else◌, Bool, true, false, List, [], ◌∷◌, ◌++◌, length, take, slice_range, reverse, Option, refl, sym, ap, subst, ◌∙◌, arith}
use Rattle.std.proofs.lemmas.Bool.{lt-ltb}
use Rattle.macho_trie.specs.Trees.{Edges, no_edge, edge}
use Rattle.macho_trie.specs.Tables.{first_edges, later_edges, name_at, symbol_at, trees_of}
use Rattle.macho_trie.specs.steps.Building.{ending, names_along, AreAbove, IsRoot, closed_row, deepest, arrived, AreOpenAt, AreClosing, AreClosed, AreReady, AreRoot, AreClosedRows, ClosedAs, ArrivedAs, RootedAs, numbered_rows}
use Rattle.macho_trie.specs.declared.table.Row.{Row}
use Rattle.macho_trie.specs.declared.build.Open.{Open}
use Rattle.macho_trie.proofs.Numbering.{trees-numbered, numbered_sound}
use Rattle.macho_trie.proofs.Arriving.{arrives, names_arrived}
use Rattle.macho_trie.proofs.Closing.{reverse-last}

-- on to a name, with a new node or without
pub arrives_as : (names same : List (List ℕ)) (symbol : ℕ) (before rows : List Row) (was now : List Open) → symbol < length names
    → same ≡ names
    → rows ≡ before → AreReady names (name_at names symbol) before was → now ≡ arrived (length (name_at names symbol)) (length before) was
    → ArrivedAs same symbol before was rows now
arrives_as names same symbol before rows was now here is rows_are ready_is adopts =
    let A : List (List ℕ) → Type 0 = λ ns. ArrivedAs ns symbol before was rows now in
    let R : List Row → Type 0 = λ rs. ArrivedAs names symbol before was rs now in
    let N : List Open → Type 0 = λ os. ArrivedAs names symbol before was before os in
    subst A (sym is) (subst R (sym rows_are) (subst N (sym adopts) (record {
      opened = arrives names symbol before was here ready_is;
      built = names_arrived (name_at names symbol) (length before) (trees_of names before) was;
    })))

pub arrives_deeper : (names : List (List ℕ)) (name : List ℕ) (before : List Row) (was : List Open) (count : ℕ)
    → AreReady names name before was
    → deepest was < length name → arrived (length name) count was ≡ record { depth = length name; children = 0; opened = count } ∷ was
arrives_deeper names name before [] count r deep = absurd r
arrives_deeper names name before (node ∷ nodes) count r deep = rw (lt-ltb node.depth (length name) deep) refl

-- nothing is above the root
above_none : (name : List ℕ) (depth : ℕ) (trees : Edges) (nodes : List Open) → depth ≡ 0 → AreAbove name depth trees nodes
    → (nodes ≡ []) × (trees ≡ no_edge)
above_none name depth trees [] top a = (refl, a.1)
above_none name depth trees (node ∷ nodes) top a = absurd (omega (arith, a.0))

pub root_of_closed : (names : List (List ℕ)) (symbol : ℕ) (rows : List Row) (nodes : List Open) → AreClosed names symbol 0 rows nodes
    → deepest nodes ≡ 0
    → AreRoot names symbol false rows nodes
root_of_closed names symbol rows [] c top = absurd c
root_of_closed names symbol rows (node ∷ nodes) c top =
    let none = above_none (name_at names symbol) node.depth (later_edges node.children (trees_of names rows)) nodes top c.above in
    record { here = c.here; sound = c.sound; depth = top; group = c.group; alone = none.0; all = none.1; ends = λ e. absurd (cc) }

pub root_of_opened : (names : List (List ℕ)) (symbol : ℕ) (rows : List Row) (nodes : List Open) → AreOpenAt names symbol rows nodes
    → length (name_at names symbol) ≡ 0 → AreRoot names symbol true rows nodes
root_of_opened names symbol rows [] o whole = absurd o
root_of_opened names symbol rows (node ∷ nodes) o whole =
    let top : node.depth ≡ 0 = o.depth ∙ whole in
    let none = above_none (name_at names symbol) node.depth (later_edges node.children (trees_of names rows)) nodes top o.above in
    record { here = o.here; sound = o.sound; depth = top; group = o.group; alone = none.0; all = none.1; ends = λ e. whole }

-- the root's row is the first one
root_ending : (name : List ℕ) (symbol : ℕ) (terminal : Bool) (node : Open) → (terminal ≡ true → length name ≡ 0)
    → ending [] (symbol_at (closed_row symbol terminal 0 node)) ≡ (if terminal then (name, symbol) ∷ [] else [])
root_ending [] symbol true node empty = refl
root_ending (b ∷ name) symbol true node empty = absurd (omega (arith, empty refl))
root_ending name symbol false node empty = refl

-- the rows with the root's are sound
root_closed : (names : List (List ℕ)) (symbol : ℕ) (terminal : Bool) (rows : List Row) (node : Open)
    → IsRoot names symbol terminal rows node [] → AreClosedRows names (closed_row symbol terminal 0 node ∷ rows)
root_closed names symbol terminal rows node r = (
  record {
    row = record { symbol = r.here; label = omega (arith, r.depth); children = r.group.children };
    after = sym r.group.opened;
  },
  r.sound,
)

rooted : (names : List (List ℕ)) (symbol : ℕ) (terminal : Bool) (rows : List Row) (node : Open)
    → IsRoot names symbol terminal rows node []
    → RootedAs names symbol terminal rows (node ∷ []) (numbered_rows (suc (length rows)) (closed_row symbol terminal 0 node ∷ rows))
rooted names symbol terminal rows node r =
    let trees : Edges = trees_of names rows in
    let all : List Row = closed_row symbol terminal 0 node ∷ rows in
    let mark : Option ℕ = symbol_at (closed_row symbol terminal 0 node) in
    let deep : node.depth - 0 ≡ 0 = omega (arith, r.depth) in
    let empty : slice_range (name_at names symbol) 0 (0 + (node.depth - 0)) ≡ []
    = ap (λ (n : ℕ). slice_range (name_at names symbol) 0 (0 + n)) deep in
    let tree : trees_of names (numbered_rows (suc (length rows)) all) ≡ edge [] mark (first_edges node.children trees) no_edge
    = trees-numbered names (suc (length rows)) all
    ∙ ap (λ (l : List ℕ). edge l mark (first_edges node.children trees) (later_edges node.children trees)) empty
    ∙ ap (λ (es : Edges). edge [] mark (first_edges node.children trees) es) r.all in
    let way : take node.depth (name_at names symbol) ≡ [] = ap (λ (n : ℕ). take n (name_at names symbol)) r.depth in
    record {
      sound = numbered_sound names all (root_closed names symbol terminal rows node r);
      mark = mark;
      below = first_edges node.children trees;
      root = tree;
      radix = r.group.radix;
      built = ap (λ (es : Edges). names_along [] es) tree
          ∙ ap (λ (xs : List (List ℕ × ℕ)). xs ++ (names_along [] (first_edges node.children trees) ++ []))
          (root_ending (name_at names symbol) symbol terminal node r.ends)
          ∙ ap (λ (w : List ℕ). (if terminal then (name_at names symbol, symbol) ∷ [] else []) ++ (names_along w (first_edges
          node.children trees) ++ []))
          (sym way);
    }

pub last_root : (names : List (List ℕ)) (symbol : ℕ) (terminal : Bool) (rows : List Row) (all mid : List Open) (node : Open)
    → all ≡ mid ++ node ∷ []
    → AreRoot names symbol terminal rows (reverse all) → IsRoot names symbol terminal rows node (reverse mid)
last_root names symbol terminal rows all mid node last r =
    let R : List Open → Type 0 = λ os. AreRoot names symbol terminal rows os in
    subst R (reverse-last mid all node last) r

-- the rows from the first to the last, the root's in front
pub root_first : (symbol : ℕ) (terminal : Bool) (rows pushed : List Row) (node : Open) → node.depth ≡ 0
    → pushed ≡ rows ++ record {
      symbol = symbol;
      is_terminal = terminal;
      children = node.children;
      start = 0;
      length = 0;
      after = node.opened;
    } ∷ []
    → reverse pushed ≡ closed_row symbol terminal 0 node ∷ reverse rows
root_first symbol terminal rows pushed node top row_is =
    let zero_long : 0 ≡ node.depth - 0 = omega (arith, top) in
    let row : ℕ → Row = λ n. record {
      symbol = symbol;
      is_terminal = terminal;
      children = node.children;
      start = 0;
      length = n;
      after = node.opened;
    } in
    reverse-last rows pushed (row 0) row_is ∙ ap (λ (n : ℕ). row n ∷ reverse rows) zero_long

pub rooted_closed : (names : List (List ℕ)) (symbol : ℕ) (terminal : Bool) (rows pushed : List Row) (all mid : List Open) (node : Open)
    → all ≡ mid ++ node ∷ [] → AreRoot names symbol terminal (reverse rows) (reverse all)
    → pushed ≡ rows ++ record {
      symbol = symbol;
      is_terminal = terminal;
      children = node.children;
      start = 0;
      length = 0;
      after = node.opened;
    } ∷ []
    → AreClosedRows names (reverse pushed)
rooted_closed names symbol terminal rows pushed all mid node last r row_is =
    let at = last_root names symbol terminal (reverse rows) all mid node last r in
    let I : List Open → Type 0 = λ os. IsRoot names symbol terminal (reverse rows) node os in
    let C : List Row → Type 0 = λ rs. AreClosedRows names rs in
    subst C (sym (root_first symbol terminal rows pushed node at.depth row_is)) (root_closed names symbol terminal (reverse rows) node
    (subst I at.alone at))

pub rooted_after : (names : List (List ℕ)) (symbol : ℕ) (terminal : Bool) (rows pushed after : List Row) (all mid : List Open) (node : Open)
    → all ≡ mid ++ node ∷ [] → AreRoot names symbol terminal (reverse rows) (reverse all)
    → pushed ≡ rows ++ record {
      symbol = symbol;
      is_terminal = terminal;
      children = node.children;
      start = 0;
      length = 0;
      after = node.opened;
    } ∷ []
    → after ≡ numbered_rows (length (reverse pushed)) (reverse pushed) → RootedAs names symbol terminal (reverse rows) (reverse all) after
rooted_after names symbol terminal rows pushed after all mid node last r row_is after_is =
    let at = last_root names symbol terminal (reverse rows) all mid node last r in
    let all_rows : after ≡ numbered_rows (suc (length (reverse rows))) (closed_row symbol terminal 0 node ∷ reverse rows)
    = after_is ∙ ap (λ (rs : List Row). numbered_rows (length rs) rs) (root_first symbol terminal rows pushed node at.depth row_is) in
    let alone : reverse all ≡ node ∷ [] = reverse-last mid all node last ∙ ap (λ (os : List Open). node ∷ os) at.alone in
    let I : List Open → Type 0 = λ os. IsRoot names symbol terminal (reverse rows) node os in
    let R : List Row → Type 0 = λ rs. RootedAs names symbol terminal (reverse rows) (reverse all) rs in
    let O : List Open → Type 0 = λ os. RootedAs names symbol terminal (reverse rows) os
    (numbered_rows (suc (length (reverse rows))) (closed_row symbol terminal 0 node ∷ reverse rows)) in
    subst R (sym all_rows) (subst O (sym alone) (rooted names symbol terminal (reverse rows) node (subst I at.alone at)))
