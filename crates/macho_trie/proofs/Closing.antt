-- Closing a node, as the builder does it: from the ends of two lists.
--
-- The builder pushes rows and open nodes at the ends of lists that are read backwards. So its last open node is the
-- deepest one, and the row that it pushes stands in front. A group has fewer than 256 edges, since their labels begin
-- with rising bytes.
use Rattle.std.proofs.Common.{◌≡◌, ◌⊎◌, ℕ, ◌+◌, ◌<◌, ◌≤◌, if◌then◌else◌, Bool, true, false, List, [], ◌∷◌, ◌++◌, length, take, reverse, max, slice_index, refl, sym, ap, subst, ◌∙◌, arith, inl, inr}
use Rattle.std.proofs.lemmas.Bool.Decides.{nat_tests}
use Rattle.std.proofs.lemmas.List.{reverse-append, take_all}
use Rattle.macho_trie.specs.steps.Symbols.{IsPlain}
use Rattle.macho_trie.specs.Trees.{Edges, no_edge, edge, edge_count, BeginsAbove, AreRadix}
use Rattle.macho_trie.specs.Tables.{first_edges, later_edges, name_at, symbol_at, trees_of}
use Rattle.macho_trie.specs.steps.Building.{ending, names_open, IsGroup, IsClosing, closed_row, hanging_depth, adopted, AreClosing, AreClosed, ClosedAs}
use Rattle.macho_trie.specs.declared.table.Row.{Row}
use Rattle.macho_trie.specs.declared.build.Open.{Open}
use Rattle.macho_trie.proofs.Building.{closes, names_closed}

-- rising first bytes are few
count_above : (byte : ℕ) (es : Edges) → byte < 256 → AreRadix es → BeginsAbove byte es → edge_count es + byte ≤ 255
count_above byte no_edge small r b = omega arith
count_above byte (edge label symbol below rest) small r b =
    let first = r.0.plain 0 (omega (arith, r.0.some)) in
    omega (arith, count_above (slice_index label 0) rest first.1 r.4 r.3)

begins_above_zero : (es : Edges) → AreRadix es → BeginsAbove 0 es
begins_above_zero no_edge r = tt
begins_above_zero (edge label symbol below rest) r = let first = r.0.plain 0 (omega (arith, r.0.some)) in omega (arith, first.0)

pub few_edges : (es : Edges) → AreRadix es → edge_count es < 256
few_edges es r = omega (arith, count_above 0 es (omega arith) r (begins_above_zero es r))

pub few_children : (node : Open) (trees : Edges) → IsGroup node trees → node.children < 256
few_children node trees g = omega (arith, few_edges (first_edges node.children trees) g.radix, g.children)

-- the list read backwards
pub reverse-last : {X : Type 0} (xs ys : List X) (x : X) → ys ≡ xs ++ x ∷ [] → reverse ys ≡ x ∷ reverse xs
reverse-last xs ys x is = ap reverse is ∙ reverse-append xs (x ∷ [])

-- the two deepest nodes, at the end of the list
pub last_two : (names : List (List ℕ)) (symbol : ℕ) (terminal : Bool) (least : ℕ) (rows : List Row) (all mid back : List Open) (node
    next : Open)
    → all ≡ mid ++ node ∷ [] → mid ≡ back ++ next ∷ [] → AreClosing names symbol terminal least rows (reverse all)
    → IsClosing names symbol terminal least rows node (next ∷ reverse back)
last_two names symbol terminal least rows all mid back node next last before c =
    let is : reverse all ≡ node ∷ next ∷ reverse back
    = reverse-last mid all node last ∙ ap (λ (xs : List Open). node ∷ xs) (reverse-last back mid next before) in
    let C : List Open → Type 0 = λ os. AreClosing names symbol terminal least rows os in
    subst C is c

-- what is safe to compute of the two
pub next_group : (names : List (List ℕ)) (symbol : ℕ) (terminal : Bool) (least : ℕ) (rows : List Row) (node next : Open) (nodes : List Open)
    → IsClosing names symbol terminal least rows node (next ∷ nodes) → IsGroup next (later_edges node.children (trees_of names rows))
next_group names symbol terminal least rows node next nodes c = c.above.1

-- the name that ends at the node that is closed
ending_is : (name : List ℕ) (symbol : ℕ) (terminal : Bool) (node : Open)
    → ((terminal ≡ true) × (node.depth ≡ length name)) ⊎ ((terminal ≡ false) × (2 ≤ node.children))
    → ending (take node.depth name) (symbol_at (closed_row symbol terminal 0 node)) ≡ (if terminal then (name, symbol) ∷ [] else [])
ending_is name symbol terminal node (inl whole) =
    let all : take node.depth name ≡ name = take_all node.depth name (omega (arith, whole.1)) in
    rw whole.0 (ap (λ (n : List ℕ). (n, symbol) ∷ []) all)
ending_is name symbol terminal node (inr none) = rw none.0 refl

-- the state after a node is closed
closed_front : (names : List (List ℕ)) (symbol : ℕ) (terminal : Bool) (least : ℕ) (rows after : List Row) (node next : Open) (back now
    : List Open)
    → IsClosing names symbol terminal least (reverse rows) node (next ∷ reverse back) → IsPlain (name_at names symbol)
    → after ≡ rows ++ closed_row symbol terminal (max next.depth least) node ∷ []
    → now ≡ adopted least node.opened (next ∷ reverse back)
    → (AreClosed names symbol least (reverse after) now)
    × (names_open (name_at names symbol) (trees_of names (reverse after)) now
    ≡ (if terminal then (name_at names symbol, symbol) ∷ [] else [])
    ++ names_open (name_at names symbol) (trees_of names (reverse rows)) (node ∷ next ∷ reverse back))
closed_front names symbol terminal least rows after node next back now c plain pushed adopts =
    let start : max next.depth least ≡ hanging_depth least (next ∷ reverse back) = grind (arith, nat_tests) in
    let all : reverse after ≡ closed_row symbol terminal (hanging_depth least (next ∷ reverse back)) node ∷
    reverse rows
    = reverse-last rows after _ pushed
    ∙ ap (λ (s : ℕ). closed_row symbol terminal s node ∷ reverse rows) start in
    let C : List Row × List Open → Type 0 = λ p. AreClosed names symbol least p.0 p.1 in
    let is : (let p : List Row × List Open = (reverse after, now) in p)
    ≡ (
      closed_row symbol terminal (hanging_depth least (next ∷ reverse back)) node ∷ reverse rows,
      adopted least node.opened (next ∷ reverse back),
    )
    = pair all adopts in
    let names_are = names_closed names symbol terminal least (reverse rows) node (next ∷ reverse back) c in
    let end = ending_is (name_at names symbol) symbol terminal node c.ends in (
      subst C (sym is) (closes names symbol terminal least (reverse rows) node (next ∷ reverse back) c plain),
      ap (λ (p : List Row × List Open). names_open (name_at names symbol) (trees_of names p.0) p.1) is
          ∙ names_are
          ∙ ap (λ (xs : List (List ℕ × ℕ)). xs ++ names_open (name_at names symbol) (trees_of names (reverse rows)) (node ∷ next ∷
          reverse back)) end,
    )
  where
    pair : {A B : Type 0} {a b : A} {c d : B} → a ≡ b → c ≡ d → (let r : A × B = (a, c) in r ≡ (b, d))
    pair p q = cc

-- the same, from the ends of the lists
pub closed_after : (names same : List (List ℕ)) (symbol : ℕ) (terminal : Bool) (least start : ℕ) (rows pushed after : List Row)
    (all mid back now : List Open)
    (node next : Open) → all ≡ mid ++ node ∷ [] → mid ≡ back ++ next ∷ []
    → AreClosing names symbol terminal least (reverse rows) (reverse all) → IsPlain (name_at names symbol)
    → start ≡ max next.depth least → pushed ≡ rows ++ closed_row symbol terminal start node ∷ []
    → after ≡ pushed
    → now ≡ adopted least node.opened (next ∷ reverse back) → same ≡ names
    → ClosedAs same symbol terminal least (reverse rows) (reverse all) (reverse after) now
closed_after names same symbol terminal least start rows pushed after all mid back now node next last before c plain start_is
    row_is after_is adopts names_is =
    let is : reverse all ≡ node ∷ next ∷ reverse back
    = reverse-last mid all node last ∙ ap (λ (xs : List Open). node ∷ xs) (reverse-last back mid next before) in
    let at = last_two names symbol terminal least (reverse rows) all mid back node next last before c in
    let put : after ≡ rows ++ closed_row symbol terminal (max next.depth least) node ∷ []
    = after_is ∙ row_is ∙ ap (λ (s : ℕ). rows ++ closed_row symbol terminal s node ∷ []) start_is in
    let both = closed_front names symbol terminal least rows after node next back now at plain put adopts in
    let C : List Open → Type 0 = λ os. ClosedAs names symbol terminal least (reverse rows) os (reverse after) now in
    let N : List (List ℕ) → Type 0 = λ ns. ClosedAs ns symbol terminal least (reverse rows) (reverse all) (reverse after) now in
    subst N (sym names_is) (subst C (sym is) (record { closed = both.0; built = both.1 }))
