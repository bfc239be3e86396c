-- From one name to the next lesser one, and the end of building.
--
-- Two names that are equal up to a depth have the same ways up to it, so what is known of the open nodes above that depth
-- holds for both. The lesser name leaves the way there, at a byte below that of the closed child, or ends there. At the
-- end only the root is open, and its row is the first of the table.
use Rattle.std.proofs.Common.{◌≡◌, ℕ, ◌<◌, ◌≤◌, nat_lt, if◌then◌else◌, true, false, List, [], ◌∷◌, ◌++◌, length, take, slice_index, refl, sym, ap, subst, ◌∙◌, arith, inl, inr}
use Rattle.std.proofs.lemmas.Bool.{cases_lt, lt-ltb}
use Rattle.std.proofs.lemmas.List.{take-take, get_or-take}
use Rattle.macho_trie.specs.Trees.{Edges, no_edge, edge, edge_count, BeginsAbove}
use Rattle.macho_trie.specs.Tables.{first_edges, later_edges, name_at, trees_of}
use Rattle.macho_trie.specs.steps.Building.{names_along, names_open, AreAbove, BeginsWith, IsOpenAt, IsClosing, IsClosed, IsReady, arrived, AreOpenAt, AreClosing, AreReady, root_node}
use Rattle.macho_trie.proofs.Building.{node_count-rows}
use Rattle.macho_trie.specs.declared.table.Row.{Row}
use Rattle.macho_trie.specs.declared.build.Open.{Open}
use Rattle.macho_bytes.proofs.Groups.{not_below}

-- names that are equal up to a depth are equal up to a lesser one, and have the same bytes below it
same_way : (n m : List ℕ) (shared depth : ℕ) → take shared n ≡ take shared m → depth ≤ shared → take depth n ≡ take depth m
same_way n m shared depth same low =
    sym (take-take depth shared n low) ∙ ap (λ (xs : List ℕ). take depth xs) same ∙ take-take depth shared m low

same_byte : (n m : List ℕ) (shared depth : ℕ) → take shared n ≡ take shared m → depth < shared → slice_index n depth ≡ slice_index m depth
same_byte n m shared depth same low =
    sym (get_or-take shared n depth 0 low) ∙ ap (λ (xs : List ℕ). slice_index xs depth) same ∙ get_or-take shared m depth 0 low

-- the open nodes above a depth up to which two names are equal
above_same : (n m : List ℕ) (shared depth : ℕ) (trees : Edges) (nodes : List Open) → take shared n ≡ take shared m → depth ≤ shared
    → AreAbove n depth trees nodes → AreAbove m depth trees nodes
above_same n m shared depth trees [] same low a = a
above_same n m shared depth trees (node ∷ nodes) same low a =
    let Begins : ℕ → Type 0 = λ b. BeginsAbove b (first_edges node.children trees) in
    let byte = same_byte n m shared node.depth same (omega (arith, a.0)) in (
      a.0,
      a.1,
      subst Begins byte a.2,
      a.3,
      above_same n m shared node.depth (later_edges node.children trees) nodes same (omega (arith, a.0)) a.4,
    )

names_above_same : (n m : List ℕ) (shared depth : ℕ) (trees : Edges) (nodes : List Open) → take shared n ≡ take shared m → depth ≤ shared
    → AreAbove n depth trees nodes → names_open n trees nodes ≡ names_open m trees nodes
names_above_same n m shared depth trees [] same low a = refl
names_above_same n m shared depth trees (node ∷ nodes) same low a =
    let way = same_way n m shared node.depth same (omega (arith, a.0)) in
    let rest = names_above_same n m shared node.depth (later_edges node.children trees) nodes same (omega (arith, a.0)) a.4 in
    ap (λ (w : List ℕ). names_along w (first_edges node.children trees) ++ names_open n (later_edges node.children trees) nodes) way
    ∙ ap (λ (xs : List (List ℕ × ℕ)). names_along (take node.depth m) (first_edges node.children trees) ++ xs) rest

pub names_same : (n m : List ℕ) (shared : ℕ) (trees : Edges) (node : Open) (nodes : List Open) → take shared n ≡ take shared m
    → node.depth ≤ shared
    → AreAbove n node.depth (later_edges node.children trees) nodes → names_open n trees (node ∷ nodes) ≡ names_open m trees (node ∷ nodes)
names_same n m shared trees node nodes same low a =
    let way = same_way n m shared node.depth same low in
    let rest = names_above_same n m shared node.depth (later_edges node.children trees) nodes same low a in
    ap (λ (w : List ℕ). names_along w (first_edges node.children trees) ++ names_open n (later_edges node.children trees) nodes) way
    ∙ ap (λ (xs : List (List ℕ × ℕ)). names_along (take node.depth m) (first_edges node.children trees) ++ xs) rest

-- The lesser of two names: they are equal up to a depth, where the lesser one ends or has the lesser byte.
pub record IsLess (n m : List ℕ) (shared : ℕ) : Type 0 where
  pub same : take shared n ≡ take shared m
  pub within : shared ≤ length n
  pub parts : shared < length m
  pub less : shared < length n → slice_index n shared < slice_index m shared

begins_above : (b c : ℕ) (trees : Edges) → BeginsWith c trees → b < c → BeginsAbove b trees
begins_above b c no_edge h less = tt
begins_above b c (edge label symbol below rest) h less = omega arith

begins_some : (c : ℕ) (trees : Edges) → BeginsWith c trees → 1 ≤ edge_count trees
begins_some c no_edge h = absurd h
begins_some c (edge label symbol below rest) h = omega arith

-- a closed node is ready for the lesser name that leaves the way there
pub ready : (names : List (List ℕ)) (name : List ℕ) (symbol least : ℕ) (rows : List Row) (node : Open) (nodes : List Open)
    → IsClosed names symbol least rows node nodes → node.depth ≡ least → IsLess name (name_at names symbol) least
    → IsReady names name rows node nodes
ready names name symbol least rows node nodes c here l =
    let count = begins_some (slice_index (name_at names symbol) node.depth) (first_edges node.children (trees_of names rows)) c.begins in
    let Byte : ℕ → Type 0 = λ d. slice_index name d < slice_index (name_at names symbol) d in
    record {
      sound = c.sound;
      within = omega (arith, l.within);
      group = c.group;
      begins = λ h. begins_above (slice_index name node.depth) (slice_index (name_at names symbol) node.depth)
          (first_edges node.children (trees_of names rows)) c.begins (subst Byte (sym here) (l.less (omega arith)));
      some = inl (omega (arith, c.group.children));
      above = above_same (name_at names symbol) name least node.depth (later_edges node.children (trees_of names rows)) nodes
          (sym l.same) (omega arith) c.above;
    }

pub names_ready : (names : List (List ℕ)) (name : List ℕ) (symbol least : ℕ) (rows : List Row) (node : Open) (nodes : List Open)
    → IsClosed names symbol least rows node nodes → node.depth ≡ least → IsLess name (name_at names symbol) least
    → names_open (name_at names symbol) (trees_of names rows) (node ∷ nodes) ≡ names_open name (trees_of names rows) (node ∷ nodes)
names_ready names name symbol least rows node nodes c here l =
    names_same (name_at names symbol) name least (trees_of names rows) node nodes (sym l.same) (omega arith) c.above

-- the name's own node is the deepest one then
arrives_at : (names : List (List ℕ)) (symbol : ℕ) (rows : List Row) (node : Open) (nodes : List Open) → symbol < length names
    → IsReady names (name_at names symbol) rows node nodes → node.depth ≡ length (name_at names symbol)
    → IsOpenAt names symbol rows node nodes
arrives_at names symbol rows node nodes here r whole = record {
  here = here;
  sound = r.sound;
  depth = whole;
  group = r.group;
  above =
      r.above;
}

arrives_new : (names : List (List ℕ)) (symbol : ℕ) (rows : List Row) (node : Open) (nodes : List Open) → symbol < length names
    → IsReady names (name_at names symbol) rows node nodes → node.depth < length (name_at names symbol)
    → IsOpenAt names symbol rows (record { depth = length (name_at names symbol); children = 0; opened = length rows }) (node ∷ nodes)
arrives_new names symbol rows node nodes here r deep = record {
  here = here;
  sound = r.sound;
  depth = refl;
  group = record { children = refl; opened = node_count-rows names rows; radix = tt };
  above = (deep, r.group, r.begins deep, r.some, r.above);
}

pub arrives : (names : List (List ℕ)) (symbol : ℕ) (rows : List Row) (nodes : List Open) → symbol < length names
    → AreReady names (name_at names symbol) rows nodes → AreOpenAt names symbol rows (arrived (length (name_at names symbol)) (length
    rows) nodes)
arrives names symbol rows [] here r = absurd r
arrives names symbol rows (node ∷ nodes) here r =
    elim (cases_lt node.depth (length (name_at names symbol))) [
      | inl deep ↦ rw (lt-ltb node.depth (length (name_at names symbol)) deep) (arrives_new names symbol rows node nodes here r deep)
      | inr whole ↦ rw (not_below node.depth (length (name_at names symbol)) whole)
          (arrives_at names symbol rows node nodes here r (omega (arith, r.within)))
    ]

pub names_arrived : (name : List ℕ) (count : ℕ) (trees : Edges) (nodes : List Open) → names_open name trees (arrived (length name)
    count nodes) ≡ names_open name trees nodes
names_arrived name count trees [] = refl
names_arrived name count trees (node ∷ nodes) =
    elim (nat_lt node.depth (length name)) as (λ b. names_open name trees
    (if b then record { depth = length name; children = 0; opened = count } ∷ node ∷ nodes else node ∷ nodes) ≡ names_open name trees
    (node ∷ nodes)) [
      | true ↦ refl
      | false ↦ refl
    ]

pub closing_on : (names : List (List ℕ)) (symbol least : ℕ) (rows : List Row) (node : Open) (nodes : List Open)
    → IsClosed names symbol least rows node nodes
    → least < node.depth → IsClosing names symbol false least rows node nodes
closing_on names symbol least rows node nodes c deep = record {
  here = c.here;
  sound = c.sound;
  deep = deep;
  within = omega (arith, c.within);
  group = c.group;
  ends = elim c.ends [ inl at ↦ absurd (omega arith) | inr two ↦ inr (refl, two) ];
  above = c.above;
}
