-- The nodes of an exports trie stand at their places.
--
-- With consistent widths a node has as many bytes as its size says, so the place of a node, which is the sum of the sizes of
-- those before it, is where its bytes begin. Each node is read there: the places that edges name are within the bytes,
-- so they are numbers of 64 bits, and so is the size of each terminal part.
use Rattle.std.proofs.Common.{◌≡◌, ℕ, suc, ◌+◌, ◌^◌, ◌<◌, ◌≤◌, List, [], ◌∷◌, ◌++◌, length, take, drop, sum, get_or, Option, Some, None, IfSome, Contains, refl, sym, ap, subst, append_assoc, ◌∙◌, arith, inl, inr}
use Rattle.std.specs.Option.{option_map}
use Rattle.std.proofs.lemmas.List.{append-nil, length-append, take-append-le, get_or_default}
use Rattle.std.proofs.Math.Seq.{take-append-add}
use Rattle.std.proofs.lemmas.List.Sums.{sum_by-append, sum_by-take-le}
use Rattle.macho_bytes.specs.Uleb.{uleb_of}
use Rattle.macho_trie.specs.Exports.{Exported, as_value}
use Rattle.macho_trie.specs.steps.Says.{IsSound}
use Rattle.macho_trie.specs.Nodes.{node_at}
use Rattle.macho_trie.specs.Lookup.{Finds, here, along, trie_finds}
use Rattle.macho_trie.specs.Trees.{Edges, no_edge, edge, LeadsTo, edge_count, node_count, AreRadix}
use Rattle.macho_trie.specs.Encoding.{export_bytes, terminal_bytes, says_of, edges_bytes, node_bytes, tree_bytes, edges_size, node_sizes, place_of, total_of, terminal_size, IsExportsTrie}
use Rattle.macho_trie.proofs.Sizes.{length-node_sizes}
use Rattle.macho_trie.proofs.Readback.{drop_more, node_here, node_of}
use Rattle.macho_trie.proofs.Following.{AllStand, leads_found, found_leads, at_child}
use Rattle.macho_bytes.proofs.Maps.{sum-cons}

-- widths are those of the places, in a range of numbers
abbrev pub AreFitting : (ℕ → ℕ) → (ℕ → ℕ) → ℕ → Edges → Type 0
AreFitting place width i es = (j : ℕ) → i ≤ j → j < i + node_count es → width j ≡ length (uleb_of (place j))

edges_long : (place width : ℕ → ℕ) (i : ℕ) (es : Edges) → AreFitting place width i es → length (edges_bytes place i es) ≡ edges_size
    width i es
edges_long place width i no_edge f = refl
edges_long place width i (edge label symbol below rest) f =
    let others : List ℕ = edges_bytes place (i + (node_count below + 1)) rest in
    omega (
      arith,
      length-append label (0 ∷ (uleb_of (place i) ++ others)),
      length-append (uleb_of (place i)) others,
      f i (omega arith) (omega arith),
      edges_long place width (i + (node_count below + 1)) rest (λ j a b. f j (omega arith) (omega arith)),
    )

pub node_long : (says : ℕ → Exported) (place width : ℕ → ℕ) (i : ℕ) (symbol : Option ℕ) (below : Edges)
    → AreFitting place width (i + 1) below
    → length (node_bytes says place i symbol below) ≡ terminal_size says symbol + 1 + edges_size width (i + 1) below
node_long says place width i symbol below f =
    omega (
      arith,
      length-append (terminal_bytes (option_map says symbol)) (edge_count below ∷ edges_bytes place (i + 1) below),
      edges_long place width (i + 1) below f,
    )

sum-append : (xs ys : List ℕ) → sum (xs ++ ys) ≡ sum xs + sum ys
sum-append xs ys = sum_by-append (λ y. y) xs ys

-- the same below the first node
abbrev pub AreFittingBelow : (ℕ → ℕ) → (ℕ → ℕ) → ℕ → Edges → Type 0
AreFittingBelow place width i es = (j : ℕ) → i + 1 ≤ j → j < i + node_count es → width j ≡ length (uleb_of (place j))

pub tree_long : (says : ℕ → Exported) (place width : ℕ → ℕ) (i : ℕ) (es : Edges) → AreFittingBelow place width i es
    → length (tree_bytes says place i es) ≡ sum (node_sizes (terminal_size says) width i es)
tree_long says place width i no_edge f = refl
tree_long says place width i (edge label symbol below rest) f =
    let own : List ℕ = node_bytes says place i symbol below in
    let under : List ℕ = tree_bytes says place (i + 1) below in
    let after : List ℕ = tree_bytes says place (i + (node_count below + 1)) rest in
    let under_sizes : List ℕ = node_sizes (terminal_size says) width (i + 1) below in
    let after_sizes : List ℕ = node_sizes (terminal_size says) width (i + (node_count below + 1)) rest in
    omega (
      arith,
      length-append own (under ++ after),
      length-append under after,
      node_long says place width i symbol below (λ j a b. f j (omega arith) (omega arith)),
      tree_long says place width (i + 1) below (λ j a b. f j (omega arith) (omega arith)),
      tree_long says place width (i + (node_count below + 1)) rest (λ j a b. f j (omega arith) (omega arith)),
      sum-cons (terminal_size says symbol + 1 + edges_size width (i + 1) below) (under_sizes ++ after_sizes),
      sum-append under_sizes after_sizes,
    )

-- A terminal part that is written can be read.
abbrev pub IsReadable : Option Exported → Type 0
IsReadable m = IfSome m (λ x. IsSound x × (length (export_bytes x) < 2 ^ 64))

-- all nodes stand, each at the place that its number has
pub all_stand : (bytes back : List ℕ) (says : ℕ → Exported) (place width : ℕ → ℕ) (i p bound : ℕ) (es : Edges) → AreRadix es
    → AreFittingBelow place width i es → ((j : ℕ) → i ≤ j → j < i + node_count es → place j < 2 ^ 64)
    → ((m : Option ℕ) → terminal_size says m ≤ bound → IsReadable (option_map says m)) → length (tree_bytes says place i es) ≤ bound
    → ((k : ℕ) → k < node_count es → place (i + k) ≡ p + sum (take k (node_sizes (terminal_size says) width i es)))
    → drop p bytes ≡ tree_bytes says place i es ++ back → AllStand bytes says place i es
all_stand bytes back says place width i p bound no_edge radix f small ok within at is = tt
all_stand bytes back says place width i p bound (edge label symbol below rest) radix f small ok within at is =
    let own : List ℕ = node_bytes says place i symbol below in
    let under : List ℕ = tree_bytes says place (i + 1) below in
    let after : List ℕ = tree_bytes says place (i + (node_count below + 1)) rest in
    let size : ℕ = terminal_size says symbol + 1 + edges_size width (i + 1) below in
    let under_sizes : List ℕ = node_sizes (terminal_size says) width (i + 1) below in
    let after_sizes : List ℕ = node_sizes (terminal_size says) width (i + (node_count below + 1)) rest in
    let own_long : length own ≡ size = node_long says place width i symbol below (λ j a b. f j (omega arith) (omega arith)) in
    let whole : length (own ++ (under ++ after)) ≡ length own + (length under + length after)
    = omega (arith, length-append own (under ++ after), length-append under after) in
    let text : drop p bytes ≡ own ++ (under ++ (after ++ back))
    = is ∙ append_assoc own (under ++ after) back ∙ ap (λ (xs : List ℕ). own ++ xs) (append_assoc under after back) in
    let here_place : place i ≡ p = ap place (omega arith) ∙ at 0 (omega arith) ∙ omega arith in
    let node = node_here bytes (under ++ (after ++ back)) says place i p symbol below (ok symbol (omega (arith, own_long, whole)))
    radix.2 (λ j a b. small j (omega arith) (omega arith)) text in
    let behind : drop (p + length own) bytes ≡ under ++ (after ++ back) = drop_more bytes own (under ++ (after ++ back)) p text in
    let further : drop (p + length own + length under) bytes ≡ after ++ back = drop_more bytes under (after ++ back) (p + length own)
    behind in
    let under_count : length under_sizes ≡ node_count below = length-node_sizes (terminal_size says) width (i + 1) below in
    let under_long : length under ≡ sum under_sizes = tree_long says place width (i + 1) below (λ j a b. f j (omega arith) (omega
    arith)) in (
      ap (λ (q : ℕ). node_at bytes q) here_place ∙ node,
      all_stand bytes (after ++ back) says place width (i + 1) (p + length own) bound below radix.2 (λ j a b. f j (omega arith) (omega
          arith))
          (λ j a b. small j (omega arith) (omega arith)) ok (omega (arith, whole))
          (λ k h. let next : i + 1 + k ≡ i + suc k = omega arith in
          let cut : take k (under_sizes ++ after_sizes) ≡ take k under_sizes = take-append-le k under_sizes after_sizes (omega arith) in
          ap place next ∙ at (suc k) (omega arith)
          ∙ omega (arith, sum-cons size (take k (under_sizes ++ after_sizes)), ap sum cut, own_long)) behind,
      all_stand bytes back says place width (i + (node_count below + 1)) (p + length own + length under) bound rest radix.4
          (λ j a b. f j (omega arith) (omega arith)) (λ j a b. small j (omega arith) (omega arith)) ok (omega (arith, whole))
          (λ k h. let next : i + (node_count below + 1) + k ≡ i + suc (node_count below + k) = omega arith in
          let count : node_count below + k ≡ length under_sizes + k = omega arith in
          let cut : take (node_count below + k) (under_sizes ++ after_sizes) ≡ under_sizes ++ take k after_sizes
          = ap (λ (n : ℕ). take n (under_sizes ++ after_sizes)) count ∙ take-append-add under_sizes after_sizes k in
          ap place next ∙ at (suc (node_count below + k)) (omega arith)
          ∙ omega (
            arith,
            sum-cons size (take (node_count below + k) (under_sizes ++ after_sizes)),
            ap sum cut,
            sum-append under_sizes
                (take k after_sizes),
            own_long,
            under_long,
          )) further,
    )

-- the numbers of an exports trie
pub trie_long : (symbols : List (List ℕ × Exported)) (bytes : List ℕ) → (t : IsExportsTrie symbols bytes)
    → length bytes ≡ total_of (terminal_size (says_of symbols)) t.width (edge [] t.symbol t.below no_edge)
unfolding total_of
trie_long symbols bytes t =
    ap length t.text ∙ tree_long (says_of symbols) (place_of (terminal_size (says_of symbols)) t.width (edge [] t.symbol t.below
    no_edge)) t.width 0
    (edge [] t.symbol t.below no_edge) (λ j a b. t.least.consistent j (omega arith) (omega arith))

place_within : (size : Option ℕ → ℕ) (width : ℕ → ℕ) (tree : Edges) (k : ℕ) → place_of size width tree k ≤ total_of size width tree
unfolding place_of total_of
place_within size width tree k = sum_by-take-le (λ x. x) (node_sizes size width 0 tree) k

place_sum : (size : Option ℕ → ℕ) (width : ℕ → ℕ) (tree : Edges) (k : ℕ) → place_of size width tree k ≡ sum (take k (node_sizes size
    width 0 tree))
unfolding place_of
place_sum size width tree k = refl

readable : (says : ℕ → Exported) (bound : ℕ) → ((s : ℕ) → IsSound (says s)) → bound < 2 ^ 64 → (m : Option ℕ) → terminal_size says m ≤ bound
    → IsReadable (option_map says m)
readable says bound sound small None within = tt
readable says bound sound small (Some s) within =
    (sound s, omega (arith, length-append (uleb_of (length (export_bytes (says s)))) (export_bytes (says s))))

-- The root and the nodes below it stand.
pub record IsStanding (symbols : List (List ℕ × Exported)) (bytes : List ℕ) (place : ℕ → ℕ) (symbol : Option ℕ) (below : Edges) : Type
    0 where
  pub first : place 0 ≡ 0
  pub root : node_at bytes 0 ≡ Some (node_of (says_of symbols) place 0 symbol below)
  pub nodes : AllStand bytes (says_of symbols) place 1 below

pub stands : (symbols : List (List ℕ × Exported)) (bytes : List ℕ) → (t : IsExportsTrie symbols bytes) → length bytes < 2 ^ 64
    → ((s : ℕ) → IsSound (says_of symbols s))
    → IsStanding symbols bytes (place_of (terminal_size (says_of symbols)) t.width (edge [] t.symbol t.below no_edge)) t.symbol t.below
stands symbols bytes t small sound =
    let says : ℕ → Exported = says_of symbols in
    let size : Option ℕ → ℕ = terminal_size says in
    let tree : Edges = edge [] t.symbol t.below no_edge in
    let place : ℕ → ℕ = place_of size t.width tree in
    let own : List ℕ = node_bytes says place 0 t.symbol t.below in
    let under : List ℕ = tree_bytes says place 1 t.below in
    let fits : AreFittingBelow place t.width 0 tree = λ j a b. t.least.consistent j (omega arith) (omega arith) in
    let own_long = node_long says place t.width 0 t.symbol t.below (λ j a b. fits j (omega arith) (omega arith)) in
    let long = trie_long symbols bytes t in
    let all_small : (j : ℕ) → place j < 2 ^ 64 = λ j. omega (arith, place_within size t.width tree j) in
    let ok = readable says (length bytes) sound small in
    let text : drop 0 bytes ≡ own ++ (under ++ []) = t.text in
    let whole : length bytes ≡ length own + length under
    = ap length t.text ∙ omega (arith, length-append own (under ++ []), length-append under []) in
    let behind : drop (0 + length own) bytes ≡ under ++ [] = drop_more bytes own (under ++ []) 0 text in
    let sizes : List ℕ = node_sizes size t.width 1 t.below in
    record {
      first = place_sum size t.width tree 0;
      root = node_here bytes (under ++ []) says place 0 0 t.symbol t.below (ok t.symbol (omega (arith, own_long, whole))) t.radix
          (λ j a b. all_small j) text;
      nodes = all_stand bytes [] says place t.width 1 (0 + length own) (length bytes) t.below t.radix (λ j a b. fits j (omega arith)
          (omega arith))
          (λ j a b. all_small j) ok (omega (arith, whole))
          (λ k h. let next : 1 + k ≡ suc k = omega arith in
          let cut : take k (sizes ++ []) ≡ take k sizes = ap (λ (xs : List ℕ). take k xs) (append-nil sizes) in
          place_sum size t.width tree (1 + k)
          ∙ ap (λ (n : ℕ). sum (take n (node_sizes size t.width 0 tree))) next
          ∙ omega (arith, sum-cons (size t.symbol + 1 + edges_size t.width 1 t.below) (take k (sizes ++ [])), ap sum cut, own_long)) behind;
    }

both : {a n : List ℕ} {b y : Exported} → a ≡ n → b ≡ y → (let p : List ℕ × Exported = (a, b) in p ≡ (n, y))
both u v = cc

-- look-up is the register
pub trie_found : (symbols : List (List ℕ × Exported)) (bytes : List ℕ) → IsExportsTrie symbols bytes → length bytes < 2 ^ 64
    → ((s : ℕ) → IsSound (says_of symbols s)) → (name : List ℕ) (x : Exported) → Contains symbols (name, x) → trie_finds bytes name x
trie_found symbols bytes t small sound name x (s, within, is) =
    let entry : get_or symbols s ([], as_value 0 0) ≡ (name, x) = get_or_default symbols s ([], as_value 0 0) (name, x) within ∙ is in
    let says_x : says_of symbols s ≡ x = ap (λ (p : List ℕ × Exported). p.1) entry in
    let l = (t.names name s).1 (within, ap (λ (p : List ℕ × Exported). p.0) entry) in
    let st = stands symbols bytes t small sound in
    let T : Exported → Type 0 = λ y. trie_finds bytes name y in
    subst T says_x (from_root symbols bytes _ t.symbol t.below t.radix st name s l)
  where
    from_root : (symbols : List (List ℕ × Exported)) (bytes : List ℕ) (place : ℕ → ℕ) (symbol : Option ℕ) (below : Edges) → AreRadix below
        → IsStanding symbols bytes place symbol below → (name : List ℕ) (s : ℕ) → LeadsTo (edge [] symbol below no_edge) name s
        → Finds bytes (says_of symbols s) 0 name
    from_root symbols bytes place symbol below radix st name s (inr l) = absurd l
    from_root symbols bytes place symbol below radix st name s (inl (left, is, inl (end, marked))) =
        here 0 name (node_of (says_of symbols) place 0 symbol below) st.root (is
        ∙ end) (ap (λ (m : Option ℕ). option_map (says_of symbols) m) marked)
    from_root symbols bytes place symbol below radix st name s (inl (left, is, inr deeper)) =
        let t = leads_found bytes (says_of symbols) place 1 below left s radix st.nodes deeper in
        let F : List ℕ → Type 0 = λ n. Finds bytes (says_of symbols s) 0 n in
        subst F (sym is) (along 0 left (node_of (says_of symbols) place 0 symbol below) t.edge st.root t.first t.further)

pub trie_only : (symbols : List (List ℕ × Exported)) (bytes : List ℕ) → IsExportsTrie symbols bytes → length bytes < 2 ^ 64
    → ((s : ℕ) → IsSound (says_of symbols s)) → (name : List ℕ) (x : Exported) → trie_finds bytes name x → Contains symbols (name, x)
trie_only symbols bytes t small sound name x f =
    let st = stands symbols bytes t small sound in
    let place : ℕ → ℕ = place_of (terminal_size (says_of symbols)) t.width (edge [] t.symbol t.below no_edge) in
    let root : node_at bytes (place 0) ≡ Some (node_of (says_of symbols) place 0 t.symbol t.below) = ap (λ (q : ℕ). node_at bytes q)
    st.first ∙ st.root in
    let F : ℕ → Type 0 = λ q. Finds bytes x q name in
    let c = at_child bytes (says_of symbols) place 0 t.symbol t.below name x root
    (λ e g h. found_leads bytes (says_of symbols) place 1 t.below name x e st.nodes g h) (subst F (sym st.first) f) in
    let entry = (t.names name c.0).0 (inl (name, refl, c.1)) in
    (c.0, entry.0, get_or_default symbols c.0 (name, x) ([], as_value 0 0) entry.0 ∙ pair entry.1 (sym c.2))
  where
    pair : {p : List ℕ × Exported} {n : List ℕ} {y : Exported} → p.0 ≡ n → p.1 ≡ y → p ≡ (n, y)
    pair u v = both u v
