-- A node is read edge by edge, and its children are pushed edge by edge.
--
-- Edges that were read, and behind them those that are left, are all edges of the node. With one more read, it moves from
-- the front of those that are left to the end of those that were read. So the last one read makes the list whole, and one
-- that isn't whole makes it none. The children on the stack are those of the last edges, the last one first.
use Rattle.std.proofs.Common.{◌≡◌, ℕ, suc, ◌+◌, ◌-◌, ◌<◌, ◌≤◌, List, [], ◌∷◌, ◌++◌, length, drop, get_or, map, slice_index}
use Rattle.std.proofs.Common.{Option, Some, None, refl, sym, ap, ◌∙◌, arith, append_assoc, append-nil}
use denote.Ref.{Bor}
use Rattle.std.specs.Option.{option_map}
use Rattle.std.proofs.lemmas.List.{map-append, drop_all, length-append}
use Rattle.std.proofs.Math.Seq.{drop-cons}
use Rattle.macho_trie.specs.Exports.{Exported}
use Rattle.macho_trie.specs.Nodes.{Edge, edge_at, edges_at, terminal_at, node_at}
use Rattle.macho_trie.specs.steps.Walking.{last_first}
use Rattle.macho_trie.specs.steps.Stacks.{edge_of, edges_of, behind_edges}

behind_none : (edges : Option (List Edge)) → behind_edges [] edges ≡ edges
behind_none None = refl
behind_none (Some es) = refl

one_read : (bytes : List ℕ) (others at after : ℕ) (es : List Edge) (e : Edge) → Some (e, after) ≡ edge_at bytes at
    → behind_edges es (edges_at (suc others) bytes at) ≡ behind_edges (es ++ e ∷ []) (edges_at others bytes after)
unfolding edges_at
one_read bytes others at after es e read = rw (← read) (each (edges_at others bytes after))
  where
    each : (fs : Option (List Edge)) → behind_edges es (option_map (λ fs. e ∷ fs) fs) ≡ behind_edges (es ++ e ∷ []) fs
    each None = refl
    each (Some fs) = ap (λ (l : List Edge). let o : Option (List Edge) = Some l in o) (sym (append_assoc es (e ∷ []) fs))

not_whole : (bytes : List ℕ) (others at : ℕ) (es : List Edge) → None ≡ edge_at bytes at
    → None ≡ behind_edges es (edges_at (suc others) bytes at)
unfolding edges_at
not_whole bytes others at es none = rw (← none) refl

none_left : (bytes : List ℕ) (at : ℕ) (es : List Edge) → behind_edges es (edges_at 0 bytes at) ≡ Some es
unfolding edges_at
none_left bytes at es = ap (λ (l : List Edge). let o : Option (List Edge) = Some l in o) (append-nil es)

-- the loop over the edges: its start, one more, one that isn't whole, and the end
pub starts : (edges : List (Bor (List ℕ) × ℕ)) (all : Option (List Edge)) → edges ≡ [] → behind_edges (edges_of edges) all ≡ all
starts edges all empty = ap (λ (es : List (Bor (List ℕ) × ℕ)). behind_edges (edges_of es) all) empty ∙ behind_none all

pub goes_on : (bytes : List ℕ) (count i at after : ℕ) (old more : List (Bor (List ℕ) × ℕ)) (e : Bor (List ℕ) × ℕ) (all : Option (List Edge))
    → i < count → Some (edge_of e, after) ≡ edge_at bytes at → more ≡ old ++ e ∷ []
    → behind_edges (edges_of old) (edges_at (count - i) bytes at) ≡ all
    → behind_edges (edges_of more) (edges_at (count - (i + 1)) bytes after) ≡ all
goes_on bytes count i at after old more e all within read is same =
    let left : count - i ≡ suc (count - (i + 1)) = omega arith in
    ap (λ (es : List (Bor (List ℕ) × ℕ)). behind_edges (edges_of es) (edges_at (count - (i + 1)) bytes after)) is
    ∙ ap (λ (es : List Edge). behind_edges es (edges_at (count - (i + 1)) bytes after)) (map-append edge_of old (e ∷ []))
    ∙ sym (one_read bytes (count - (i + 1)) at after (edges_of old) (edge_of e) read)
    ∙ ap (λ (n : ℕ). behind_edges (edges_of old) (edges_at n bytes at)) (sym left) ∙ same

pub breaks_off : (bytes : List ℕ) (count i at : ℕ) (old : List (Bor (List ℕ) × ℕ)) (all : Option (List Edge)) → i < count
    → None ≡ edge_at bytes at → behind_edges (edges_of old) (edges_at (count - i) bytes at) ≡ all → None ≡ all
breaks_off bytes count i at old all within none same =
    let left : count - i ≡ suc (count - (i + 1)) = omega arith in
    not_whole bytes (count - (i + 1)) at (edges_of old) none
    ∙ ap (λ (n : ℕ). behind_edges (edges_of old) (edges_at n bytes at)) (sym left) ∙ same

pub ends : (bytes : List ℕ) (count i at : ℕ) (old : List (Bor (List ℕ) × ℕ)) (all : Option (List Edge)) → count ≤ i
    → behind_edges (edges_of old) (edges_at (count - i) bytes at) ≡ all → Some (edges_of old) ≡ all
ends bytes count i at old all past same =
    let left : count - i ≡ 0 = omega arith in
    sym (none_left bytes at (edges_of old)) ∙ ap (λ (n : ℕ). behind_edges (edges_of old) (edges_at n bytes at)) (sym left) ∙ same

pub few_more : (old more : List (Bor (List ℕ) × ℕ)) (e : Bor (List ℕ) × ℕ) (n : ℕ) → more ≡ old ++ e ∷ [] → length old ≤ n
    → length more ≤ n + 1
few_more old more e n is few = omega (arith, ap length is, length-append old (e ∷ []))

-- a node by its terminal part and its edges
pub no_terminal_part : (bytes : List ℕ) (at : ℕ) → None ≡ terminal_at bytes at → None ≡ node_at bytes at
unfolding node_at
no_terminal_part bytes at none = rw (← none) refl

pub no_edges : (bytes : List ℕ) (at end : ℕ) (x : Option Exported) → Some (x, end) ≡ terminal_at bytes at
    → None ≡ edges_at (slice_index bytes end) bytes (end + 1) → None ≡ node_at bytes at
unfolding node_at
no_edges bytes at end x read none = rw (← read) (rw (← none) refl)

pub whole_node : (bytes : List ℕ) (at end : ℕ) (x : Option Exported) (es : List Edge) → Some (x, end) ≡ terminal_at bytes at
    → Some es ≡ edges_at (slice_index bytes end) bytes (end + 1) → Some (record { export = x; edges = es }) ≡ node_at bytes at
unfolding node_at
whole_node bytes at end x es read all = rw (← read) (rw (← all) refl)

-- the children of the last edges: none, and one more
pub none_pushed : {X Y : Type 0} (f : X → Y) (xs : List X) (old : List Y) → old ≡ old ++ last_first (map f (drop (length xs) xs))
unfolding last_first
none_pushed {X} {Y} f xs old =
    let end : drop (length xs) xs ≡ [] = drop_all (length xs) xs (omega arith) in
    sym (append-nil old) ∙ ap (λ (ys : List X). old ++ last_first (map f ys)) (sym end)

pub one_pushed : {X Y : Type 0} (f : X → Y) (xs : List X) (old items more : List Y) (left : ℕ) (d : X) → 0 < left → left ≤ length xs
    → more ≡ items ++ f (get_or xs (left - 1) d) ∷ [] → items ≡ old ++ last_first (map f (drop left xs))
    → more ≡ old ++ last_first (map f (drop (left - 1) xs))
unfolding last_first
one_pushed {X} {Y} f xs old items more left d some within pushed so_far =
    let x : X = get_or xs (left - 1) d in
    let back : suc (left - 1) ≡ left = omega arith in
    let cut : drop (left - 1) xs ≡ x ∷ drop left xs
    = drop-cons xs (left - 1) d (omega arith) ∙ ap (λ (n : ℕ). x ∷ drop n xs) back in
    pushed ∙ ap (λ (ys : List Y). ys ++ f x ∷ []) so_far ∙ append_assoc old (last_first (map f (drop left xs))) (f x ∷ [])
    ∙ ap (λ (ys : List X). old ++ last_first (map f ys)) (sym cut)
