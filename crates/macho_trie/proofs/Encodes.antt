-- What the public calls promise, from the table, the places and the bytes.
--
-- The places are those under the least widths, so the one after the last node is the size of all, and the bytes have that
-- length, since each node has as many bytes as its size says. The tree that the rows spell is the radix tree of the
-- names, so the bytes are its exports trie. Terminal parts that are nowhere longer have no greater size, and the one for
-- the greatest address is at least as long as that for any other.
use Rattle.std.proofs.Common.{◌≡◌, ◌⊎◌, ◌↔◌, ℕ, zero, suc, ◌+◌, ◌^◌, ◌<◌, ◌≤◌, List, [], ◌∷◌, ◌++◌, length, sum, map, slice_index, get_or, take, drop, Option, Some, None, Contains, refl, sym, ap, subst, ◌∙◌, arith, inl, inr}
use Rattle.std.specs.Option.{option_map}
use Rattle.std.specs.List.{All}
use Rattle.std.proofs.lemmas.Bool.{cases_lt}
use Rattle.std.proofs.lemmas.List.{length-append, length-map, take_all, get_or_default, append-nil}
use Rattle.std.proofs.Math.ListN.{get_or-eq_default}
use Rattle.std.proofs.Math.Seq.{take-append_seam, drop-length}
use Rattle.macho_bytes.specs.Texts.{put}
use Rattle.macho_bytes.specs.Uleb.{uleb_of, uleb_at}
use Rattle.macho_bytes.proofs.Ulebs.{groups_last, length-uleb_of, uleb_of-grows}
use Rattle.macho_trie.specs.Exports.{Exported, as_value, as_reexport}
use Rattle.macho_trie.specs.Says.{symbol_of, said_of}
use Rattle.macho_trie.specs.steps.Says.{IsSound}
use Rattle.macho_trie.specs.Symbols.{symbols_of, names_of}
use Rattle.macho_trie.specs.Trees.{Edges, no_edge, edge, LeadsTo, edge_count, node_count}
use Rattle.macho_trie.specs.Tables.{name_at, trees_of, IsTable}
use Rattle.macho_trie.specs.Encoding.{export_bytes, terminal_bytes, says_of, edges_bytes, node_bytes, tree_bytes, node_sizes, place_of, total_of, terminal_size, AreLeast, IsExportsTrie}
use Rattle.macho_trie.specs.steps.Layouts.{names_at, says_at, size_at, tree_at, AreLaidOut}
use Rattle.macho_trie.specs.Tries.{IsTrieOf, IsSizeOf, IsLengthOfTrie, IsShortest, IsRoomFor, AreNoLarger, Reserves, AreReserved, IsTextOf}
use Rattle.macho_trie.specs.declared.layout.Layout.{Layout}
use Rattle.macho_trie.specs.declared.symbols.Symbols.{Symbols}
use Rattle.macho_trie.specs.declared.symbols.Symbol.{Symbol}
use Rattle.macho_trie.specs.declared.trie.Trie.{Trie}
use Rattle.macho_trie.specs.declared.table.Row.{Row}
use Rattle.macho_trie.proofs.Building.{node_count-rows}
use Rattle.macho_trie.proofs.Sizes.{length-node_sizes, says_is}
use Rattle.macho_trie.proofs.Widths.{place_at, length-places, least-grows, total-grows}
use Rattle.macho_trie.proofs.Standing.{AreFittingBelow, tree_long, trie_found, trie_only}
use Rattle.macho_trie.proofs.Finding.{nothing_found}
use Rattle.macho_trie.specs.Lookup.{trie_finds}
use Rattle.macho_trie.specs.Nodes.{node_at, terminal_at}

-- the place after the last node is the size of all
place_last : (size : Option ℕ → ℕ) (width : ℕ → ℕ) (tree : Edges) (k : ℕ) → k ≡ node_count tree
    → place_of size width tree k ≡ total_of size width tree
unfolding place_of total_of
place_last size width tree k is = ap sum (take_all k (node_sizes size width 0 tree) (omega (arith, length-node_sizes size width 0 tree)))

total_is : (size : Option ℕ → ℕ) (width : ℕ → ℕ) (tree : Edges) → sum (node_sizes size width 0 tree) ≡ total_of size width tree
unfolding total_of
total_is size width tree = refl

pub places_long : (l : Layout) (places : List ℕ) → AreLaidOut l places → length places ≡ length l.rows.now + 1
places_long l places a = length-places (place_of (size_at l) a.width (tree_at l)) places (length l.rows.now) a.placed

pub size_is : (trie : Trie) (l : Layout) (places : List ℕ) (k n d : ℕ) → l.rows.now ≡ trie.rows.items → AreLaidOut l places
    → k ≡ length trie.rows.items
    → n ≡ get_or places k d → IsSizeOf trie (names_at l) (symbols_of l.symbols.now) n
size_is trie l places k n d same a k_is n_is =
    let L : List Row → Type 0 = λ rs. AreLeast (size_at l) a.width (trees_of (names_at l) rs) in
    let count : k ≡ length l.rows.now = omega (arith, k_is, ap length same) in
    let zero_d = get_or_default places k d 0 (omega (arith, places_long l places a, count)) in
    record {
      width = a.width;
      least = subst L same a.least;
      total = n_is ∙ zero_d ∙ place_at (place_of (size_at l) a.width (tree_at l)) places (length l.rows.now) k a.placed (omega (
        arith,
        count,
      ))
          ∙ place_last (size_at l) a.width (tree_at l) k (omega (arith, count, node_count-rows (names_at l) l.rows.now))
          ∙ ap (λ (rs : List Row). total_of (size_at l) a.width (trees_of (names_at l) rs)) same;
    }

-- a greater size
larger : (symbols others : List (List ℕ × Exported)) → AreNoLarger others symbols → (m : Option ℕ)
    → terminal_size (says_of others) m ≤ terminal_size (says_of symbols) m
larger symbols others h None = omega arith
larger symbols others h (Some s) = h s

pub covers : (trie : Trie) (names : List (List ℕ)) (symbols others : List (List ℕ × Exported)) (n m : ℕ) → IsSizeOf trie names symbols n
    → AreNoLarger others symbols → IsSizeOf trie names others m → m ≤ n
covers trie names symbols others n m a h b =
    let tree : Edges = trees_of names trie.rows.items in
    let wider = least-grows (terminal_size (says_of others)) (terminal_size (says_of symbols)) b.width a.width tree (larger symbols
    others h) b.least a.least in
    omega (
      arith,
      a.total,
      b.total,
      total-grows (terminal_size (says_of others)) (terminal_size (says_of symbols)) b.width a.width tree (larger symbols others h) wider,
    )

pub is_room : (trie : Trie) (names : List (List ℕ)) (symbols : List (List ℕ × Exported)) (n : ℕ) → IsSizeOf trie names symbols n
    → IsRoomFor trie names symbols n
is_room trie names symbols n a = record {
  size = λ others m h b. covers trie names symbols others n m a h b;
  widths = λ others narrow wide h b c.
      least-grows (terminal_size (says_of others)) (terminal_size (says_of symbols)) narrow wide (trees_of names trie.rows.items) (larger
      symbols others h) b c;
}

pub only_size : (trie : Trie) (names : List (List ℕ)) (symbols : List (List ℕ × Exported)) (n m : ℕ) → IsSizeOf trie names symbols n
    → IsSizeOf trie names symbols m → m ≡ n
only_size trie names symbols n m a b =
    omega (
      arith,
      covers trie names symbols symbols n m a (λ s. omega arith) b,
      covers trie names symbols symbols m n b (λ s. omega
          arith) a,
    )

pub shortest : (trie : Trie) (names : List (List ℕ)) (symbols : List (List ℕ × Exported)) (n : ℕ) → IsSizeOf trie names symbols n
    → IsShortest trie names symbols n
shortest trie names symbols n a other wide =
    omega (
      arith,
      a.total,
      total-grows (terminal_size (says_of symbols)) (terminal_size (says_of symbols)) a.width other (trees_of names trie.rows.items) (λ
          m. omega arith)
          (a.least.least other wide),
    )

short_flags : (flags : ℕ) → flags < 128 → length (uleb_of flags) ≡ 1
unfolding uleb_of
short_flags flags small = ap length (groups_last 9 flags small)

sized_long : (x : Exported) → length (terminal_bytes (Some x)) ≡ length (uleb_of (length (export_bytes x))) + length (export_bytes x)
sized_long x = length-append (uleb_of (length (export_bytes x))) (export_bytes x)

longer : (x y : Exported) → length (export_bytes y) ≤ length (export_bytes x) → length (terminal_bytes (Some y)) ≤ length
    (terminal_bytes (Some x))
longer x y h = omega (arith, sized_long x, sized_long y, uleb_of-grows (length (export_bytes y)) (length (export_bytes x)) h)

reserved : (x y : Exported) → Reserves x y → length (terminal_bytes (Some y)) ≤ length (terminal_bytes (Some x))
reserved (as_value flags address) (as_value other place) r =
    longer (as_value flags address) (as_value other place)
    (omega (
      arith,
      length-append (uleb_of flags) (uleb_of address),
      length-append (uleb_of other) (uleb_of place),
      short_flags other r.1,
      (length-uleb_of flags).0,
      uleb_of-grows place address (omega (arith, r.0, r.2)),
    ))
reserved (as_value flags address) (as_reexport other ordinal name) r = absurd r
reserved (as_reexport flags ordinal name) y r = omega (arith, ap (λ (x : Exported). length (terminal_bytes (Some x))) r)

pub no_larger : (symbols others : List (List ℕ × Exported)) → AreReserved symbols others → AreNoLarger others symbols
no_larger symbols others r s =
    elim (cases_lt s (length symbols)) [
      | inl within ↦ reserved (says_of symbols s) (says_of others s) (r.each s within)
      | inr past ↦
          let first : says_of symbols s ≡ as_value 0 0 = ap (λ (p : List ℕ × Exported). p.1) (get_or-eq_default symbols (
            [],
            as_value 0
                0,
          ) past) in
          let second : says_of others s ≡ as_value 0 0
          = ap (λ (p : List ℕ × Exported). p.1) (get_or-eq_default others ([], as_value 0 0) (omega (arith, r.count))) in
          omega (arith, ap (λ (x : Exported). length (terminal_bytes (Some x))) (first ∙ sym second))
    ]

-- the places of the bytes are those under the least widths
fitting : (l : Layout) (places : List ℕ) → (a : AreLaidOut l places) → AreFittingBelow (slice_index places) a.width 0 (tree_at l)
fitting l places a j some within =
    let at = place_at (place_of (size_at l) a.width (tree_at l)) places (length l.rows.now) j a.placed (omega (
      arith,
      node_count-rows
          (names_at l) l.rows.now,
    )) in
    a.least.consistent j (omega arith) (omega arith) ∙ ap (λ (n : ℕ). length (uleb_of n)) (sym at)

pub length_is : (trie : Trie) (l : Layout) (places out : List ℕ) → l.rows.now ≡ trie.rows.items → AreLaidOut l places
    → out ≡ tree_bytes (says_at l) (slice_index places) 0 (tree_at l) → IsSizeOf trie (names_at l) (symbols_of l.symbols.now) (length out)
length_is trie l places out same a is =
    let L : List Row → Type 0 = λ rs. AreLeast (size_at l) a.width (trees_of (names_at l) rs) in
    record {
      width = a.width;
      least = subst L same a.least;
      total = ap length is ∙ tree_long (says_at l) (slice_index places) a.width 0 (tree_at l) (fitting l places a)
          ∙ total_is (size_at l) a.width (tree_at l)
          ∙ ap (λ (rs : List Row). total_of (size_at l) a.width (trees_of (names_at l) rs)) same;
    }

-- the same bytes by places that are equal where edges name them
edges_same : (p q : ℕ → ℕ) (i : ℕ) (es : Edges) → ((j : ℕ) → i ≤ j → j < i + node_count es → p j ≡ q j)
    → edges_bytes p i es ≡ edges_bytes q i es
edges_same p q i no_edge h = refl
edges_same p q i (edge label symbol below rest) h =
    ap (λ (n : ℕ). label ++ (0 ∷ (uleb_of n ++ edges_bytes p (i + (node_count below + 1)) rest))) (h i (omega arith) (omega arith))
    ∙ ap (λ (xs : List ℕ). label ++ (0 ∷ (uleb_of (q i) ++ xs)))
    (edges_same p q (i + (node_count below + 1)) rest (λ j a b. h j (omega arith) (omega arith)))

bytes_same : (says : ℕ → Exported) (p q : ℕ → ℕ) (i : ℕ) (es : Edges) → ((j : ℕ) → i + 1 ≤ j → j < i + node_count es → p j ≡ q j)
    → tree_bytes says p i es ≡ tree_bytes says q i es
bytes_same says p q i no_edge h = refl
bytes_same says p q i (edge label symbol below rest) h =
    let under : List ℕ = tree_bytes says p (i + 1) below in
    let after : List ℕ = tree_bytes says p (i + (node_count below + 1)) rest in
    ap (λ (xs : List ℕ). (terminal_bytes (option_map says symbol) ++ (edge_count below ∷ xs)) ++ (under ++ after))
    (edges_same p q (i + 1) below (λ j a b. h j (omega arith) (omega arith)))
    ∙ ap (λ (xs : List ℕ). node_bytes says q i symbol below ++ (xs ++ after)) (bytes_same says p q (i + 1) below (λ j a b. h j (omega
    arith) (omega arith)))
    ∙ ap (λ (xs : List ℕ). node_bytes says q i symbol below ++ (tree_bytes says q (i + 1) below ++ xs))
    (bytes_same says p q (i + (node_count below + 1)) rest (λ j a b. h j (omega arith) (omega arith)))

-- names of the register
pub names_long : (s : Symbols) → length (names_of s) ≡ length (symbols_of s)
names_long s = length-map s.items.items (λ i. i.name.now) ∙ sym (length-map s.items.items symbol_of)

names_each : (items : List Symbol) (k : ℕ) → name_at (map (λ i. i.name.now) items) k ≡ (get_or (map symbol_of items) k (
  [],
  as_value
      0 0,
)).0
names_each [] k = refl
names_each (i ∷ items) zero = refl
names_each (i ∷ items) (suc k) = names_each items k

pub exports_trie : (l : Layout) (places out : List ℕ) → IsTable (names_at l) l.rows.now → AreLaidOut l places
    → out ≡ tree_bytes (says_at l) (slice_index places) 0 (tree_at l) → IsExportsTrie (symbols_of l.symbols.now) out
exports_trie l places out t a is =
    let L : Edges → Type 0 = λ es. AreLeast (size_at l) a.width es in
    let place_same : (j : ℕ) → 0 + 1 ≤ j → j < 0 + node_count (tree_at l) → slice_index places j ≡ place_of (size_at l) a.width
    (tree_at l) j
    = λ j some within. place_at (place_of (size_at l) a.width (tree_at l)) places (length l.rows.now) j a.placed
    (omega (arith, node_count-rows (names_at l) l.rows.now)) in
    record {
      symbol = t.symbol;
      below = t.below;
      radix = t.radix;
      names = names;
      width = a.width;
      least = subst L t.root a.least;
      text = is ∙ bytes_same (says_at l) (slice_index places) (place_of (size_at l) a.width (tree_at l)) 0 (tree_at l) place_same
          ∙ ap (λ (es : Edges). tree_bytes (says_at l) (place_of (size_at l) a.width es) 0 es) t.root;
    }
  where
    names : (name : List ℕ) (s : ℕ) → LeadsTo (edge [] t.symbol t.below no_edge) name s
        ↔ ((s < length (symbols_of l.symbols.now)) × ((get_or (symbols_of l.symbols.now) s ([], as_value 0 0)).0 ≡ name))
    names name s =
        let T : Edges → Type 0 = λ es. LeadsTo es name s in (
          λ h. let at = (t.leads name s).0 (subst T (sym t.root) h) in
              (omega (arith, at.0, names_long l.symbols.now), sym (names_each l.symbols.now.items.items s) ∙ at.1),
          λ h. subst T t.root ((t.leads name s).1 (
            omega (arith, h.0, names_long l.symbols.now),
            names_each l.symbols.now.items.items s
                ∙ h.1,
          )),
        )

-- what stands for symbols is sound
default_sound : IsSound (as_value 0 0)
default_sound = record { flags = omega arith; number = omega arith; bit = refl; name = λ k h. absurd (omega arith) }

pub all_sound : (s : Symbols) (k : ℕ) → IsSound (says_of (symbols_of s) k)
all_sound s k =
    elim (cases_lt k (length s.items.items)) [
      | inl within ↦ sound_at s.items.items k s.sound within
      | inr past ↦
          let none : says_of (symbols_of s) k ≡ as_value 0 0
          = ap (λ (p : List ℕ × Exported). p.1) (get_or-eq_default (symbols_of s) ([], as_value 0 0) (omega (
            arith,
            length-map
                s.items.items symbol_of,
          ))) in
          let S : Exported → Type 0 = λ x. IsSound x in
          subst S (sym none) default_sound
    ]
  where
    sound_at : (items : List Symbol) (k : ℕ) → All (λ (i : Symbol). IsSound (said_of i.says)) items → k < length items
        → IsSound (says_of (map symbol_of items) k)
    sound_at [] k all within = absurd (omega arith)
    sound_at (i ∷ items) k all within =
        let S : Exported → Type 0 = λ x. IsSound x in
        subst S (sym (says_is (i ∷ items) k i within)) (all k i within)

-- a trie of some names has a table of them, and one of no names has no rows
pub table_of_trie : (trie : Trie) (l : Layout) → IsTrieOf trie (names_at l) → l.rows.now ≡ trie.rows.items → 1 ≤ length (names_at l)
    → IsTable (names_at l) l.rows.now
table_of_trie trie l t same some = by_names (names_at l) t some
  where
    by_names : (names : List (List ℕ)) → IsTrieOf trie names → 1 ≤ length names → IsTable names l.rows.now
    by_names [] t some = absurd (omega arith)
    by_names (name ∷ names) t some = let T : List Row → Type 0 = λ rs. IsTable (name ∷ names) rs in subst T (sym same) t

no_rows : (trie : Trie) (names : List (List ℕ)) → IsTrieOf trie names → length names ≡ 0 → trie.rows.items ≡ []
no_rows trie [] t none = t
no_rows trie (name ∷ names) t none = absurd (omega arith)

pub no_bytes : (trie : Trie) (l : Layout) (places out : List ℕ) → IsTrieOf trie (names_at l) → l.rows.now ≡ trie.rows.items
    → length (names_at l) ≡ 0
    → out ≡ tree_bytes (says_at l) (slice_index places) 0 (tree_at l) → out ≡ []
no_bytes trie l places out t same none is =
    is ∙ ap (λ (rs : List Row). tree_bytes (says_at l) (slice_index places) 0 (trees_of (names_at l) rs)) (same
    ∙ no_rows trie (names_at l) t none)

-- the size is the length of the trie's bytes
pub trie_long : (trie : Trie) (l : Layout) (places : List ℕ) (n : ℕ) → IsTrieOf trie (names_at l) → l.rows.now ≡ trie.rows.items
    → AreLaidOut l places → IsSizeOf trie (names_at l) (symbols_of l.symbols.now) n → IsLengthOfTrie (symbols_of l.symbols.now) n
trie_long trie l places n t same a size = (
  text,
  cases (symbols_of l.symbols.now) refl,
  only_size trie (names_at l) (symbols_of l.symbols.now) n (length text) size
      (length_is trie l places text same a refl),
)
  where
    text : List ℕ
    text = tree_bytes (says_at l) (slice_index places) 0 (tree_at l)

    cases : (xs : List (List ℕ × Exported)) → symbols_of l.symbols.now ≡ xs
        → ((symbols_of l.symbols.now ≡ []) × (text ≡ [])) ⊎ ((1 ≤ length (symbols_of l.symbols.now))
        × IsExportsTrie (symbols_of l.symbols.now) text)
    cases [] none = inl (none, no_bytes trie l places text t same (omega (arith, ap length none, names_long l.symbols.now)) refl)
    cases (x ∷ xs) some =
        let long : 1 ≤ length (symbols_of l.symbols.now) = omega (arith, ap length some) in
        inr (long, exports_trie l places text (table_of_trie trie l t same (omega (arith, long, names_long l.symbols.now))) a refl)

pub found_all : (trie : Trie) (l : Layout) (places out : List ℕ) → IsTrieOf trie (names_at l) → l.rows.now ≡ trie.rows.items
    → AreLaidOut l places
    → out ≡ tree_bytes (says_at l) (slice_index places) 0 (tree_at l) → length out < 2 ^ 64
    → (name : List ℕ) (x : Exported) → Contains (symbols_of l.symbols.now) (name, x) → trie_finds out name x
found_all trie l places out t same a is small name x c =
    trie_found (symbols_of l.symbols.now) out
    (exports_trie l places out (table_of_trie trie l t same (omega (arith, c.1, names_long l.symbols.now))) a is) small (all_sound
    l.symbols.now) name x c

pub nothing_read : node_at [] 0 ≡ None
unfolding node_at terminal_at uleb_at
nothing_read = refl

pub found_only : (trie : Trie) (l : Layout) (places out : List ℕ) → IsTrieOf trie (names_at l) → l.rows.now ≡ trie.rows.items
    → AreLaidOut l places
    → out ≡ tree_bytes (says_at l) (slice_index places) 0 (tree_at l) → length out < 2 ^ 64
    → (name : List ℕ) (x : Exported) → trie_finds out name x → Contains (symbols_of l.symbols.now) (name, x)
found_only trie l places out t same a is small name x f =
    elim (cases_lt 0 (length (names_at l))) [
      | inl some ↦ trie_only (symbols_of l.symbols.now) out (exports_trie l places out (table_of_trie trie l t same some) a is) small
          (all_sound l.symbols.now) name x f
      | inr none ↦
          let F : List ℕ → Type 0 = λ bs. trie_finds bs name x in
          absurd (nothing_found [] name 0 x nothing_read (subst F (no_bytes trie l places out t same (omega arith) is) f))
    ]

-- the bytes are as many as the place after the last node tells
pub text_long : (trie : Trie) (l : Layout) (places : List ℕ) (k n d : ℕ) → l.rows.now ≡ trie.rows.items → AreLaidOut l places
    → k ≡ length trie.rows.items → n ≡ get_or places k d → length (tree_bytes (says_at l) (slice_index places) 0 (tree_at l)) ≡ n
text_long trie l places k n d same a k_is n_is =
    let text : List ℕ = tree_bytes (says_at l) (slice_index places) 0 (tree_at l) in
    only_size trie (names_at l) (symbols_of l.symbols.now) n (length text) (size_is trie l places k n d same a k_is n_is)
    (length_is trie l places text same a refl)

-- the bytes are all that is promised of the trie's text
pub is_text : (trie : Trie) (l : Layout) (places text : List ℕ) → IsTrieOf trie (names_at l) → l.rows.now ≡ trie.rows.items
    → AreLaidOut l places → text ≡ tree_bytes (says_at l) (slice_index places) 0 (tree_at l) → length text < 2 ^ 64
    → IsTextOf trie (names_at l) (symbols_of l.symbols.now) text
is_text trie l places text t same a is small = record {
  empty = λ none. no_bytes trie l places text t same (omega (arith, ap length none, names_long l.symbols.now)) is;
  tree = λ some. exports_trie l places text (table_of_trie trie l t same (omega (arith, some, names_long l.symbols.now))) a is;
  size = length_is trie l places text same a is;
  found = found_all trie l places text t same a is small;
  only = found_only trie l places text t same a is small;
}

-- a text put over as many bytes, as a `Vec` has it whose bytes were written
pub put_over : (text bytes now : List ℕ) (count : ℕ) → now ≡ put 0 text bytes → length text ≡ length bytes → count ≡ length bytes
    → take count (now ++ drop (length now) bytes) ≡ text
unfolding put
put_over text bytes now count is same long =
    let whole : put 0 text bytes ≡ text = ap (λ (n : ℕ). text ++ drop n bytes) (omega (arith, same))
    ∙ ap (λ (t : List ℕ). text ++ t) (drop-length bytes)
    ∙ append-nil text in
    let all = is ∙ whole in
    ap (λ (n : ℕ). take n (now ++ drop (length now) bytes)) (omega (arith, long, same, ap length all))
    ∙ take-append_seam now (drop (length now) bytes) ∙ all
