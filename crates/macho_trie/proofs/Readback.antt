-- A node that is written is read.
--
-- Where a number's form stands, the number is read, and what stands behind it is left. So the terminal size is read, the
-- terminal part between the two places is the one that was written, and it says what was exported: its numbers are
-- read, and the name of a reexport ends at the NUL behind it. The byte behind the part is the number of edges, and each edge
-- is its label up to the NUL, which has none itself, and the number of its child's place.
use Rattle.std.proofs.Common.{◌≡◌, ℕ, suc, ◌+◌, ◌-◌, ◌^◌, ◌<◌, ◌≤◌, ◌==◌, true, false, List, [], ◌∷◌, ◌++◌, length, take, drop, slice_index, slice_range, get_or, Option, Some, None, IfSome, refl, sym, ap, append_assoc, ◌∙◌, arith, eq-eqb}
use Rattle.std.specs.Option.{option_map}
use Rattle.std.proofs.lemmas.Bool.{lt-ltb}
use Rattle.std.proofs.lemmas.Bool.Decides.{nat_tests}
use Rattle.std.proofs.lemmas.List.{length-drop, length-append, drop-drop, append-nil, get_or-drop, get_or_append_left}
use Rattle.std.proofs.Math.Seq.{take-append_seam, drop-append_seam, get_or-append_seam}
use Rattle.macho_bytes.specs.Uleb.{uleb_of, groups_of, uleb_at}
use Rattle.macho_bytes.proofs.Ulebs.{uleb_reads_back, length-uleb_of}
use Rattle.macho_trie.specs.Exports.{Exported, as_value, as_reexport, HasNoNul}
use Rattle.macho_trie.specs.steps.Says.{IsSound}
use Rattle.macho_trie.specs.Nodes.{Edge, Node, ended_name, export_in, terminal_between, terminal_at, edge_at, edges_at, node_at}
use Rattle.macho_trie.specs.Trees.{Edges, no_edge, edge, edge_count, node_count, IsLabel, AreRadix}
use Rattle.macho_trie.specs.Encoding.{export_bytes, terminal_bytes, edges_bytes, node_bytes}
use Rattle.macho_trie.proofs.Terminals.{name_ends}

-- what stands behind a text
pub drop_more : (bytes text back : List ℕ) (p : ℕ) → drop p bytes ≡ text ++ back → drop (p + length text) bytes ≡ back
drop_more bytes text back p is =
    sym (drop-drop (length text) p bytes) ∙ ap (λ (xs : List ℕ). drop (length text) xs) is ∙ drop-append_seam text back

-- a text with something behind it lies inside
inside : (bytes text back : List ℕ) (p : ℕ) → drop p bytes ≡ text ++ back → 1 ≤ length text → p + length text ≤ length bytes
inside bytes text back p is some = omega (arith, ap length is, length-append text back, length-drop p bytes)

slice_here : (bytes text back : List ℕ) (p : ℕ) → drop p bytes ≡ text ++ back → slice_range bytes p (p + length text) ≡ text
slice_here bytes text back p is =
    let long : p + length text - p ≡ length text = omega arith in
    ap (λ (n : ℕ). take n (drop p bytes)) long ∙ ap (λ (xs : List ℕ). take (length text) xs) is ∙ take-append_seam text back

pub uleb_here : (bytes back : List ℕ) (p n : ℕ) → n < 2 ^ 64 → drop p bytes ≡ uleb_of n ++ back
    → uleb_at bytes p ≡ Some (n, p + length (uleb_of n))
uleb_here bytes back p n fits is =
    (uleb_reads_back n fits).back bytes p (record {
      within = inside bytes (uleb_of n) back p is (length-uleb_of n).0;
      same = slice_here bytes (uleb_of n) back p is;
    })

uleb_front : (bytes back : List ℕ) (n : ℕ) → n < 2 ^ 64 → bytes ≡ uleb_of n ++ back → uleb_at bytes 0 ≡ Some (n, length (uleb_of n))
uleb_front bytes back n fits is =
    uleb_here bytes back 0 n fits is ∙ ap (λ (k : ℕ). let o : Option (ℕ × ℕ) = Some (n, k) in o) (omega arith)

-- a text without a NUL, up to the one behind it
name_here : (bytes name back : List ℕ) → HasNoNul name → bytes ≡ name ++ (0 ∷ back) → ended_name bytes ≡ Some name
name_here bytes name back plain is =
    let within : length name < length bytes = omega (arith, ap length is, length-append name (0 ∷ back)) in
    let before : (i : ℕ) → i < length name → slice_index bytes i ≡ 0 → ⊥
    = λ i h zero_i. plain i h (sym (get_or_append_left name (0 ∷ back) 0 i h) ∙ ap (λ (xs : List ℕ). slice_index xs i) (sym is) ∙ zero_i) in
    let behind : slice_index bytes (length name) ≡ 0
    = ap (λ (xs : List ℕ). slice_index xs (length name)) is ∙ get_or_behind name back in
    let cut : take (length name) bytes ≡ name = ap (λ (xs : List ℕ). take (length name) xs) is ∙ take-append_seam name (0 ∷ back) in
    name_ends bytes (length name) within before behind ∙ ap (λ (xs : List ℕ). (let o : Option (List ℕ) = Some xs in o)) cut
  where
    get_or_behind : (name back : List ℕ) → slice_index (name ++ (0 ∷ back)) (length name) ≡ 0
    get_or_behind name back = get_or-append_seam name 0 back 0

-- what a terminal part says
export_here : (x : Exported) → IsSound x → export_in (export_bytes x) ≡ Some x
unfolding export_in
export_here (as_value flags address) s =
    let part : List ℕ = uleb_of flags ++ uleb_of address in
    let first : uleb_at part 0 ≡ Some (flags, length (uleb_of flags)) = uleb_front part (uleb_of address) flags s.flags refl in
    let behind : drop (length (uleb_of flags)) part ≡ uleb_of address ++ [] = drop-append_seam (uleb_of flags) (uleb_of address)
    ∙ sym (append-nil (uleb_of address)) in
    let second = uleb_here part [] (length (uleb_of flags)) address s.number behind in
    rw first (rw second (rw s.bit refl))
export_here (as_reexport flags ordinal name) s =
    let tail : List ℕ = name ++ 0 ∷ [] in
    let part : List ℕ = uleb_of flags ++ (uleb_of ordinal ++ tail) in
    let first : uleb_at part 0 ≡ Some (flags, length (uleb_of flags)) = uleb_front part (uleb_of ordinal ++ tail) flags s.flags refl in
    let behind : drop (length (uleb_of flags)) part ≡ uleb_of ordinal ++ tail = drop-append_seam (uleb_of flags) (uleb_of ordinal ++
    tail) in
    let second = uleb_here part tail (length (uleb_of flags)) ordinal s.number behind in
    let rest : drop (length (uleb_of flags) + length (uleb_of ordinal)) part ≡ tail = drop_more part (uleb_of ordinal) tail (length
    (uleb_of flags)) behind in
    let named : ended_name (drop (length (uleb_of flags) + length (uleb_of ordinal)) part) ≡ Some name = name_here _ name [] s.name rest in
    rw first (rw second (rw s.bit (rw named refl)))

-- the edges as they are read
abbrev pub edge_list : (ℕ → ℕ) → ℕ → Edges → List Edge
edge_list place i no_edge = []
edge_list place i (edge label symbol below rest) = record { label = label; child = place i } ∷ edge_list place (i + (node_count below +
    1)) rest

abbrev pub node_of : (ℕ → Exported) → (ℕ → ℕ) → ℕ → Option ℕ → Edges → Node
node_of says place i symbol below = record { export = option_map says symbol; edges = edge_list place (i + 1) below }

label_plain : (label : List ℕ) → IsLabel label → HasNoNul label
label_plain label l k within zero_k = let byte = l.plain k within in omega (arith, byte.0)

edge_here : (bytes label back : List ℕ) (q n : ℕ) → IsLabel label → n < 2 ^ 64 → drop q bytes ≡ label ++ (0 ∷ (uleb_of n ++ back))
    → edge_at bytes q ≡ Some (record { label = label; child = n }, q + length label + 1 + length (uleb_of n))
unfolding edge_at
edge_here bytes label back q n l fits is =
    let named : ended_name (drop q bytes) ≡ Some label = name_here (drop q bytes) label (uleb_of n ++ back) (label_plain label l) is in
    let behind : drop (q + length label) bytes ≡ (0 ∷ []) ++ (uleb_of n ++ back) = drop_more bytes label (0 ∷ (uleb_of n ++ back)) q is in
    let number = uleb_here bytes back (q + length label + 1) n fits (drop_more bytes (0 ∷ []) (uleb_of n ++ back) (q + length label)
    behind) in
    rw named (rw number refl)

-- all places that edges name can be written
abbrev pub ArePlaced : (ℕ → ℕ) → ℕ → Edges → Type 0
ArePlaced place i es = (j : ℕ) → i ≤ j → j < i + node_count es → place j < 2 ^ 64

edges_more : (bytes : List ℕ) (q p n : ℕ) (e : Edge) (es : List Edge) → edge_at bytes q ≡ Some (e, p) → edges_at n bytes p ≡ Some es
    → edges_at (suc n) bytes q ≡ Some (e ∷ es)
unfolding edges_at
edges_more bytes q p n e es first later = rw first (rw later refl)

edges_here : (bytes back : List ℕ) (place : ℕ → ℕ) (i q : ℕ) (es : Edges) → AreRadix es → ArePlaced place i es
    → drop q bytes ≡ edges_bytes place i es ++ back
    → edges_at (edge_count es) bytes q ≡ Some (edge_list place i es)
unfolding edges_at
edges_here bytes back place i q no_edge r small is = refl
edges_here bytes back place i q (edge label symbol below rest) r small is =
    let others : List ℕ = edges_bytes place (i + (node_count below + 1)) rest in
    let next : 1 + edge_count rest ≡ suc (edge_count rest) = omega arith in
    let text : drop q bytes ≡ label ++ (0 ∷ (uleb_of (place i) ++ (others ++ back)))
    = is ∙ append_assoc label (0 ∷ (uleb_of (place i) ++ others)) back
    ∙ ap (λ (xs : List ℕ). label ++ (0 ∷ xs)) (append_assoc (uleb_of (place i)) others back) in
    let fits : place i < 2 ^ 64 = small i (omega arith) (omega arith) in
    let first = edge_here bytes label (others ++ back) q (place i) r.0 fits text in
    let behind : drop (q + length label) bytes ≡ (0 ∷ []) ++ (uleb_of (place i) ++ (others ++ back))
    = drop_more bytes label (0 ∷ (uleb_of (place i) ++ (others ++ back))) q text in
    let number : drop (q + length label + 1) bytes ≡ uleb_of (place i) ++ (others ++ back)
    = drop_more bytes (0 ∷ []) (uleb_of (place i) ++ (others ++ back)) (q + length label) behind in
    let further : drop (q + length label + 1 + length (uleb_of (place i))) bytes ≡ others ++ back
    = drop_more bytes (uleb_of (place i)) (others ++ back) (q + length label + 1) number in
    let later = edges_here bytes back place (i + (node_count below + 1)) (q + length label + 1 + length (uleb_of (place i))) rest r.4
    (λ j a b. small j (omega arith) (omega arith)) further in
    ap (λ (n : ℕ). edges_at n bytes q) next ∙ edges_more bytes q (q + length label + 1 + length (uleb_of (place i))) (edge_count rest)
    _ _ first later

-- the whole node
none_here : (bytes back : List ℕ) (p : ℕ) → drop p bytes ≡ (0 ∷ []) ++ back → 1 ≤ length back → terminal_at bytes p ≡ Some (None, p + 1)
unfolding terminal_at terminal_between uleb_of groups_of
none_here bytes back p is some =
    let size : uleb_at bytes p ≡ Some (0, p + 1) = uleb_here bytes back p 0 (omega arith) is in
    let within : p + 1 + 0 < length bytes = omega (arith, ap length is, length-drop p bytes) in
    let equal : (p + 1 == p + 1 + 0) ≡ true = eq-eqb (p + 1) (p + 1 + 0) (omega arith) in
    let place : p + 1 + 0 ≡ p + 1 = omega arith in
    rw size (rw (lt-ltb (p + 1 + 0) (length bytes) within) (rw equal (ap (λ (n : ℕ). let o : Option (Option Exported × ℕ) = Some (
      None,
      n,
    ) in o) place)))

some_here : (bytes back : List ℕ) (p : ℕ) (x : Exported) → IsSound x → length (export_bytes x) < 2 ^ 64
    → drop p bytes ≡ (uleb_of (length (export_bytes x)) ++ export_bytes x) ++ back → 1 ≤ length back
    → terminal_at bytes p ≡ Some (Some x, p + length (uleb_of (length (export_bytes x)) ++ export_bytes x))
unfolding terminal_at terminal_between
some_here bytes back p x sound fits is some =
    let long : ℕ = length (export_bytes x) in
    let start : ℕ = p + length (uleb_of long) in
    let text : drop p bytes ≡ uleb_of long ++ (export_bytes x ++ back) = is ∙ append_assoc (uleb_of long) (export_bytes x) back in
    let size : uleb_at bytes p ≡ Some (long, start) = uleb_here bytes (export_bytes x ++ back) p long fits text in
    let part : drop start bytes ≡ export_bytes x ++ back = drop_more bytes (uleb_of long) (export_bytes x ++ back) p text in
    let within : start + long < length bytes
    = omega (arith, ap length part, length-append (export_bytes x) back, length-drop start bytes) in
    let some_long = export_long x in
    let differ : (start == start + long) ≡ false = grind (arith, nat_tests) in
    let read : export_in (slice_range bytes start (start + long)) ≡ Some x = ap export_in (slice_here bytes (export_bytes x) back start
    part) ∙ export_here x sound in
    let place : start + long ≡ p + length (uleb_of long ++ export_bytes x) = omega (arith, length-append (uleb_of long) (export_bytes x)) in
    rw size (rw (lt-ltb (start + long) (length bytes) within) (rw differ (rw read
    (ap (λ (n : ℕ). let o : Option (Option Exported × ℕ) = Some (Some x, n) in o) place))))
  where
    export_long : (x : Exported) → 1 ≤ length (export_bytes x)
    export_long (as_value flags address) = omega (arith, length-append (uleb_of flags) (uleb_of address), (length-uleb_of flags).0)
    export_long (as_reexport flags ordinal name) =
        omega (arith, length-append (uleb_of flags) (uleb_of ordinal ++ (name ++ 0 ∷ [])), (length-uleb_of flags).0)

pub terminal_here : (bytes back : List ℕ) (p : ℕ) (m : Option Exported) → IfSome m (λ x. IsSound x × (length (export_bytes x) < 2 ^ 64))
    → drop p bytes ≡ terminal_bytes m ++ back → 1 ≤ length back → terminal_at bytes p ≡ Some (m, p + length (terminal_bytes m))
terminal_here bytes back p None ok is some = none_here bytes back p is some
terminal_here bytes back p (Some x) ok is some = some_here bytes back p x ok.0 ok.1 is some

pub node_here : (bytes back : List ℕ) (says : ℕ → Exported) (place : ℕ → ℕ) (i p : ℕ) (symbol : Option ℕ) (below : Edges)
    → IfSome (option_map says symbol) (λ x. IsSound x × (length (export_bytes x) < 2 ^ 64)) → AreRadix below → ArePlaced place (i + 1) below
    → drop p bytes ≡ node_bytes says place i symbol below ++ back → node_at bytes p ≡ Some (node_of says place i symbol below)
unfolding node_at
node_here bytes back says place i p symbol below ok radix small is =
    let part : List ℕ = terminal_bytes (option_map says symbol) in
    let edges : List ℕ = edges_bytes place (i + 1) below in
    let text : drop p bytes ≡ part ++ (edge_count below ∷ (edges ++ back)) = is ∙ append_assoc part (edge_count below ∷ edges) back in
    let terminal = terminal_here bytes (edge_count below ∷ (edges ++ back)) p (option_map says symbol) ok text (omega arith) in
    let behind : drop (p + length part) bytes ≡ (edge_count below ∷ []) ++ (edges ++ back) = drop_more bytes part (edge_count below ∷
    (edges ++ back)) p text in
    let same : p + length part ≡ p + length part + 0 = omega arith in
    let count : slice_index bytes (p + length part) ≡ edge_count below
    = ap (λ (n : ℕ). get_or bytes n 0) same ∙ sym (get_or-drop (p + length part) bytes 0 0) ∙ ap (λ (xs : List ℕ). get_or xs 0 0) behind in
    let further : drop (p + length part + 1) bytes ≡ edges ++ back = drop_more bytes (edge_count below ∷ []) (edges ++ back) (p +
    length part) behind in
    let read = edges_here bytes back place (i + 1) (p + length part + 1) below radix small further in
    let all : edges_at (slice_index bytes (p + length part)) bytes (p + length part + 1) ≡ Some (edge_list place (i + 1) below)
    = ap (λ (n : ℕ). edges_at n bytes (p + length part + 1)) count ∙ read in
    rw terminal (rw all refl)
