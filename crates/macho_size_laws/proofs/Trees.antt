-- Two radix trees that lead to the same names are one.
--
-- The first edges of both begin with the same byte, since the least byte that a name begins with is that of the first edge; names that
-- begin with it go through the first edges, all others through the rest. All names through an edge begin with its label, and
-- with no longer text, since a name ends there or two edges begin with different bytes; so the labels are equal. Behind the label
-- the same name ends, and the same names lead on.
use Rattle.std.proofs.Common.{◌≡◌, ℕ, ◌<◌, ◌≤◌, List, [], ◌∷◌, ◌++◌, length, drop, refl, sym, ap, ◌∙◌, subst, arith, inl, inr, Some, None, append-nil}
use Rattle.std.specs.Prelude.{◌⊎◌, slice_index, Option, IsSome}
use Rattle.std.proofs.lemmas.List.{length-append, append_cancel_left}
use Rattle.macho_trie.specs.Trees.{Edges, no_edge, edge, LeadsTo, edge_count, BeginsAbove, AreRadix}

-- the first byte of a name
abbrev pub head : List ℕ → ℕ
head name = slice_index name 0

pub head_of : (label left : List ℕ) → 1 ≤ length label → head (label ++ left) ≡ head label
head_of [] left some = absurd (omega (arith, some))
head_of (b ∷ bs) left some = refl

-- a name leads through an edge
abbrev pub Through : List ℕ → Option ℕ → Edges → List ℕ → ℕ → Type 0
Through label symbol below name s =
    (left : List ℕ) × (name ≡ label ++ left) × (((left ≡ []) × (symbol ≡ Some s)) ⊎ LeadsTo below left s)

-- an edge ends with a name, or goes on in two ways
abbrev Ends : Option ℕ → Edges → Type 0
Ends symbol below = IsSome symbol ⊎ (2 ≤ edge_count below)

-- a name that edges lead to begins above each byte that they begin above
leads_above : (byte : ℕ) (es : Edges) (name : List ℕ) (s : ℕ) → AreRadix es → BeginsAbove byte es → LeadsTo es name s → byte < head name
leads_above byte no_edge name s r b l = absurd l
leads_above byte (edge label symbol below rest) name s r b (inl way) = omega (arith, b, ap head way.1, head_of label way.0 r.0.some)
leads_above byte (edge label symbol below rest) name s r b (inr later) =
    omega (arith, b, leads_above (slice_index label 0) rest name s r.4 r.3 later)

-- no edge leads to the empty name
never_empty : (es : Edges) (s : ℕ) → AreRadix es → LeadsTo es [] s → ⊥
never_empty no_edge s r l = l
never_empty (edge label symbol below rest) s r (inl way) = omega (arith, ap length way.1, length-append label way.0, r.0.some)
never_empty (edge label symbol below rest) s r (inr later) = never_empty rest s r.4 later

some_of : (o : Option ℕ) → IsSome o → (s : ℕ) × (o ≡ Some s)
some_of None some = absurd cc
some_of (Some s) some = (s, refl)

-- some name leads through each edge
first_name : (label : List ℕ) (symbol : Option ℕ) (below : Edges) → Ends symbol below → AreRadix below
    → (name : List ℕ) × (s : ℕ) × Through label symbol below name s
first_name label symbol below (inl some) r =
    let s = some_of symbol some in
    (label ++ [], s.0, ([], refl, inl (refl, s.1)))
first_name label symbol no_edge (inr two) r = absurd (omega (arith, two))
first_name label symbol (edge next other under rest) (inr two) r =
    let n = first_name next other under r.1 r.2 in
    (label ++ n.0, n.1, (n.0, refl, inr (inl n.2)))

-- the first edge begins with the least byte
head_low : (label : List ℕ) (symbol : Option ℕ) (below rest : Edges) (name : List ℕ) (s : ℕ) → AreRadix (edge label symbol below rest)
    → LeadsTo (edge label symbol below rest) name s → head label ≤ head name
head_low label symbol below rest name s r (inl way) = omega (arith, ap head way.1, head_of label way.0 r.0.some)
head_low label symbol below rest name s r (inr later) = omega (arith, leads_above (slice_index label 0) rest name s r.4 r.3 later)

-- two names that go on with different bytes behind one text have no longer text in common
apart : (first second u v m n : List ℕ) → first ++ m ≡ second ++ u → first ++ n ≡ second ++ v → 1 ≤ length m → 1 ≤ length n
    → head m < head n → (left : List ℕ) × (first ≡ second ++ left)
apart first [] u v m n e f some more less = (first, refl)
apart [] (b ∷ bs) u v m n e f some more less = absurd (omega (arith, ap head e, ap head f, less))
apart (a ∷ rs) (b ∷ bs) u v m n e f some more less =
    let rest = apart rs bs u v m n (ap (drop 1) e) (ap (drop 1) f) some more less in
    let same : a ≡ b = ap head e in
    (rest.0, ap (λ (xs : List ℕ). a ∷ xs) rest.1 ∙ ap (λ (x : ℕ). x ∷ (bs ++ rest.0)) same)

-- a text that all names through an edge begin with is no longer than the edge's label
begins : (label other : List ℕ) (symbol : Option ℕ) (below : Edges) → Ends symbol below → AreRadix below
    → ((name : List ℕ) (s : ℕ) → Through label symbol below name s → (left : List ℕ) × (name ≡ other ++ left))
    → (left : List ℕ) × (label ≡ other ++ left)
begins label other symbol below (inl some) r all =
    let s = some_of symbol some in
    let whole = all (label ++ []) s.0 ([], refl, inl (refl, s.1)) in
    (whole.0, sym (append-nil label) ∙ whole.1)
begins label other symbol no_edge (inr two) r all = absurd (omega (arith, two))
begins label other symbol (edge m y b no_edge) (inr two) r all = absurd (omega (arith, two))
begins label other symbol (edge m y b (edge n z d rest)) (inr two) r all =
    let one = first_name m y b r.1 r.2 in
    let two_name = first_name n z d r.4.1 r.4.2 in
    let first = all (label ++ one.0) one.1 (one.0, refl, inr (inl one.2)) in
    let second = all (label ++ two_name.0) two_name.1 (two_name.0, refl, inr (inr (inl two_name.2))) in
    let at_first = head_of m one.2.0 r.0.some in
    let at_second = head_of n two_name.2.0 r.4.0.some in
    apart label other first.0 second.0 one.0 two_name.0 first.1 second.1
    (omega (arith, ap length one.2.1, length-append m one.2.0, r.0.some))
    (omega (arith, ap length two_name.2.1, length-append n two_name.2.0, r.4.0.some))
    (omega (arith, ap head one.2.1, ap head two_name.2.1, at_first, at_second, r.3))

-- two texts that begin with each other are equal
both_begin : (a b u v : List ℕ) → a ≡ b ++ u → b ≡ a ++ v → a ≡ b
both_begin a b [] v e f = e ∙ append-nil b
both_begin a b (x ∷ u) v e f =
    absurd (omega (arith, ap length e, ap length f, length-append b (x ∷ u), length-append a v))

-- what ends behind one label is the same
ends_same : (label : List ℕ) (y z : Option ℕ) (b d : Edges) (s : ℕ) → AreRadix d
    → ((name : List ℕ) (n : ℕ) → Through label y b name n → Through label z d name n) → y ≡ Some s → z ≡ Some s
ends_same label y z b d s r to is = by (to (label ++ []) s ([], refl, inl (refl, is)))
  where
    by : Through label z d (label ++ []) s → z ≡ Some s
    by (left, e, inl ends) = ends.1
    by (left, e, inr on) = absurd (never_empty d s r (subst (λ (w : List ℕ). LeadsTo d w s) (sym (append_cancel_left label [] left e)) on))

options_same : (y z : Option ℕ) → ((s : ℕ) → y ≡ Some s → z ≡ Some s) → ((s : ℕ) → z ≡ Some s → y ≡ Some s) → y ≡ z
options_same None None to back = refl
options_same None (Some s) to back = back s refl
options_same (Some s) z to back = sym (to s refl)

-- and so is what leads on
leads_same : (label : List ℕ) (y z : Option ℕ) (b d : Edges) (name : List ℕ) (s : ℕ) → AreRadix b
    → ((n : List ℕ) (m : ℕ) → Through label y b n m → Through label z d n m) → LeadsTo b name s → LeadsTo d name s
leads_same label y z b d name s r to on = by (to (label ++ name) s (name, refl, inr on))
  where
    by : Through label z d (label ++ name) s → LeadsTo d name s
    by (left, e, inl ends) =
        absurd (never_empty b s r (subst (λ (w : List ℕ). LeadsTo b w s) (append_cancel_left label name left e ∙ ends.0) on))
    by (left, e, inr other) = subst (λ (w : List ℕ). LeadsTo d w s) (sym (append_cancel_left label name left e)) other

abbrev pub Leads : Edges → Edges → Type 0
Leads a b = (name : List ℕ) (s : ℕ) → LeadsTo a name s → LeadsTo b name s

-- names through the first edge of one tree lead through that of the other, and all others through the rest
through_same : (l m : List ℕ) (y z : Option ℕ) (b d r q : Edges) → AreRadix (edge l y b r) → AreRadix (edge m z d q) → head l ≡ head m
    → Leads (edge l y b r) (edge m z d q) → (name : List ℕ) (s : ℕ) → Through l y b name s → Through m z d name s
through_same l m y z b d r q rad other same to name s way = elim (to name s (inl way)) [
  | inl found ↦ found
  | inr later ↦ absurd (omega (
    arith,
    same,
    ap head way.1,
    head_of l way.0 rad.0.some,
    leads_above (slice_index m 0) q name s other.4 other.3 later,
  ))
]

rest_same : (l m : List ℕ) (y z : Option ℕ) (b d r q : Edges) → AreRadix (edge l y b r) → AreRadix (edge m z d q) → head l ≡ head m
    → Leads (edge l y b r) (edge m z d q) → Leads r q
rest_same l m y z b d r q rad other same to name s later = elim (to name s (inr later)) [
  | inl way ↦ absurd (omega (
    arith,
    same,
    ap head way.1,
    head_of m way.0 other.0.some,
    leads_above (slice_index l 0) r name s rad.4 rad.3 later,
  ))
  | inr found ↦ found
]

heads_low : (l m : List ℕ) (y z : Option ℕ) (b d r q : Edges) → AreRadix (edge l y b r) → AreRadix (edge m z d q)
    → Leads (edge l y b r) (edge m z d q) → head m ≤ head l
heads_low l m y z b d r q rad other to =
    let n = first_name l y b rad.1 rad.2 in
    omega (arith, head_low m z d q n.0 n.1 other (to n.0 n.1 (inl n.2)), ap head n.2.1, head_of l n.2.0 rad.0.some)

pub same_edges : (a b : Edges) → AreRadix a → AreRadix b → Leads a b → Leads b a → a ≡ b
same_edges no_edge no_edge ra rb to back = refl
same_edges no_edge (edge m z d q) ra rb to back = (let n = first_name m z d rb.1 rb.2 in absurd (back n.0 n.1 (inl n.2)))
same_edges (edge l y b r) no_edge ra rb to back = (let n = first_name l y b ra.1 ra.2 in absurd (to n.0 n.1 (inl n.2)))
same_edges (edge l y b r) (edge m z d q) ra rb to back =
    let heads : head l ≡ head m = omega (arith, heads_low l m y z b d r q ra rb to, heads_low m l z y d b q r rb ra back) in
    let forth = through_same l m y z b d r q ra rb heads to in
    let home = through_same m l z y d b q r rb ra (sym heads) back in
    let one = begins l m y b ra.1 ra.2 (λ name s t. let w = forth name s t in (w.0, w.1)) in
    let two = begins m l z d rb.1 rb.2 (λ name s t. let w = home name s t in (w.0, w.1)) in
    let label : l ≡ m = both_begin l m one.0 two.0 one.1 two.1 in
    let go : (name : List ℕ) (s : ℕ) → Through l y b name s → Through l z d name s
    = λ name s t. subst (λ (w : List ℕ). Through w z d name s) (sym label) (forth name s t) in
    let come : (name : List ℕ) (s : ℕ) → Through l z d name s → Through l y b name s
    = λ name s t. home name s (subst (λ (w : List ℕ). Through w z d name s) label t) in
    let symbol : y ≡ z = options_same y z (λ s is. ends_same l y z b d s rb.2 go is) (λ s is. ends_same l z y d b s ra.2 come is) in
    let below = same_edges b d ra.2 rb.2 (λ name s on. leads_same l y z b d name s ra.2 go on)
    (λ name s on. leads_same l z y d b name s rb.2 come on) in
    let rest = same_edges r q ra.4 rb.4 (rest_same l m y z b d r q ra rb heads to) (rest_same m l z y d b q r rb ra (sym heads) back) in
    ap (λ (w : List ℕ). edge w y b r) label ∙ ap (λ (o : Option ℕ). edge m o b r) symbol ∙ ap (λ (e : Edges). edge m z e r) below
    ∙ ap (λ (e : Edges). edge m z d e) rest

-- the root too
pub same_roots : (y z : Option ℕ) (b d : Edges) → AreRadix b → AreRadix d → Leads (edge [] y b no_edge) (edge [] z d no_edge)
    → Leads (edge [] z d no_edge) (edge [] y b no_edge) → edge [] y b no_edge ≡ edge [] z d no_edge
same_roots y z b d rb rd to back =
    let go = within y z b d to in
    let come = within z y d b back in
    let symbol : y ≡ z = options_same y z (λ s is. ends_same [] y z b d s rd go is) (λ s is. ends_same [] z y d b s rb come is) in
    let below = same_edges b d rb rd (λ name s on. leads_same [] y z b d name s rb go on)
    (λ name s on. leads_same [] z y d b name s rd come on) in
    ap (λ (o : Option ℕ). edge [] o b no_edge) symbol ∙ ap (λ (e : Edges). edge [] z e no_edge) below
  where
    within : (y z : Option ℕ) (b d : Edges) → Leads (edge [] y b no_edge) (edge [] z d no_edge) → (name : List ℕ) (s : ℕ)
        → Through [] y b name s → Through [] z d name s
    within y z b d to name s way = elim (to name s (inl way)) [ inl found ↦ found | inr none ↦ absurd none ]
