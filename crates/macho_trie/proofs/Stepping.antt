-- From a name's node to that of the lesser name before it, and from the last name to the first.
--
-- The nodes below the depth that both names share are closed, which puts the greater name into the tree, and the lesser
-- name's node is reached from there. After each step the name at hand and the names in the tree are a tail of the sorted
-- list. At the end they are the whole list, so a name leads to a symbol exactly where the list has the pair.
use Rattle.std.proofs.Common.{◌≡◌, ℕ, suc, ◌+◌, ◌-◌, ◌<◌, ◌≤◌, true, List, [], ◌∷◌, ◌++◌, length, drop, get_or, Result, Ok, Err, OnOk, IfOk, Contains, refl, sym, ap, subst, ◌∙◌, arith, map, Bor, drop-cons}
use Rattle.std.proofs.Math.ListN.{get_or-map}
use Rattle.std.proofs.lemmas.List.{get_or_default, length-map, drop_all}
use Rattle.std.specs.Cmp.Lexicographic.{slice_cmp}
use Rattle.std.specs.Ordering.{nat_cmp}
use Rattle.std.specs.declared.cmp.Ordering.TheVariants.{Less}
use Rattle.std.specs.declared.alloc.AllocError.{AllocError}
use Rattle.macho_trie.specs.Trees.{no_edge, LeadsTo}
use Rattle.macho_trie.specs.Tables.{name_at, trees_of, IsTable}
use Rattle.macho_trie.specs.steps.Building.{names_along, names_open, deepest, AreOpenAt, AreClosed, AreReady, ClosedAs, ArrivedAs, StepsAs, RootedAs, root_node}
use Rattle.macho_trie.specs.steps.Sorting.{pair_at, AreSorted, AreShared}
use Rattle.macho_trie.specs.Sorting.{HaveNoNul}
use Rattle.macho_trie.specs.Exports.{HasNoNul}
use Rattle.macho_trie.specs.declared.table.Row.{Row}
use Rattle.macho_trie.specs.declared.build.Open.{Open}
use Rattle.macho_trie.proofs.Arriving.{IsLess, ready, names_ready}
use Rattle.macho_trie.proofs.Sorting.{less_at, seen}
use Rattle.macho_trie.proofs.Leading.{leads_in, in_leads}

pub names_less : (names : List (List ℕ)) (symbol above shared : ℕ) (name next : List ℕ) → name ≡ name_at names symbol
    → next ≡ name_at names above
    → slice_cmp nat_cmp name next ≡ Less → AreShared name next shared → IsLess (name_at names symbol) (name_at names above) shared
names_less names symbol above shared name next name_is next_is less s =
    let N : List ℕ → Type 0 = λ n. IsLess n (name_at names above) shared in
    let X : List ℕ → Type 0 = λ m. IsLess name m shared in
    subst N name_is (subst X next_is (less_at name next shared less s))

pub ready_all : (names same : List (List ℕ)) (symbol above least : ℕ) (rows : List Row) (nodes : List Open) → same ≡ names
    → AreClosed same above least rows nodes → deepest nodes ≡ least → IsLess (name_at names symbol) (name_at names above) least
    → AreReady same (name_at same symbol) rows nodes
ready_all names same symbol above least rows [] is c here l = absurd c
ready_all names same symbol above least rows (node ∷ nodes) is c here l =
    let L : List (List ℕ) → Type 0 = λ ns. IsLess (name_at ns symbol) (name_at ns above) least in
    ready same (name_at same symbol) above least rows node nodes c here (subst L (sym is) l)

names_all : (names : List (List ℕ)) (symbol above least : ℕ) (rows : List Row) (nodes : List Open)
    → AreClosed names above least rows nodes → deepest nodes ≡ least → IsLess (name_at names symbol) (name_at names above) least
    → names_open (name_at names above) (trees_of names rows) nodes ≡ names_open (name_at names symbol) (trees_of names rows) nodes
names_all names symbol above least rows [] c here l = absurd c
names_all names symbol above least rows (node ∷ nodes) c here l = names_ready names (name_at names symbol) above least rows node nodes
    c here l

steps : (names : List (List ℕ)) (symbol above least : ℕ) (before rows after : List Row) (was now next : List Open)
    → IsLess (name_at names symbol) (name_at names above) least → ClosedAs names above true least before was rows now → deepest now ≡ least
    → ArrivedAs names symbol rows now after next → StepsAs names above symbol before was after next
steps names symbol above least before rows after was now next l c here a =
    record { opened = a.opened; built = a.built ∙ sym (names_all names symbol above least rows now c.closed here l) ∙ c.built }

pub steps_as : (names mid last : List (List ℕ)) (symbol above least : ℕ) (before rows after : List Row) (was now next : List Open) (r :
    Result (Unit {0}) AllocError)
    → mid ≡ names → IsLess (name_at names symbol) (name_at names above) least → ClosedAs mid above true least before was rows now
    → deepest now ≡ least
    → OnOk r (ArrivedAs last symbol rows now after next) → OnOk r (last ≡ mid) → OnOk r (StepsAs last above symbol before was after next)
steps_as names mid last symbol above least before rows after was now next (Ok x) is l c here a same =
    let L : List (List ℕ) → Type 0 = λ ns. IsLess (name_at ns symbol) (name_at ns above) least in
    let C : List (List ℕ) → Type 0 = λ ns. ClosedAs ns above true least before was rows now in
    steps last symbol above least before rows after was now next (subst L (sym (same ∙ is)) l) (subst C (sym same) c) here a
steps_as names mid last symbol above least before rows after was now next (Err e) is l c here a same = tt

-- an item of the sorted list, as the pair at its place
abbrev pub item_at : List (Bor (List ℕ) × ℕ) → ℕ → Bor (List ℕ) × ℕ
item_at items k = get_or items k (record { ref_ptr = (0, 0); now = [] }, 0)

pub item_pair : (items : List (Bor (List ℕ) × ℕ)) (k : ℕ) → pair_at (map seen items) k ≡ seen (item_at items k)
item_pair items k = get_or-map seen items k (record { ref_ptr = (0, 0); now = [] }, 0)

-- A pair of the list: its symbol has its name.
pub record IsPair (names : List (List ℕ)) (p : List ℕ × ℕ) : Type 0 where
  pub here : p.1 < length names
  pub name : p.0 ≡ name_at names p.1

pub pair_ok : (names : List (List ℕ)) (pairs : List (List ℕ × ℕ)) (k : ℕ) → AreSorted names pairs → k < length pairs
    → IsPair names (pair_at pairs k)
pair_ok names pairs k s within =
    let at = (s.all (pair_at pairs k).0 (pair_at pairs k).1).0 (k, within, get_or_default pairs k (pair_at pairs k) ([], 0) within) in
    record { here = at.0; name = sym at.1 }

pub item_ok : (names same : List (List ℕ)) (items : List (Bor (List ℕ) × ℕ)) (k : ℕ) → same ≡ names
    → AreSorted names (map seen items) → k < length items
    → IsPair same (seen (item_at items k))
item_ok names same items k is s within =
    let P : List ℕ × ℕ → Type 0 = λ p. IsPair names p in
    let N : List (List ℕ) → Type 0 = λ ns. IsPair ns (seen (item_at items k)) in
    subst N (sym is) (subst P (item_pair items k) (pair_ok names (map seen items) k s (omega (arith, length-map items seen))))

pub item_plain : (names : List (List ℕ)) (items : List (Bor (List ℕ) × ℕ)) (k : ℕ) → HaveNoNul names
    → AreSorted names (map seen items) → k < length items
    → HasNoNul (item_at items k).0.now
item_plain names items k plain s within =
    let at = item_ok names names items k refl s within in
    let H : List ℕ → Type 0 = λ n. HasNoNul n in
    subst H (sym at.name) (plain (item_at items k).1 at.here)

pub items_less : (names : List (List ℕ)) (items : List (Bor (List ℕ) × ℕ)) (k : ℕ) → AreSorted names (map seen items)
    → k < length items → 1 ≤ k
    → slice_cmp nat_cmp (item_at items (k - 1)).0.now (item_at items k).0.now ≡ Less
items_less names items k s within some =
    let next : k - 1 + 1 ≡ k = omega arith in
    let less = s.rising (k - 1) (omega (arith, length-map items seen)) in
    let F : List ℕ × ℕ → Type 0 = λ p. slice_cmp nat_cmp p.0 (item_at items k).0.now ≡ Less in
    let S : List ℕ × ℕ → Type 0 = λ p. slice_cmp nat_cmp (pair_at (map seen items) (k - 1)).0 p.0 ≡ Less in
    let I : ℕ → Type 0 = λ i. slice_cmp nat_cmp (pair_at (map seen items) (k - 1)).0 (pair_at (map seen items) i).0 ≡ Less in
    subst F (item_pair items (k - 1)) (subst S (item_pair items k) (subst I next less))

-- What is known at a place of the list: its name is the deepest one, and the tree has the names after it.
pub record AreBuilt (names : List (List ℕ)) (pairs : List (List ℕ × ℕ)) (k : ℕ) (rows : List Row) (now : List Open) : Type 0 where
  pub opened : AreOpenAt names (pair_at pairs k).1 rows now
  pub built : pair_at pairs k ∷ names_open (pair_at pairs k).0 (trees_of names rows) now ≡ drop k pairs

pair_is : (names : List (List ℕ)) (p : List ℕ × ℕ) → IsPair names p → (let q : List ℕ × ℕ = (name_at names p.1, p.1) in q) ≡ p
pair_is names p at = ap (λ (n : List ℕ). (let q : List ℕ × ℕ = (n, p.1) in q)) (sym at.name)

pub built_last : (names : List (List ℕ)) (pairs : List (List ℕ × ℕ)) (k : ℕ) (before rows : List Row) (was now : List Open)
    → AreSorted names pairs
    → k + 1 ≡ length pairs → before ≡ [] → was ≡ root_node ∷ [] → ArrivedAs names (pair_at pairs k).1 before was rows now
    → AreBuilt names pairs k rows now
built_last names pairs k before rows was now s last none root a =
    let at = pair_ok names pairs k s (omega arith) in
    let empty : names_open (name_at names (pair_at pairs k).1) (trees_of names before) was ≡ []
    = ap (λ (rs : List Row). names_open (name_at names (pair_at pairs k).1) (trees_of names rs) was) none
    ∙ ap (λ (os : List Open). names_open (name_at names (pair_at pairs k).1) no_edge os) root in
    let all : names_open (pair_at pairs k).0 (trees_of names rows) now ≡ []
    = ap (λ (n : List ℕ). names_open n (trees_of names rows) now) at.name ∙ a.built ∙ empty in
    let rest : drop (suc k) pairs ≡ [] = drop_all (suc k) pairs (omega arith) in
    record {
      opened = a.opened;
      built = ap (λ (xs : List (List ℕ × ℕ)). pair_at pairs k ∷ xs) all ∙ ap (λ (xs : List (List ℕ × ℕ)). pair_at pairs k ∷ xs) (sym rest)
          ∙ sym (drop-cons pairs k ([], 0) (omega arith));
    }

pub built_more : (names : List (List ℕ)) (pairs : List (List ℕ × ℕ)) (k : ℕ) (before rows : List Row) (was now : List Open)
    → AreSorted names pairs
    → k < length pairs → 1 ≤ k → AreBuilt names pairs k before was
    → StepsAs names (pair_at pairs k).1 (pair_at pairs (k - 1)).1 before was rows now → AreBuilt names pairs (k - 1) rows now
built_more names pairs k before rows was now s within some b step =
    let at = pair_ok names pairs k s within in
    let to = pair_ok names pairs (k - 1) s (omega arith) in
    let next : suc (k - 1) ≡ k = omega arith in
    let all : names_open (pair_at pairs (k - 1)).0 (trees_of names rows) now ≡ drop k pairs
    = ap (λ (n : List ℕ). names_open n (trees_of names rows) now) to.name ∙ step.built
    ∙ ap (λ (n : List ℕ). (name_at names (pair_at pairs k).1, (pair_at pairs k).1) ∷ names_open n (trees_of names before) was) (sym at.name)
    ∙ ap (λ (p : List ℕ × ℕ). p ∷ names_open (pair_at pairs k).0 (trees_of names before) was) (pair_is names (pair_at pairs k) at)
    ∙ b.built in
    record {
      opened = step.opened;
      built = ap (λ (xs : List (List ℕ × ℕ)). pair_at pairs (k - 1) ∷ xs) all
          ∙ ap (λ (i : ℕ). pair_at pairs (k - 1) ∷ drop i pairs) (sym next)
          ∙ sym (drop-cons pairs (k - 1) ([], 0) (omega arith));
    }

-- the finished rows are a table of the names
pub finished : (names : List (List ℕ)) (pairs : List (List ℕ × ℕ)) (before rows : List Row) (was : List Open) → AreSorted names pairs
    → 1 ≤ length pairs
    → AreBuilt names pairs 0 before was → RootedAs names (pair_at pairs 0).1 true before was rows → IsTable names rows
finished names pairs before rows was s some b r =
    let at = pair_ok names pairs 0 s (omega arith) in
    let all : names_along [] (trees_of names rows) ≡ pairs
    = r.built
    ∙ ap (λ (n : List ℕ). (name_at names (pair_at pairs 0).1, (pair_at pairs 0).1) ∷ names_open n (trees_of names before) was) (sym at.name)
    ∙ ap (λ (p : List ℕ × ℕ). p ∷ names_open (pair_at pairs 0).0 (trees_of names before) was) (pair_is names (pair_at pairs 0) at)
    ∙ b.built in
    record {
      sound = r.sound;
      symbol = r.mark;
      below = r.below;
      root = r.root;
      radix = r.radix;
      leads = λ name symbol. (
        λ h. (s.all name symbol).0 (let C : List (List ℕ × ℕ) → Type 0 = λ ps. Contains ps (name, symbol) in
            subst C all (leads_in [] (trees_of names rows) name symbol h)),
        λ h. back name symbol (in_leads [] (trees_of names rows) (name, symbol) (let C : List (List ℕ × ℕ)
            → Type 0 = λ ps. Contains ps (name, symbol) in
            subst C (sym all) ((s.all name symbol).1 h))),
      );
    }
  where
    back : (name : List ℕ) (symbol : ℕ) → (left : List ℕ) × (name ≡ [] ++ left) × LeadsTo (trees_of names rows) left symbol
        → LeadsTo (trees_of names rows) name symbol
    back name symbol (left, is, leads) = let L : List ℕ → Type 0 = λ n. LeadsTo (trees_of names rows) n symbol in subst L (sym is) leads

-- the same of the items of the list, as the loop has them
pub built_first : (names same : List (List ℕ)) (items : List (Bor (List ℕ) × ℕ)) (before rows : List Row) (was now : List Open)
    → AreSorted names (map seen items) → 1 ≤ length items → before ≡ [] → was ≡ root_node ∷ [] → same ≡ names
    → ArrivedAs same (item_at items (length items - 1)).1 before was rows now → AreBuilt names (map seen items) (length items - 1) rows now
built_first names same items before rows was now s some none root is a =
    let A : List (List ℕ) → ℕ → Type 0 = λ ns i. ArrivedAs ns i before was rows now in
    let N : List (List ℕ) → Type 0 = λ ns. A ns (item_at items (length items - 1)).1 in
    let S : List ℕ × ℕ → Type 0 = λ p. A names p.1 in
    built_last names (map seen items) (length items - 1) before rows was now s (omega (arith, length-map items seen)) none root
    (subst S (sym (item_pair items (length items - 1))) (subst N is a))

pub built_next : (names same : List (List ℕ)) (items : List (Bor (List ℕ) × ℕ)) (k : ℕ) (before rows : List Row) (was now : List Open)
    → AreSorted names (map seen items) → k < length items → 1 ≤ k → AreBuilt names (map seen items) k before was → same ≡ names
    → StepsAs same (item_at items k).1 (item_at items (k - 1)).1 before was rows now → AreBuilt names (map seen items) (k - 1) rows now
built_next names same items k before rows was now s within some b is step =
    let A : List (List ℕ) → ℕ → ℕ → Type 0 = λ ns i j. StepsAs ns i j before was rows now in
    let N : List (List ℕ) → Type 0 = λ ns. A ns (item_at items k).1 (item_at items (k - 1)).1 in
    let S : List ℕ × ℕ → Type 0 = λ p. A names p.1 (item_at items (k - 1)).1 in
    let T : List ℕ × ℕ → Type 0 = λ p. A names (pair_at (map seen items) k).1 p.1 in
    built_more names (map seen items) k before rows was now s (omega (arith, length-map items seen)) some b
    (subst T (sym (item_pair items (k - 1))) (subst S (sym (item_pair items k)) (subst N is step)))

pub finished_items : {V E : Type 0} (rows_of : V → List Row) (r : Result V E) (names same : List (List ℕ)) (items : List (Bor (List ℕ)
    × ℕ)) (k : ℕ)
    (before : List Row) (was : List Open) → AreSorted names (map seen items) → 1 ≤ length items → k ≡ 0
    → AreBuilt names (map seen items) k before was
    → same ≡ names → IfOk r (λ v. RootedAs same (item_at items 0).1 true before was (rows_of v)) → IfOk r (λ v. IsTable names (rows_of v))
finished_items rows_of (Err e) names same items k before was s some zero_k b is rooted = tt
finished_items rows_of (Ok v) names same items k before was s some zero_k b is rooted =
    let B : ℕ → Type 0 = λ i. AreBuilt names (map seen items) i before was in
    let N : List (List ℕ) → Type 0 = λ ns. RootedAs ns (item_at items 0).1 true before was (rows_of v) in
    let S : List ℕ × ℕ → Type 0 = λ p. RootedAs names p.1 true before was (rows_of v) in
    finished names (map seen items) before (rows_of v) was s (omega (arith, length-map items seen)) (subst B zero_k b)
    (subst S (sym (item_pair items 0)) (subst N is rooted))
