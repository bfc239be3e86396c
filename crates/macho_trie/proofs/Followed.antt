-- The walk as the code keeps it: its start, one visit more, what is wrong at a place, and the end.
--
-- The last node that is pending is visited. Its name is cut out of the last one, and its children go on the stack, so the
-- visits that are pending are those of before without it and with its children. Each visit marks a place, and so leaves less
-- to do than its children bring.
use Rattle.std.proofs.Common.{◌≡◌, ◌⊎◌, ℕ, ◌+◌, ◌<◌, ◌≤◌, Bool, true, false, List, [], ◌∷◌, ◌++◌, length, take, drop, get_or, set, map}
use Rattle.std.proofs.Common.{replicate, Contains, Option, Some, None, refl, sym, ap, subst, ◌∙◌, arith, inl, inr, Vec, Global}
use Rattle.std.specs.List.{sum_by}
use Rattle.std.proofs.lemmas.List.{length-append, length-replicate, map-append, drop_all, get_or_past}
use Rattle.std.proofs.lemmas.Bool.{cases_lt}
use Rattle.std.proofs.lemmas.List.Elements.{Contains-push_cases, All-replicate}
use Rattle.macho_bytes.specs.Uleb.{uleb_at}
use Rattle.macho_trie.specs.Exports.{Exported}
use Rattle.macho_trie.specs.Nodes.{Node, terminal_at, node_at}
use Rattle.macho_trie.specs.Walks.{Reaches, first, AreApart, IsMalformedAt}
use Rattle.macho_trie.specs.Lists.{AreExports, line_of}
use Rattle.macho_trie.specs.declared.names.NamedExport.{NamedExport}
use Rattle.macho_trie.specs.declared.names.Pending.{Pending}
use Rattle.macho_trie.specs.declared.names.Walk.{Walk}
use Rattle.macho_trie.specs.declared.names.Lines.{Lines}
use Rattle.macho_trie.specs.steps.Walking.{last_first, child_of, IsWalked, IsLined, line_if}
use Rattle.macho_trie.specs.steps.Stacks.{edges_of, visit_of, pending_at, AreKept, IsBad, outside, marked, unread, joined, IsVisit, IsFollowed}
use Rattle.macho_trie.specs.steps.Stacks.{IsWhole, work_of, work_left}
use Rattle.macho_trie.proofs.Finding.{nothing_found}
use Rattle.macho_trie.proofs.Walking.{one_more}
use Rattle.macho_trie.proofs.Walked.{none_malformed, are_exports, no_node_next, not_apart_next, met_next, one_line_more}
use Rattle.macho_trie.proofs.Stacks.{visits_after, kept_after, last_within, pending_length, work_marked}
use Rattle.macho_trie.proofs.Turning.{pair_of_last}
use Rattle.macho_bytes.proofs.Members.{nil_contains}

-- no node stands past the end
pub past_end : (bytes : List ℕ) (at : ℕ) → length bytes ≤ at → node_at bytes at ≡ None
unfolding node_at terminal_at uleb_at
past_end bytes at past =
    let none : drop at bytes ≡ [] = drop_all at bytes past in
    rw none refl

-- the visits before the next one is taken from the stack
last_walked : (bytes : List ℕ) (met : List Bool) (seen : List (ℕ × List ℕ)) (name : List ℕ) (pending rest : List Pending) (next : Pending)
    → pending ≡ rest ++ next ∷ [] → IsWalked bytes met seen (map (visit_of name) pending)
    → IsWalked bytes met seen (map (visit_of name) rest ++ (next.place, take next.kept name ++ next.label.now) ∷ [])
last_walked bytes met seen name pending rest next is w =
    let P : List (ℕ × List ℕ) → Type 0 = λ vs. IsWalked bytes met seen vs in
    subst P (ap (λ (ps : List Pending). map (visit_of name) ps) is ∙ map-append (visit_of name) rest (next ∷ [])) w

-- what is wrong
pub bad_mark : (bytes : List ℕ) (met marks : List Bool) (place : ℕ) → marks ≡ met
    → (length marks ≤ place) ⊎ (get_or marks place false ≡ true)
    → IsBad bytes met place
bad_mark bytes met marks place is (inl past) = outside (omega (arith, ap length is))
bad_mark bytes met marks place is (inr was) = marked (sym (ap (λ (bs : List Bool). get_or bs place false) is) ∙ was)

pub bad_edges : (bytes : List ℕ) (met : List Bool) (place : ℕ) (node : Node) → Some node ≡ node_at bytes place
    → (AreApart node.edges → ⊥) → IsBad bytes met place
bad_edges bytes met place node is not = joined node (sym is) not

pub bad_is_malformed : (bytes : List ℕ) (are_kept : Bool) (walk : Walk) (lines : Lines) (rest : List Pending) (next : Pending)
    → IsFollowed bytes are_kept walk lines → walk.pending.items ≡ rest ++ next ∷ [] → IsBad walk.bytes.now walk.met.items next.place
    → IsMalformedAt bytes next.place
bad_is_malformed bytes are_kept walk lines rest next f is bad =
    let B : List ℕ → Type 0 = λ b. IsBad b walk.met.items next.place in
    each (subst B f.same bad)
  where
    now : List ℕ
    now = take next.kept walk.name.items ++ next.label.now

    w : IsWalked bytes walk.met.items f.seen (map (visit_of walk.name.items) rest ++ (next.place, now) ∷ [])
    w = last_walked bytes walk.met.items f.seen walk.name.items walk.pending.items rest next is f.walked

    each : IsBad bytes walk.met.items next.place → IsMalformedAt bytes next.place
    each (outside past) =
        no_node_next bytes walk.met.items f.seen (map (visit_of walk.name.items) rest) next.place now w
        (past_end bytes next.place (omega (arith, w.long)))
    each (marked was) = met_next bytes walk.met.items f.seen (map (visit_of walk.name.items) rest) next.place now w was
    each (unread none) = no_node_next bytes walk.met.items f.seen (map (visit_of walk.name.items) rest) next.place now w none
    each (joined node there not) =
        not_apart_next bytes walk.met.items f.seen (map (visit_of walk.name.items) rest) next.place now node w there not

-- one visit more
pub one_followed : (bytes : List ℕ) (are_kept : Bool) (walk after : Walk) (pop : Vec Pending Global) (lines more : Lines) (next : Pending)
    (name : List ℕ) (x : Option Exported) → IsFollowed bytes are_kept walk lines → walk.pending.items ≡ pop.items ++ next ∷ []
    → IsVisit (record walk { pending = pop }) next x after → name ≡ after.name.items → more.are_kept ≡ lines.are_kept
    → (lines.are_kept ≡ true → map line_of more.items.items ≡ map line_of lines.items.items ++ line_if name x)
    → IsFollowed bytes are_kept after more
one_followed bytes are_kept walk after pop lines more next name x f is v named flag added = record {
  same = v.same ∙ f.same;
  flag = flag ∙ f.flag;
  seen = f.seen ++ (next.place, now) ∷ [];
  kept = kept;
  walked = walked;
  lined = λ on. lined on;
}
  where
    rest : List Pending
    rest = pop.items

    now : List ℕ
    now = take next.kept walk.name.items ++ next.label.now

    w : IsWalked bytes walk.met.items f.seen (map (visit_of walk.name.items) rest ++ (next.place, now) ∷ [])
    w = last_walked bytes walk.met.items f.seen walk.name.items walk.pending.items rest next is f.walked

    old_kept : AreKept walk.name.items (rest ++ next ∷ [])
    old_kept = let P : List Pending → Type 0 = λ ps. AreKept walk.name.items ps in subst P is f.kept

    there : node_at bytes next.place ≡ Some v.node
    there = ap (λ (b : List ℕ). node_at b next.place) (sym f.same) ∙ v.is

    pushed : List ℕ → List Pending
    pushed n = rest ++ last_first (map (pending_at (length n)) v.edges)

    kept : AreKept after.name.items after.pending.items
    kept =
        let P : List ℕ → Type 0 = λ n. AreKept n (rest ++ last_first (map (pending_at (length n)) v.edges)) in
        let Q : List Pending → Type 0 = λ ps. AreKept after.name.items ps in
        subst Q (sym v.pending) (subst P (sym v.name) (kept_after walk.name.items next.label.now rest next v.edges old_kept))

    step : IsWalked bytes (set walk.met.items next.place true) (f.seen ++ (next.place, now) ∷ [])
        (map (visit_of walk.name.items) rest ++ last_first (map (child_of now) (edges_of v.edges)))
    step =
        one_more bytes walk.met.items f.seen (map (visit_of walk.name.items) rest) next.place now v.node (edges_of v.edges)
        (record { walked = w; within = v.within; fresh = v.fresh; is = there; moved = v.moved; rise = v.rise })

    walked : IsWalked bytes after.met.items (f.seen ++ (next.place, now) ∷ []) (map (visit_of after.name.items) after.pending.items)
    walked =
        let seen : List (ℕ × List ℕ) = f.seen ++ (next.place, now) ∷ [] in
        let met : List Bool = set walk.met.items next.place true in
        let P : List (ℕ × List ℕ) → Type 0 = λ vs. IsWalked bytes met seen vs in
        let Q : List ℕ → Type 0
        = λ n. IsWalked bytes met seen (map (visit_of n) (rest ++ last_first (map (pending_at (length n)) v.edges))) in
        let R : List Pending → Type 0 = λ ps. IsWalked bytes met seen (map (visit_of after.name.items) ps) in
        let S : List Bool → Type 0 = λ m. IsWalked bytes m seen (map (visit_of after.name.items) after.pending.items) in
        let all = visits_after walk.name.items next.label.now next.kept rest v.edges (last_within walk.name.items rest next old_kept)
        (λ p c. pair_of_last (λ p q. p.kept ≤ q.kept) rest p next old_kept.rising c) in
        subst S (sym v.mark) (subst R (sym v.pending) (subst Q (sym v.name) (subst P (sym all) step)))

    lined : are_kept ≡ true → IsLined bytes (f.seen ++ (next.place, now) ∷ []) (map line_of more.items.items)
    lined on =
        let P : List (List ℕ × Exported) → Type 0 = λ ls. IsLined bytes (f.seen ++ (next.place, now) ∷ []) ls in
        let line : line_if name x ≡ line_if now v.node.export
        = ap (λ (n : List ℕ). line_if n x) (named ∙ v.name) ∙ ap (λ (o : Option Exported). line_if now o) v.exports in
        let all : map line_of more.items.items ≡ map line_of lines.items.items ++ line_if now v.node.export
        = added (f.flag ∙ on) ∙ ap (λ (ls : List (List ℕ × Exported)). map line_of lines.items.items ++ ls) line in
        let visits : List (ℕ × List ℕ) = map (visit_of walk.name.items) rest in
        subst P (sym all)
        (one_line_more bytes walk.met.items f.seen visits next.place now v.node (map line_of lines.items.items) w there (f.lined on))

-- less to do
pub less_left : (walk after : Walk) (pop : Vec Pending Global) (next : Pending) (x : Option Exported)
    → walk.pending.items ≡ pop.items ++ next ∷ []
    → IsVisit (record walk { pending = pop }) next x after → work_left after < work_left walk
less_left walk after pop next x is v =
    let marks : sum_by work_of (set walk.met.items next.place true) + 256 ≡ sum_by work_of walk.met.items
    = work_marked walk.met.items next.place v.within v.fresh in
    let now : sum_by work_of after.met.items ≡ sum_by work_of (set walk.met.items next.place true)
    = ap (λ (m : List Bool). sum_by work_of m) v.mark in
    let before : length walk.pending.items ≡ length pop.items + 1 = ap length is ∙ length-append pop.items (next ∷ []) in
    let behind : length after.pending.items ≡ length pop.items + length v.edges
    = ap length v.pending ∙ pending_length pop.items (length after.name.items) v.edges in
    omega (arith, v.few)

-- the end
empty_of_length : {X : Type 0} (xs : List X) → length xs ≡ 0 → xs ≡ []
empty_of_length [] h = refl
empty_of_length (x ∷ xs) h = absurd (omega arith)

pub ends_whole : (bytes : List ℕ) (are_kept : Bool) (walk : Walk) (lines : Lines) → IsFollowed bytes are_kept walk lines
    → length walk.pending.items ≡ 0 → IsWhole bytes are_kept lines
ends_whole bytes are_kept walk lines f none = record {
  exports = λ on. are_exports bytes walk.met.items f.seen (map line_of lines.items.items) w (f.lined on);
  none = none_malformed bytes walk.met.items f.seen w;
}
  where
    w : IsWalked bytes walk.met.items f.seen []
    w =
        let P : List Pending → Type 0 = λ ps. IsWalked bytes walk.met.items f.seen (map (visit_of walk.name.items) ps) in
        subst P (empty_of_length walk.pending.items none) f.walked

-- the start
pub starts_followed : (bytes : List ℕ) (walk : Walk) (lines : Lines) (old : List Pending) (root : Pending) → 0 < length bytes
    → walk.bytes.now ≡ bytes → walk.met.items ≡ replicate (length bytes) false → old ≡ [] → walk.pending.items ≡ old ++ root ∷ []
    → root.place ≡ 0 → root.kept ≡ 0 → root.label.now ≡ []
    → lines.items.items ≡ [] → IsFollowed bytes lines.are_kept walk lines
starts_followed bytes walk lines old root some same marks none pushed place kept label empty = record {
  same = same;
  flag = refl;
  seen = [];
  kept = let P : List Pending → Type 0 = λ ps. AreKept walk.name.items ps in subst P (sym stack) (record {
    within = λ k d h. at_root k d h;
    rising = λ i j d before h. absurd (omega arith);
  });
  walked = walked;
  lined = λ on. let P : List NamedExport → Type 0 = λ ls. IsLined bytes [] (map line_of ls) in subst P (sym empty) (record {
    rising = λ i j d before h. absurd (omega arith);
    found = λ n x c. absurd (nil_contains _ c);
    all = λ p n x c e. absurd (nil_contains _ c);
  });
}
  where
    stack : walk.pending.items ≡ root ∷ []
    stack = pushed ∙ ap (λ (ps : List Pending). ps ++ root ∷ []) none

    at_root : (k : ℕ) (d : Pending) → k < 1 → (get_or (root ∷ []) k d).kept ≤ length walk.name.items
    at_root k d h =
        let here : k ≡ 0 = omega arith in
        let is : (get_or (root ∷ []) k d).kept ≡ 0 = ap (λ (i : ℕ). (get_or (root ∷ []) i d).kept) here ∙ kept in
        omega arith

    visit_is : visit_of walk.name.items root ≡ (let v : ℕ × List ℕ = (0, []) in v)
    visit_is =
        ap (λ (p : ℕ). let v : ℕ × List ℕ = (p, take root.kept walk.name.items ++ root.label.now) in v) place
        ∙ ap (λ (n : ℕ). let v : ℕ × List ℕ = (0, take n walk.name.items ++ root.label.now) in v) kept
        ∙ ap (λ (l : List ℕ). let v : ℕ × List ℕ = (0, l) in v) label

    unmarked : (p : ℕ) → get_or walk.met.items p false ≡ true → ⊥
    unmarked p was =
        let is : get_or walk.met.items p false ≡ false
        = ap (λ (m : List Bool). get_or m p false) marks ∙ all_false (length bytes) p in
        let both : true ≡ false = sym was ∙ is in
        cc
      where
        all_false : (n p : ℕ) → get_or (replicate n false) p false ≡ false
        all_false n p =
            elim (cases_lt p n) [
              | inl low ↦ All-replicate (λ b. b ≡ false) n false refl p false (omega (arith, length-replicate n false))
              | inr high ↦ get_or_past (replicate n false) p false (omega (arith, length-replicate n false))
            ]

    walked : IsWalked bytes walk.met.items [] (map (visit_of walk.name.items) walk.pending.items)
    walked =
        let P : List (ℕ × List ℕ) → Type 0 = λ vs. IsWalked bytes walk.met.items [] vs in
        let all : map (visit_of walk.name.items) walk.pending.items ≡ (let v : ℕ × List ℕ = (0, []) in v) ∷ []
        = ap (λ (ps : List Pending). map (visit_of walk.name.items) ps) stack ∙ ap (λ (v : ℕ × List ℕ). v ∷ []) visit_is in
        subst P (sym all) (record {
          some = some;
          long = ap length marks ∙ length-replicate (length bytes) false;
          met_seen = λ p was. absurd (unmarked p was);
          seen_met = λ p n c. absurd (nil_contains _ c);
          once = λ p x y c d. absurd (nil_contains _ c);
          seen_reached = λ p n c. absurd (nil_contains _ c);
          pending_reached = λ p n c. only_root p n c;
          fine = λ p n c. absurd (nil_contains _ c);
          before = λ p q x y c d. absurd (nil_contains _ c);
          parted = λ i j d before h. absurd (omega arith);
          root = inr (0, omega arith, refl);
        })
      where
        only_root : (p : ℕ) (n : List ℕ) → Contains ((let v : ℕ × List ℕ = (0, []) in v) ∷ []) (p, n) → Reaches bytes p n
        only_root p n c =
            elim (Contains-push_cases [] (0, []) (p, n) c) [
              | inl none ↦ absurd (nil_contains _ none)
              | inr this ↦ let R : ℕ × List ℕ → Type 0 = λ v. Reaches bytes v.0 v.1 in subst R this first
            ]

-- a trie without bytes
pub no_bytes : (bytes : List ℕ) (lines : List NamedExport) → length bytes ≡ 0 → lines ≡ []
    → AreExports bytes (map line_of lines) × ((place : ℕ) → IsMalformedAt bytes place → ⊥)
no_bytes bytes lines none empty = (
  (let P : List NamedExport → Type 0 = λ ls. AreExports bytes (map line_of ls) in subst P (sym empty) (record {
    rising = λ i j d before h. absurd (omega arith);
    found = λ k d h. absurd (omega arith);
    all = λ n x f. absurd (nothing_found bytes n 0 x (past_end bytes 0 (omega arith)) f);
  })),
  λ place m. omega (arith, m.0),
)
