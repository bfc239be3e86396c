-- Members in their cells, one member more.
--
-- The cell of the new member has a block more, at the least place behind its size; the rows of all other cells stay, since a
-- filter passes the new member over. The members that were there end at the cell's size or before, so the new one stands
-- behind them. A cell's cost grows by the bytes of the member and at most twice the padding of its alignment: once in front
-- of it, and once because the greatest of two powers of two is below their sum.
use Rattle.std.proofs.Common.{◌≡◌, ℕ, ◌+◌, ◌^◌, ◌<◌, ◌≤◌, ◌==◌, true, List, [], ◌∷◌, ◌++◌, length, map, fold, get_or, set, sum_by, max, bit_or, inl, inr, refl, sym, ap, ◌∙◌, subst, arith}
use Rattle.std.proofs.lemmas.Bool.{cases_eq, cases_lt, eq-eqb, ne_eqb}
use Rattle.std.proofs.lemmas.Nat.{pow_pos}
use Rattle.std.proofs.Math.Nat.{max-eq_left, max-eq_right}
use Rattle.std.proofs.lemmas.List.{get_or-map, get_or-set_same, get_or-set_other, length-set, length-map, map_push}
use Rattle.std.proofs.lemmas.List.Elements.{All-from_recursion}
use Rattle.std.proofs.lemmas.List.Quantifiers.{all_pairs_push}
use Rattle.std.proofs.lemmas.List.Sums.{sum_by-cons, sum_by-set, sum_by_push, fold_push}
use Rattle.macho_bytes.specs.Numbers.{rounded_up}
use Rattle.macho_stack.specs.declared.members.Member.{Member}
use Rattle.macho_stack.specs.declared.members.PlacedMember.{PlacedMember}
use Rattle.macho_stack.specs.declared.members.Extent.{Extent}
use Rattle.macho_stack.specs.Blocks.{Block, StandLeast, IsStack}
use Rattle.macho_stack.specs.Costs.{cost_of, extent_cost}
use Rattle.macho_stack.specs.Stacks.{empty_extent, begun, joined, extent_at, is_in_cell, members_in, block_of, StandBehind, AreStacked}
use Rattle.macho_stack.proofs.Lists.{filter_push_yes, filter_push_no, unfiltered}
use Rattle.macho_stack.proofs.StackRows.{row-push, row-ends}
use Rattle.macho_bytes.proofs.Rounding.{rounded-above, rounded-near}

-- cells without members cost nothing
begun-cost : (flags : List ℕ) → sum_by extent_cost (begun flags) ≡ 0
begun-cost [] = refl
begun-cost (f ∷ flags) = omega (arith, begun-cost flags, sum_by-cons extent_cost (empty_extent f) (begun flags))

-- no member
pub stacked_none : (flags : List ℕ) → AreStacked flags [] (begun flags) []
stacked_none flags = record {
  many = length-map flags empty_extent;
  same = refl;
  stacks = λ c there. record { least = sym (ap (λ (e : Extent). e.size) (get_or-map empty_extent flags c 0 (empty_extent 0) there)) };
  order = λ i j d before within. absurd (omega arith);
  exponents = λ c there. ap (λ (e : Extent). e.exponent) (get_or-map empty_extent flags c 0 (empty_extent 0) there);
  flags_of = λ c there. ap (λ (e : Extent). e.flags) (get_or-map empty_extent flags c 0 (empty_extent 0) there);
  within = omega (arith, begun-cost flags);
}

-- the greatest of two powers of two is below their sum
powers : (a b : ℕ) → 2 ^ max a b + 1 ≤ 2 ^ a + 2 ^ b
powers a b = elim (cases_lt a b) [
  | inl less ↦ omega (arith, ap (λ (n : ℕ). 2 ^ n) (max-eq_right {n = a} {m = b} (omega arith)), pow_pos a)
  | inr more ↦ omega (arith, ap (λ (n : ℕ). 2 ^ n) (max-eq_left {n = a} {m = b} more), pow_pos b)
]

-- what one member more costs its cell
joined-cost : (e : Extent) (m : Member) → extent_cost (joined e m) ≤ extent_cost e + cost_of m
joined-cost e m = omega (
  arith,
  rounded-near (2 ^ m.exponent) e.size (pow_pos m.exponent),
  powers e.exponent m.exponent,
  pow_pos m.exponent,
  pow_pos e.exponent,
)

-- a member as it was put in its cell
abbrev pub put_member : List Extent → Member → PlacedMember
put_member extents m = record { member = m; offset = rounded_up (2 ^ m.exponent) (extent_at extents m.cell).size }

-- what a fact about a cell and its members is after one member more: by cases, its own cell or another
by_cell : (G : Extent → List PlacedMember → Type 0) (extents : List Extent) (placed : List PlacedMember) (m : Member) (c : ℕ)
    → m.cell < length extents → G (extent_at extents c) (members_in c placed)
    → (c ≡ m.cell → G (joined (extent_at extents m.cell) m) (members_in c placed ++ put_member extents m ∷ []))
    → G (extent_at (set extents m.cell (joined (extent_at extents m.cell) m)) c) (members_in c (placed ++ put_member extents m ∷ []))
by_cell G extents placed m c there old new = elim (cases_eq c m.cell) [
  | inl own ↦
      let is : extent_at (set extents m.cell (joined (extent_at extents m.cell) m)) c ≡ joined (extent_at extents m.cell) m
      = ap (λ (k : ℕ). extent_at (set extents m.cell (joined (extent_at extents m.cell) m)) k) own
      ∙ get_or-set_same extents m.cell (joined (extent_at extents m.cell) m) (empty_extent 0) there in
      let more : members_in c (placed ++ put_member extents m ∷ []) ≡ members_in c placed ++ put_member extents m ∷ []
      = filter_push_yes (is_in_cell c) placed (put_member extents m) (eq-eqb m.cell c (sym own)) in
      subst (λ (e : Extent). G e (members_in c (placed ++ put_member extents m ∷ []))) (sym is)
      (subst (λ (qs : List PlacedMember). G (joined (extent_at extents m.cell) m) qs) (sym more) (new own))
  | inr other ↦
      let is : extent_at (set extents m.cell (joined (extent_at extents m.cell) m)) c ≡ extent_at extents c
      = get_or-set_other extents m.cell c (joined (extent_at extents m.cell) m) (empty_extent 0) other in
      let same : members_in c (placed ++ put_member extents m ∷ []) ≡ members_in c placed
      = filter_push_no (is_in_cell c) placed (put_member extents m) (ne_eqb m.cell c (λ e. other (sym e))) in
      subst (λ (e : Extent). G e (members_in c (placed ++ put_member extents m ∷ []))) (sym is)
      (subst (λ (qs : List PlacedMember). G (extent_at extents c) qs) (sym same) old)
]

-- the new member stands behind those of its cell
behind : (flags : List ℕ) (members : List Member) (extents : List Extent) (placed : List PlacedMember) (m : Member) → m.cell < length flags
    → AreStacked flags members extents placed → (k : ℕ) (d : PlacedMember) → k < length placed → StandBehind (get_or placed k d)
    (put_member extents m)
behind flags members extents placed m here s k d low same =
    let size : ℕ = (extent_at extents m.cell).size in
    let each = All-from_recursion (λ x. (x.member.cell == m.cell) ≡ true → x.offset + x.member.size ≤ (extent_at extents m.cell).size)
    placed
    (unfiltered (λ (x : PlacedMember). x.offset + x.member.size ≤ (extent_at extents m.cell).size) (is_in_cell m.cell) placed
    (row-ends block_of 0 (members_in m.cell placed) (extent_at extents m.cell).size (s.stacks m.cell here).least)) in
    let below = each k d low (eq-eqb (get_or placed k d).member.cell m.cell same) in
    let up = rounded-above (2 ^ m.exponent) (extent_at extents m.cell).size (pow_pos m.exponent) in
    omega (arith, below, up)

-- one member more
pub stacked_more : (flags : List ℕ) (members : List Member) (extents next : List Extent) (placed : List PlacedMember) (m : Member)
    → m.cell < length flags → next ≡ set extents m.cell (joined (extent_at extents m.cell) m) → AreStacked flags members extents placed
    → AreStacked flags (members ++ m ∷ []) next (placed ++ put_member extents m ∷ [])
stacked_more flags members extents next placed m here is s =
    let inside : m.cell < length extents = omega (arith, s.many) in
    let q : PlacedMember = put_member extents m in
    subst (λ (es : List Extent). AreStacked flags (members ++ m ∷ []) es (placed ++ put_member extents m ∷ [])) (sym is) (record {
      many = length-set extents m.cell (joined (extent_at extents m.cell) m) ∙ s.many;
      same = map_push (λ (q : PlacedMember). q.member) placed (put_member extents m) ∙ ap (λ (ms : List Member). ms ++ m ∷ []) s.same;
      stacks = λ c there. by_cell (λ e qs. IsStack 0 (map block_of qs) e.size) extents placed m c inside (s.stacks c there) (λ own. record {
        least = subst (λ (bs : List Block). StandLeast 0 bs (joined (extent_at extents m.cell) m).size)
            (sym (map_push block_of (members_in c placed) (put_member extents m)))
            (row-push 0 (map block_of (members_in c placed)) (extent_at extents m.cell).size (block_of (put_member extents m))
            (subst (λ (k : ℕ). StandLeast 0 (map block_of (members_in c placed)) (extent_at extents k).size) own (s.stacks c there).least)
            refl);
      });
      order = all_pairs_push StandBehind placed (put_member extents m) s.order (behind flags members extents placed m here s);
      exponents = λ c there. by_cell (λ e qs. e.exponent ≡ fold max 0 (map (λ (q : PlacedMember). q.member.exponent) qs)) extents placed m c
          inside (s.exponents c there)
          (λ own. ap (λ (n : ℕ). max n m.exponent) (ap (λ (k : ℕ). (extent_at extents k).exponent) (sym own) ∙ s.exponents c there)
          ∙ sym (ap (fold max 0) (map_push (λ (q : PlacedMember). q.member.exponent) (members_in c placed) (put_member extents m))
          ∙ fold_push max 0 (map (λ (q : PlacedMember). q.member.exponent) (members_in c placed)) m.exponent));
      flags_of = λ c there. by_cell (λ e qs. e.flags ≡ fold bit_or (get_or flags c 0) (map (λ (q : PlacedMember). q.member.flags) qs))
          extents placed m c inside (s.flags_of c there)
          (λ own. ap (λ (n : ℕ). bit_or n m.flags) (ap (λ (k : ℕ). (extent_at extents k).flags) (sym own) ∙ s.flags_of c there)
          ∙ sym (ap (fold bit_or (get_or flags c 0)) (map_push (λ (q : PlacedMember). q.member.flags) (members_in c placed)
          (put_member extents m))
          ∙ fold_push bit_or (get_or flags c 0) (map (λ (q : PlacedMember). q.member.flags) (members_in c placed)) m.flags));
      within = omega (
        arith,
        s.within,
        sum_by-set extent_cost extents m.cell (joined (extent_at extents m.cell) m) (empty_extent 0) inside,
        joined-cost (extent_at extents m.cell) m,
        sum_by_push cost_of members m,
      );
    })
