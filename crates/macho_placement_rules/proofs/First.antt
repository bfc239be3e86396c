-- The first rule that is broken, from answers that decide each rule.
--
-- Before the first rule none is broken. Where all rules before one hold, it holds as well, and so all before the next one do, or it is the
-- first that is broken. Where all before the ninth hold, these are the eight rules of a placement.
use Rattle.std.proofs.Common.{◌≡◌, ℕ, ◌+◌, ◌≤◌, Bool, true, false, not, if◌then◌else◌, Option, Some, None, refl, sym, ap, ◌∙◌, subst, inl, inr, arith, is_some}
use Rattle.std.specs.Bool.{OnTrue}
use Rattle.std.specs.Option.{IfSome}
use Rattle.std.proofs.lemmas.Bool.{cases_lt, false≢true}
use Rattle.macho_model.specs.declared.placed.Counts.{Counts}
use Rattle.macho_model.specs.Links.{Link}
use Rattle.macho_model.specs.Segments.{base_of_link}
use Rattle.macho_model.specs.Placement.{Placed, IsPlaced, IsWholeList}
use Rattle.macho_placement_rules.specs.declared.rules.Kept.{Kept}
use Rattle.macho_placement_rules.specs.Rules.{Rule, IsFirstBroken, EightRules, KeepsEight}
use Rattle.macho_placement_rules.specs.steps.Rules.{Tells, Before, TellsRules, IsVerdict, first_unkept}

-- an answer decides what is equal to what it decides
pub tells_equal : {X : Type 0} (P : X → Type 0) (x y : X) (b : Bool) → x ≡ y → OnTrue b (P x) → (P x → b ≡ true) → Tells (P y) b
tells_equal P x y b same found only = record { found = subst (λ z. OnTrue b (P z)) same found; only = λ is. only (subst P (sym same) is) }

module _ (l : Link) (counts : Counts) (p : Placed) where
  pub none_before : Before l counts p 1
  none_before k low high = absurd (omega (arith, low, high))

  pub rule_more : (n : ℕ) → Before l counts p n → Rule l counts p n → Before l counts p (n + 1)
  rule_more n before here k low high = elim (cases_lt k n) [
    | inl earlier ↦ before k low earlier
    | inr late ↦
        let same : n ≡ k = omega (arith, high, late) in
        subst (Rule l counts p) same here
  ]

  pub all_eight : Before l counts p 9 → IsPlaced l counts p
  unfolding Rule
  all_eight rules = record {
    base = rules 1 (omega arith) (omega arith);
    whole_list = rules 2 (omega arith) (omega arith);
    aligned = rules 3 (omega arith) (omega arith);
    in_segment = rules 4 (omega arith) (omega arith);
    apart = rules 5 (omega arith) (omega arith);
    paged = (rules 6 (omega arith) (omega arith)).0;
    follow = (rules 6 (omega arith) (omega arith)).1;
    begins = (rules 6 (omega arith) (omega arith)).2;
    template = rules 7 (omega arith) (omega arith);
    within_sum = rules 8 (omega arith) (omega arith);
  }

  rule_1 : p.base ≡ base_of_link l → Rule l counts p 1
  unfolding Rule
  rule_1 is = is

  rule_2 : IsWholeList l p → Rule l counts p 2
  unfolding Rule
  rule_2 is = is

  of_rule_1 : Rule l counts p 1 → p.base ≡ base_of_link l
  unfolding Rule
  of_rule_1 is = is

  of_rule_2 : Rule l counts p 2 → IsWholeList l p
  unfolding Rule
  of_rule_2 is = is

  -- the first two rules
  pub base_broken : (b : Bool) → b ≡ false → (p.base ≡ base_of_link l → b ≡ true) → IsFirstBroken l counts p 1
  base_broken b fails only = record {
    within = (omega arith, omega arith);
    broken = λ is. false≢true (sym fails ∙ only (of_rule_1 is));
    before = none_before;
  }

  pub two_before : p.base ≡ base_of_link l → Before l counts p 2
  two_before is = rule_more 1 none_before (rule_1 is)

  pub list_broken : (b : Bool) → b ≡ false → p.base ≡ base_of_link l → (IsWholeList l p → b ≡ true) → IsFirstBroken l counts p 2
  list_broken b fails is only = record {
    within = (omega arith, omega arith);
    broken = λ whole. false≢true (sym fails ∙ only (of_rule_2 whole));
    before = two_before is;
  }

  -- one answer, and those behind it
  pick : (n : ℕ) → 1 ≤ n → n ≤ 8 → (b : Bool) → Tells (Rule l counts p n) b → (rest : Option ℕ)
      → (Before l counts p (n + 1) → IsVerdict l counts p rest) → Before l counts p n
      → IsVerdict l counts p (if not b then Some n else rest)
  pick n some few true tells rest go before = go (rule_more n before tells.found)
  pick n some few false tells rest go before = record {
    right = λ is. absurd (false≢true (sym (ap is_some is)));
    first = record { within = (some, few); broken = λ is. false≢true (tells.only is); before = before };
  }

  -- all answers from the third rule on
  pub verdict_is : (kept : Kept) → TellsRules l counts p kept → p.base ≡ base_of_link l → IsWholeList l p
      → IsVerdict l counts p (first_unkept kept)
  verdict_is kept tells is whole =
      pick 3 (omega arith) (omega arith) kept.aligned tells.aligned _
      (pick 4 (omega arith) (omega arith) kept.in_segment tells.in_segment _
      (pick 5 (omega arith) (omega arith) kept.apart tells.apart _
      (pick 6 (omega arith) (omega arith) kept.in_order tells.in_order _
      (pick 7 (omega arith) (omega arith) kept.template tells.template _
      (pick 8 (omega arith) (omega arith) kept.within_sum tells.within_sum _
      (λ before. record { right = λ none. all_eight before; first = tt }))))))
      (rule_more 2 (two_before is) (rule_2 whole))

-- what an answer says that is this verdict
pub answered : (l : Link) (counts : Counts) (p : Placed) (kept : Kept) (r : Option ℕ) → r ≡ first_unkept kept
    → TellsRules l counts p kept → p.base ≡ base_of_link l → IsWholeList l p → IsVerdict l counts p r
answered l counts p kept r same tells is whole = subst (IsVerdict l counts p) (sym same) (verdict_is l counts p kept tells is whole)

-- a placement is right exactly where it keeps the eight rules
pub eight_rules : EightRules
eight_rules l counts p rules = all_eight l counts p (λ k low high. rules k low (omega (arith, high)))

pub keeps_eight : KeepsEight
unfolding Rule
keeps_eight l counts p placed k low high =
    let b1 : Before l counts p 2 = rule_more l counts p 1 (none_before l counts p) placed.base in
    let b2 : Before l counts p 3 = rule_more l counts p 2 b1 placed.whole_list in
    let b3 : Before l counts p 4 = rule_more l counts p 3 b2 placed.aligned in
    let b4 : Before l counts p 5 = rule_more l counts p 4 b3 placed.in_segment in
    let b5 : Before l counts p 6 = rule_more l counts p 5 b4 placed.apart in
    let b6 : Before l counts p 7 = rule_more l counts p 6 b5 (placed.paged, placed.follow, placed.begins) in
    let b7 : Before l counts p 8 = rule_more l counts p 7 b6 placed.template in
    let b8 : Before l counts p 9 = rule_more l counts p 8 b7 placed.within_sum in
    b8 k low (omega (arith, high))

-- so of a right placement no rule is told
pub none_told : (l : Link) (counts : Counts) (p : Placed) (r : Option ℕ) → IsPlaced l counts p → IfSome r (IsFirstBroken l counts p)
    → r ≡ None
none_told l counts p None placed first = refl
none_told l counts p (Some n) placed first =
    absurd (first.broken (keeps_eight l counts p placed n first.within.0 first.within.1))
