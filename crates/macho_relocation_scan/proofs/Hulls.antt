-- Fields that rise or fall. What all fields so far lie between is known; one more that stands before or behind that shares no
-- byte with any. The second of a pair is held against what those before its partner lie between.
use Rattle.std.proofs.Common.{◌≡◌, ℕ, ◌+◌, ◌-◌, ◌<◌, ◌≤◌, ◌⊎◌, inl, inr, Bool, true, false, ◌&&◌, ◌||◌, nat_le, nat_lt, ◌==◌, List, Some, None, refl, sym, ap, ◌∙◌, subst, arith, if◌then◌else◌}
use Rattle.std.proofs.lemmas.Bool.Decides.{nat_tests}
use Rattle.std.proofs.lemmas.Bool.{cases_lt, eq-eqb}
use Rattle.macho_wire.specs.declared.relocations.RelocationInfo.{RelocationInfo}
use Rattle.macho_model.specs.Objects.{relocation_at}
use Rattle.macho_model.specs.Fields.{is_pair}
use Rattle.macho_relocation_scan.specs.declared.overlap.Hull.{Hull}
use Rattle.macho_relocation_scan.specs.declared.overlap.Order.{Order}
use Rattle.macho_relocation_scan.specs.declared.pairs.Seen.{Seen}
use Rattle.macho_relocation_scan.specs.steps.Windows.{window_in, ends, tests_before}
use Rattle.macho_relocation_scan.specs.steps.Overlaps.{field_end, shares, are_one, GoTogether, AreApart, IsInside, Holds, excludes, hull_with, IsOrder}

-- what stands outside shares no byte
apart_by : (a e low high b f : ℕ) → low ≤ a → e ≤ high → (nat_le high b || nat_le f low) ≡ true → (nat_lt a f && nat_lt b e) ≡ false
apart_by a e low high b f l h test = by (nat_le high b) refl
  where
    none : (x : Bool) → (x && false) ≡ false
    none true = refl
    none false = refl

    by : (x : Bool) → nat_le high b ≡ x → (nat_lt a f && nat_lt b e) ≡ false
    by true t = let far : nat_lt b e ≡ false = grind (arith, nat_tests) in ap (λ y. nat_lt a f && y) far ∙ none (nat_lt a f)
    by false t = let near : nat_le f low ≡ true = sym (ap (λ y. y || nat_le f low) t) ∙ test in
        let far : nat_lt a f ≡ false = grind (arith, nat_tests) in ap (λ y. y && nat_lt b e) far

outside : (h : Hull) (q r : RelocationInfo) → IsInside h q → excludes h r ≡ true → shares q r ≡ false
outside h q r is test = apart_by q.r_address (field_end q) h.low h.high r.r_address (field_end r) is.0 is.1 test

-- the second of a pair has its partner before it
partner_at : (b : List ℕ) (k q : ℕ) → ends (window_in b k (q + 1)) ≡ true → are_one b k q (q + 1) ≡ true
partner_at b k q e =
    let one : nat_le 1 (q + 1) ≡ true = grind (arith, nat_tests) in
    let back : q + 1 - 1 ≡ q = omega arith in
    let itself : (q + 1 == q + 1) ≡ true = eq-eqb (q + 1) (q + 1) refl in
    let pair : is_pair (relocation_at b k q) (relocation_at b k (q + 1)) ≡ true
    = sym (ap (λ t. tests_before is_pair (if t then Some (relocation_at b k (q + 1 - 1)) else None) (relocation_at b k (q + 1))) one
    ∙ ap (λ n. is_pair (relocation_at b k n) (relocation_at b k (q + 1))) back) ∙ e in
    ap (λ t. t && is_pair (relocation_at b k q) (relocation_at b k (q + 1))) itself ∙ pair

pub partner : (b : List ℕ) (k i : ℕ) → ends (window_in b k i) ≡ true → (q : ℕ) → q < i → i ≤ q + 1 → are_one b k q i ≡ true
partner b k i e q before last =
    let next : q + 1 ≡ i = omega arith in
    subst (λ n. are_one b k q n ≡ true) next (partner_at b k q (subst (λ n. ends (window_in b k n) ≡ true) (sym next) e))

apart_more : (b : List ℕ) (k i : ℕ) (older hull : Hull) → AreApart b k i
    → ((q : ℕ) → q + 1 < i → IsInside older (relocation_at b k q)) → Holds b k hull i
    → excludes (if ends (window_in b k i) then older else hull) (relocation_at b k i) ≡ true → AreApart b k (i + 1)
apart_more b k i older hull apart old all test = record { each = λ q r order below. by q r order (cases_lt r i) below }
  where
    new : (e : Bool) → ends (window_in b k i) ≡ e → excludes (if e then older else hull) (relocation_at b k i) ≡ true → (q : ℕ) → q < i
        → GoTogether b k q i
    new false is t q before = inl (outside hull (relocation_at b k q) (relocation_at b k i) (all q before) t)
    new true is t q before = at (cases_lt (q + 1) i)
      where
        at : (q + 1 < i) ⊎ (i ≤ q + 1) → GoTogether b k q i
        at (inl h) = inl (outside older (relocation_at b k q) (relocation_at b k i) (old q h) t)
        at (inr h) = inr (partner b k i is q before h)

    by : (q r : ℕ) → q < r → (r < i) ⊎ (i ≤ r) → r < i + 1 → GoTogether b k q r
    by q r order (inl h) below = apart.each q r order h
    by q r order (inr h) below = let same : i ≡ r = omega arith in
        subst (GoTogether b k q) same (new (ends (window_in b k i)) refl test q (omega (arith, order, same)))

hull_more : (b : List ℕ) (k i : ℕ) (hull : Hull) → Holds b k hull i → Holds b k (hull_with hull (relocation_at b k i)) (i + 1)
hull_more b k i hull all q below = by (cases_lt q i)
  where
    by : (q < i) ⊎ (i ≤ q) → IsInside (hull_with hull (relocation_at b k i)) (relocation_at b k q)
    by (inl h) = let is = all q h in (omega (arith, is.0), omega (arith, is.1))
    by (inr h) = let same : i ≡ q = omega arith in
        subst (λ n. IsInside (hull_with hull (relocation_at b k i)) (relocation_at b k n)) same (omega arith, omega arith)

none_apart : (b : List ℕ) (k : ℕ) → AreApart b k 0
none_apart b k = record { each = λ q r order below. absurd (omega (arith, below)) }

-- what is known of no field, and of one more
pub order_none : (b : List ℕ) (k : ℕ) (o : Order) → IsOrder b k 0 o
order_none b k o = record {
  older = λ q below. absurd (omega (arith, below));
  hull = λ q below. absurd (omega (arith, below));
  apart = λ e. none_apart b k;
}

pub order_more : (b : List ℕ) (k i : ℕ) (o new : Order) (seen : Seen) (outside : Bool) → seen ≡ window_in b k i
    → outside ≡ excludes (if ends seen then o.older else o.hull) seen.this
    → new.older ≡ o.hull → new.hull ≡ hull_with o.hull seen.this → new.are_apart ≡ (o.are_apart && outside)
    → IsOrder b k i o → IsOrder b k (i + 1) new
order_more b k i o new seen outside is test older hull apart known = record {
  older = λ q below. subst (λ h. IsInside h (relocation_at b k q)) (sym older) (known.hull q (omega (arith, below)));
  hull = subst (λ h. Holds b k h (i + 1)) (sym hull_here) (hull_more b k i o.hull known.hull);
  apart = λ e. all o.are_apart outside refl refl (sym apart ∙ e);
}
  where
    hull_here : new.hull ≡ hull_with o.hull (relocation_at b k i)
    hull_here = hull ∙ ap (λ (s : Seen). hull_with o.hull s.this) is

    test_here : outside ≡ excludes (if ends (window_in b k i) then o.older else o.hull) (relocation_at b k i)
    test_here = test ∙ ap (λ (s : Seen). excludes (if ends s then o.older else o.hull) s.this) is

    all : (old out : Bool) → o.are_apart ≡ old → outside ≡ out → (old && out) ≡ true → AreApart b k (i + 1)
    all true true before out e = apart_more b k i o.older o.hull (known.apart before) known.older known.hull (sym test_here ∙ out)
    all true false before out e = cc
    all false out before here e = cc
