-- What the parts of a plan cost.
--
-- No alignment passes that of a page, so neither does the greatest of some, nor the one that a section is placed at. A sum that
-- doesn't fit stays one that doesn't when more is added. Sections and commons cost what their members do.
use Rattle.std.proofs.Common.{◌≡◌, ℕ, ◌+◌, ◌^◌, ◌<◌, ◌≤◌, ◌==◌, Bool, true, false, cond, Some, None, List, [], ◌∷◌, map, filter, fold, max, get_or, All, sum_by, refl, sym, ap, ◌∙◌, subst, arith, ltb}
use Rattle.std.specs.List.{AllByRecursion}
use Rattle.std.proofs.Math.Nat.{max-le}
use Rattle.std.proofs.lemmas.Bool.{ltb-true, ltb-false, lt-ltb, le-ltb}
use Rattle.std.proofs.lemmas.List.Elements.{recursion_from_All, All-filter}
use Rattle.std.proofs.lemmas.List.Folds.{fold-map}
use Rattle.std.proofs.lemmas.List.Sums.{sum_by-append}
use Rattle.macho_records.specs.Sections.{is_template_type}
use Rattle.macho_stack.specs.declared.members.Member.{Member}
use Rattle.macho_stack.specs.Costs.{cost_of}
use Rattle.macho_layout.specs.declared.spec.SectionSpec.{SectionSpec}
use Rattle.macho_layout.specs.declared.spec.CommonSpec.{CommonSpec}
use Rattle.macho_layout.specs.Plans.{Planning}
use Rattle.macho_layout.specs.declared.spec.Planned.{Planned}
use Rattle.macho_layout.specs.Keys.{specs_of}
use Rattle.std.proofs.lemmas.List.{get_or-map, length-map}
use Rattle.macho_layout.specs.Members.{type_of_spec, template_align, placed_align, section_member, common_member, members_of}
use Rattle.macho_layout.specs.Sums.{fitting, section_cost, members_cost}

-- the greatest of some numbers that are at most m
pub most-max : {X : Type 0} (f : X → ℕ) (m a : ℕ) (xs : List X) → a ≤ m → AllByRecursion (λ x. f x ≤ m) xs → fold max a (map f xs) ≤ m
most-max f m a [] low h = low
most-max f m a (x ∷ xs) low h = most-max f m (max a (f x)) xs (max-le low h.0) h.1

pub template-small : (p : Planning) → All (λ s. s.align ≤ 14) p.sections → template_align p ≤ 14
unfolding template_align
template-small p h =
    let passes : SectionSpec → Bool = λ s. is_template_type (type_of_spec s) in
    most-max (λ (s : SectionSpec). s.align) 14 0 (filter (λ (s : SectionSpec). is_template_type (type_of_spec s)) p.sections) (omega arith)
    (recursion_from_All (λ (s : SectionSpec). s.align ≤ 14) (filter (λ (s : SectionSpec). is_template_type (type_of_spec s)) p.sections)
    (All-filter (λ (s : SectionSpec). is_template_type (type_of_spec s)) (λ (s : SectionSpec). s.align ≤ 14) p.sections h))

pub placed-small : (template : ℕ) (s : SectionSpec) → template ≤ 14 → s.align ≤ 14 → placed_align template s ≤ 14
placed-small template s t h = by (is_template_type (type_of_spec s)) (type_of_spec s == 0x13)
  where
    by : (a b : Bool) → cond a template (cond b (max s.align 3) s.align) ≤ 14
    by true b = t
    by false true = max-le h (omega arith)
    by false false = h

-- numbers that fit
pub fitting-none : (n m : ℕ) → None ≡ fitting n → n ≤ m → None ≡ fitting m
fitting-none n m e more = by (ltb n (2 ^ 64)) refl e
  where
    by : (b : Bool) → ltb n (2 ^ 64) ≡ b → None ≡ cond b (Some n) None → None ≡ fitting m
    by true is h = cc
    by false is h = sym (ap (λ (b : Bool). cond b (Some m) None) (le-ltb m (2 ^ 64) (omega (arith, ltb-false n (2 ^ 64) is, more))))

pub fitting-some : (n k : ℕ) → Some k ≡ fitting n → k ≡ n
fitting-some n k e = by (ltb n (2 ^ 64)) e
  where
    by : (b : Bool) → Some k ≡ cond b (Some n) None → k ≡ n
    by true h = cc
    by false h = cc

pub fitting-below : (n k : ℕ) → Some k ≡ fitting n → n < 2 ^ 64
fitting-below n k e = by (ltb n (2 ^ 64)) refl e
  where
    by : (b : Bool) → ltb n (2 ^ 64) ≡ b → Some k ≡ cond b (Some n) None → n < 2 ^ 64
    by true is h = ltb-true n (2 ^ 64) is
    by false is h = cc

pub fitting-is : (n k : ℕ) → k ≡ n → k < 2 ^ 64 → Some k ≡ fitting n
fitting-is n k e low = ap Some e ∙ sym (ap (λ (b : Bool). cond b (Some n) None) (lt-ltb n (2 ^ 64) (omega arith)))

-- sections and commons cost what their members do
pub members-cost-is : (p : Planning) → sum_by cost_of (members_of p) ≡ members_cost p
unfolding members_of members_cost
members-cost-is p =
    sum_by-append cost_of (map (section_member p) p.sections) (map (common_member p) p.commons)
    ∙ ap (λ (n : ℕ). n + sum_by cost_of (map (common_member p) p.commons))
    (fold-map (λ (n : ℕ) (m : Member). n + cost_of m) (section_member p) 0 p.sections)
    ∙ ap (λ (n : ℕ). sum_by (λ (s : SectionSpec). cost_of (section_member p s)) p.sections + n)
    (fold-map (λ (n : ℕ) (m : Member). n + cost_of m) (common_member p) 0 p.commons)

-- the alignments that sections are placed at
pub aligns_small : (p : Planning) (sections : List Planned) (t : ℕ) → p.sections ≡ specs_of sections → t ≡ template_align p
    → All (λ s. s.align ≤ 14) (specs_of sections) → All (λ s. placed_align t s.spec ≤ 14) sections
aligns_small p sections t e at h k d low =
    let small = template-small p (subst (λ (ss : List SectionSpec). All (λ s. s.align ≤ 14) ss) (sym e) h) in
    let one : (get_or sections k d).spec.align ≤ 14
    = subst (λ (s : SectionSpec). s.align ≤ 14) (get_or-map (λ (s : Planned). s.spec) sections k d d.spec low)
    (h k d.spec (omega (arith, length-map sections (λ (s : Planned). s.spec)))) in
    placed-small t (get_or sections k d).spec (omega arith) one

-- what the parts cost, by what the tables hold
pub members_split : (p : Planning) (sections : List Planned) (t : ℕ) → p.sections ≡ specs_of sections → t ≡ template_align p
    → members_cost p ≡ sum_by (λ s. section_cost s.spec.size (placed_align t s.spec)) sections + sum_by
    (λ c. section_cost c.size c.align) p.commons
unfolding members_cost
members_split p sections t e at =
    ap (λ (ss : List SectionSpec). sum_by (λ (s : SectionSpec). section_cost s.size (placed_align (template_align p) s)) ss + sum_by
    (λ (c : CommonSpec). section_cost c.size c.align) p.commons) e
    ∙ ap (λ (n : ℕ). n + sum_by (λ (c : CommonSpec). section_cost c.size c.align) p.commons)
    (fold-map (λ (n : ℕ) (s : SectionSpec). n + section_cost s.size (placed_align (template_align p) s))
    (λ (s : Planned). s.spec) 0 sections)
    ∙ ap (λ (n : ℕ). sum_by (λ (s : Planned). section_cost s.spec.size (placed_align n s.spec)) sections + sum_by
    (λ (c : CommonSpec). section_cost c.size c.align) p.commons) (sym at)
