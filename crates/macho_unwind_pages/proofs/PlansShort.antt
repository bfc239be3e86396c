-- A plan of entries has no more pages and bytes than are told before.
--
-- The law of pages and bytes holds of the plan's run. The run is a permutation of the entries, so all that is counted over it is the same
-- of them: codes, those that not every page may name, and data. A page's first start is that of one of its functions, so it lies between
-- the least start and the span above it.
use Rattle.std.proofs.Common.{◌≡◌, ℕ, zero, suc, ◌+◌, ◌-◌, ◌/◌, ◌<◌, ◌≤◌, ◌==◌, not, cond, Option, None, Some, is_some, List, [], ◌∷◌, length, map, get_or, IsPermutation, refl, sym, ap, subst, ◌∙◌, arith, length-append}
use Rattle.std.specs.List.{All, flat_map, count_by, sum_by, list_any}
use Rattle.std.proofs.lemmas.Bool.{ne_eqb}
use Rattle.std.proofs.lemmas.List.{length-map, get_or_append_left, get_or-append-add, get_or_default}
use Rattle.std.proofs.lemmas.List.Elements.{All-map}
use Rattle.std.proofs.lemmas.List.Sums.{sum_by-cons}
use Rattle.std.proofs.lemmas.List.Sorted.{All-permutation, IsPermutation-map, length_permutation, sum_by-IsPermutation}
use Rattle.std.proofs.lemmas.Simd.{map-map}
use Rattle.macho_unwind_pages.specs.declared.entries.UnwindInput.{UnwindInput}
use Rattle.macho_unwind_pages.specs.declared.entries.ResolvedUnwindInfo.{ResolvedUnwindInfo}
use Rattle.macho_unwind_pages.specs.Entries.{SpansAtMost, input_of, inputs_of, ids_of, code_in, codes_of}
use Rattle.macho_unwind_pages.specs.Bounds.{most_pages}
use Rattle.macho_unwind_pages.specs.steps.Tallies.{tallies_of, locals_in}
use Rattle.macho_unwind_pages.specs.Plans.{PlanList, Row, IsPlanOf, page_start, page_for, page_size}
use Rattle.macho_unwind_pages.specs.steps.Planning.{lsda_at, lsda_list}
use Rattle.macho_unwind_pages.specs.Laws.{IsShort, PlansAreShort}
use Rattle.macho_unwind_pages.proofs.OwnCodes.{codes}
use Rattle.macho_unwind_pages.proofs.OneDivision.{IsUsed, all}
use Rattle.macho_unwind_pages.proofs.Divided.{AreRising, plan_rises}
use Rattle.macho_unwind_pages.proofs.Charging.{first_is, pages_are_few, pages_are_short}
use Rattle.macho_unwind_pages.proofs.Gathered.{none}
use Rattle.macho_unwind_pages.proofs.Planned.{lsdas_told}
use Rattle.macho_unwind_pages.specs.steps.Plans.{row_from}

lsda_length : (text : ℕ) (run : List ResolvedUnwindInfo) → length (flat_map (lsda_list text) run) ≡ count_by (λ e. is_some e.lsda) run
lsda_length text [] = refl
lsda_length text (e ∷ run) =
    length-append (lsda_list text e) (flat_map (lsda_list text) run) ∙ ap (λ (n : ℕ). length (lsda_list text e) + n) (lsda_length text run)
    ∙ ap (λ (n : ℕ). n + count_by (λ e. is_some e.lsda) run) (one e.lsda)
    ∙ sym (sum_by-cons (λ (f : ResolvedUnwindInfo). cond (is_some f.lsda) 1 0) e run)
  where
    one : (o : Option ℕ) → length (lsda_at text e.start o) ≡ cond (is_some o) 1 0
    one None = refl
    one (Some address) = refl

lsda_inputs : (entries : List ResolvedUnwindInfo) → count_by (λ e. e.lsda) (inputs_of entries) ≡ count_by (λ e. is_some e.lsda) entries
lsda_inputs [] = refl
lsda_inputs (e ∷ entries) =
    sum_by-cons (λ (i : UnwindInput). cond i.lsda 1 0) (input_of e) (inputs_of entries)
    ∙ ap (λ (n : ℕ). cond (is_some e.lsda) 1 0 + n) (lsda_inputs entries)
    ∙ sym (sum_by-cons (λ (f : ResolvedUnwindInfo). cond (is_some f.lsda) 1 0) e entries)

-- what holds of all functions holds of the first ones of pages
first_rows : (P : ℕ → Type 0) (globals : List ℕ) (pages : List (List Row)) → All (IsUsed globals) pages → All (λ r. P r.start) (all pages)
    → All (λ page. P (page_start page)) pages
first_rows P globals [] used holds k d h = absurd (omega arith)
first_rows P globals (p ∷ ps) used holds zero d h =
    let r : Row = record { start = 0; code = 0 } in
    let some = (used 0 p (omega arith)).0 in
    subst P (ap (λ (q : Row). q.start) (get_or_append_left p (all ps) r 0 some) ∙ sym (first_is p some))
    (holds 0 r (omega (arith, some, length-append p (all ps))))
first_rows P globals (p ∷ ps) used holds (suc k) d h =
    first_rows P globals ps (λ j e w. used (suc j) e (omega arith))
    (λ j e w. subst (λ (q : Row). P q.start) (get_or-append-add p (all ps) j e)
    (holds (length p + j) e (omega (arith, length-append p (all ps))))) k d (omega arith)

-- the codes that not every page may name, over the run and over the entries
own_of_run : (text : ℕ) (globals ids : List ℕ) (entries run : List ResolvedUnwindInfo) → IsPermutation entries run
    → locals_in globals (map (λ row. row.code) (map (row_from text ids) run)) ≡ locals_in globals (map (code_in ids) (inputs_of entries))
own_of_run text globals ids entries run moved =
    let code : ResolvedUnwindInfo → ℕ = λ e. code_in ids (input_of e) in
    ap (locals_in globals) (map-map (λ (row : Row). row.code) (row_from text ids) run)
    ∙ sum_by-IsPermutation (λ (c : ℕ). cond (not (list_any (λ global. c == global) globals)) 1 0)
    (map (λ e. code_in ids (input_of e)) entries)
    (map (λ e. code_in ids (input_of e)) run) (IsPermutation-map (λ e. code_in ids (input_of e)) entries run moved)
    ∙ ap (locals_in globals) (sym (map-map (code_in ids) input_of entries))

some_most : (entries : List UnwindInput) (span : ℕ) → 0 < length entries
    → most_pages entries span ≡ 1 + span / 16777216 + (tallies_of entries).local / 32
    + ((tallies_of entries).entries + (tallies_of entries).local) / 1020
some_most entries span some = rw (ne_eqb (length entries) 0 (λ e. absurd (omega arith))) refl

few_pages : (text : ℕ) (entries : List ResolvedUnwindInfo) (plan : PlanList) (a : IsPlanOf text entries plan) → 0 < length a.run
    → All (λ e. text ≤ e.start) a.run → AreRising (all a.pages) → (span : ℕ) → SpansAtMost span entries
    → length plan.pages ≤ most_pages (inputs_of entries) span
few_pages text entries plan a some from rises span spans =
    let ids = ids_of (inputs_of entries) in
    let least : ℕ = (get_or a.run 0 none).start - text in
    let over_run : All (λ e. All (λ f. f.start ≤ e.start + span) a.run) a.run
    = All-permutation (λ e. All (λ f. f.start ≤ e.start + span) a.run) entries a.run a.same
    (λ k d h. All-permutation (λ f. f.start ≤ (get_or entries k d).start + span) entries a.run a.same (spans k d h)) in
    let above : All (λ r. (get_or a.run 0 none).start - text ≤ r.start) (map (row_from text ids) a.run)
    = All-map (λ r. (get_or a.run 0 none).start - text ≤ r.start) (row_from text ids) a.run (λ k d h. least_first k d h) in
    let below : All (λ r. r.start ≤ (get_or a.run 0 none).start - text + span) (map (row_from text ids) a.run)
    = All-map (λ r. r.start ≤ (get_or a.run 0 none).start - text + span) (row_from text ids) a.run
    (λ k d h. omega (arith, over_run 0 none some k d h, from k d h, from 0 none some)) in
    let law = pages_are_few plan.globals a.pages ((get_or a.run 0 none).start - text) span
    (record { each = a.divided.each; closed = a.divided.closed }) rises
    (first_rows (λ n. (get_or a.run 0 none).start - text ≤ n) plan.globals a.pages a.divided.each
    (subst (All (λ r. (get_or a.run 0 none).start - text ≤ r.start)) (sym a.divided.all) above))
    (first_rows (λ n. n ≤ (get_or a.run 0 none).start - text + span) plan.globals a.pages a.divided.each
    (subst (All (λ r. r.start ≤ (get_or a.run 0 none).start - text + span)) (sym a.divided.all) below)) in
    omega (
      arith,
      law,
      ap length a.written,
      length-map a.pages (page_for plan.globals),
      ap length a.divided.all,
      length-map a.run (row_from text (ids_of (inputs_of entries))),
      length_permutation entries a.run a.same,
      length-map entries input_of,
      ap (λ (l : List Row). locals_in plan.globals (codes l)) a.divided.all,
      own_of_run text plan.globals (ids_of (inputs_of entries)) entries a.run a.same,
      ap (λ g. locals_in g (codes_of (inputs_of entries))) a.globals,
      some_most (inputs_of entries) span (omega (arith, length-map entries input_of, some, length_permutation entries a.run a.same)),
    )
  where
    least_first : (k : ℕ) (d : ResolvedUnwindInfo) → k < length a.run → (get_or a.run 0 none).start - text ≤ (get_or a.run k d).start - text
    least_first zero d h = omega (arith, ap (λ (e : ResolvedUnwindInfo). e.start) (get_or_default a.run 0 none d h))
    least_first (suc k) d h =
        let first = ap (λ (e : ResolvedUnwindInfo). e.start) (get_or_default a.run 0 none d some) in
        omega (arith, a.rising 0 (suc k) d (omega arith) h, first)

-- the bytes of a plan
short_plan : (text : ℕ) (entries : List ResolvedUnwindInfo) (plan : PlanList) (a : IsPlanOf text entries plan) → 0 < length a.run
    → All (λ e. text ≤ e.start) a.run → AreRising (all a.pages) → IsShort entries plan
short_plan text entries plan a some from rises span spans =
    omega (
      arith,
      few_pages text entries plan a some from rises span spans,
      pages_are_short plan.globals a.pages,
      ap (sum_by page_size) a.written,
      ap length a.written,
      length-map a.pages (page_for plan.globals),
      ap length a.divided.all,
      length-map a.run (row_from text (ids_of (inputs_of entries))),
      length_permutation entries a.run a.same,
      length-map entries input_of,
      ap (λ (l : List Row). locals_in plan.globals (codes l)) a.divided.all,
      own_of_run text plan.globals (ids_of (inputs_of entries)) entries a.run a.same,
      ap (λ g. locals_in g (codes_of (inputs_of entries))) a.globals,
      ap length a.globals,
      a.personalities,
      ap length (a.lsdas ∙ lsdas_told text a.run),
      lsda_length text a.run,
      sum_by-IsPermutation (λ (e : ResolvedUnwindInfo). cond (is_some e.lsda) 1 0) entries a.run a.same,
      lsda_inputs entries,
    )

pub plans_short : PlansAreShort
plans_short text entries plan some are a =
    let moved : 0 < length a.run = omega (arith, some, length_permutation entries a.run a.same) in
    let from : All (λ e. text ≤ e.start) a.run = All-permutation (λ e. text ≤ e.start) entries a.run a.same are.starts in
    let rises = plan_rises text entries plan are a in
    (few_pages text entries plan a moved from rises, short_plan text entries plan a moved from rises)
