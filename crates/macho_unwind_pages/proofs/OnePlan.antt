-- Entries have one plan.
--
-- A plan's run has the entries by rising start, and starts differ, so two plans have one run. Their functions and their
-- language-specific data are those of the run, and their shared encodings, their slots and their end are those of the entries.
-- Functions are divided into pages in one way.
use Rattle.std.proofs.Common.{◌≡◌, ℕ, List, map, sym, ap, subst, ◌∙◌}
use Rattle.std.specs.List.{flat_map, filter_map}
use Rattle.std.proofs.lemmas.List.Sorted.{Contains-permutation, IsPermutation-sym}
use Rattle.macho_unwind_pages.specs.declared.entries.ResolvedUnwindInfo.{ResolvedUnwindInfo}
use Rattle.macho_unwind_pages.specs.declared.plans.Lsda.{Lsda}
use Rattle.macho_unwind_pages.specs.Entries.{inputs_of, ids_of}
use Rattle.macho_unwind_pages.specs.Plans.{PageList, PlanList, IsPlanOf, page_for}
use Rattle.macho_unwind_pages.specs.Laws.{PlansAreOne}
use Rattle.macho_unwind_pages.proofs.OneList.{rising_once}
use Rattle.macho_unwind_pages.proofs.OneDivision.{IsDivision, same_pages}
use Rattle.macho_unwind_pages.proofs.OneTables.{same_slots, same_end}
use Rattle.macho_unwind_pages.specs.steps.Plans.{row_from, lsda_from}

-- two plans of the same entries have one run
one_run : (text : ℕ) (entries : List ResolvedUnwindInfo) (p q : PlanList) (a : IsPlanOf text entries p) (b : IsPlanOf text entries q)
    → a.run ≡ b.run
one_run text entries p q a b =
    rising_once (λ (e : ResolvedUnwindInfo). e.start) a.run b.run a.rising b.rising
    (λ e c. Contains-permutation entries b.run e b.same (Contains-permutation a.run entries e (IsPermutation-sym entries a.run a.same) c))
    (λ e c. Contains-permutation entries a.run e a.same (Contains-permutation b.run entries e (IsPermutation-sym entries b.run b.same) c))

division : (text : ℕ) (entries : List ResolvedUnwindInfo) (p : PlanList) (a : IsPlanOf text entries p) → IsDivision p.globals a.pages
division text entries p a = record { each = a.divided.each; closed = a.divided.closed }

one_list : (p q : PlanList) → p.globals ≡ q.globals → p.personalities ≡ q.personalities → p.lsdas ≡ q.lsdas → p.pages ≡ q.pages
    → p.end ≡ q.end → p ≡ q
one_list p q globals personalities lsdas pages end =
    ap (λ (l : List ℕ). record p { globals = l }) globals
    ∙ ap (λ (l : List ℕ). record p { globals = q.globals; personalities = l }) personalities
    ∙ ap (λ (l : List Lsda). record q { lsdas = l; pages = p.pages; end = p.end }) lsdas
    ∙ ap (λ (l : List PageList). record q { pages = l; end = p.end }) pages
    ∙ ap (λ (n : ℕ). record q { end = n }) end

-- two plans of the same entries are one
pub plans_are_one : PlansAreOne
plans_are_one text entries p q some a b =
    let run : a.run ≡ b.run = one_run text entries p q a b in
    let shared : p.globals ≡ q.globals = a.globals ∙ sym b.globals in
    let functions : flat_map (λ page. page) a.pages ≡ flat_map (λ page. page) b.pages
    = a.divided.all ∙ ap (map (row_from text (ids_of (inputs_of entries)))) run ∙ sym b.divided.all in
    let divided : a.pages ≡ b.pages
    = same_pages q.globals a.pages b.pages (subst (λ g. IsDivision g a.pages) shared (division text entries p a))
    (division text entries q b)
    functions in
    let pages : p.pages ≡ q.pages
    = a.written ∙ ap (λ g. map (page_for g) a.pages) shared ∙ ap (map (page_for q.globals)) divided ∙ sym b.written in
    one_list p q shared (same_slots text entries p q a b) (a.lsdas ∙ ap (filter_map (lsda_from text)) run ∙ sym b.lsdas) pages
    (same_end text entries p q some a b)
