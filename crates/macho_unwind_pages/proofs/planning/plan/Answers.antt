-- A plan of entries, or why there is none.
--
-- The sorted run is a permutation of the entries, so what holds of each entry holds of each one of the run: no address is
-- below the text's, and no end is 2^64 or more. If an offset is too far for the run, it is for the entries. If not, the run
-- is ready: starts rise, all addresses are near, and the ids are three at most. What is assembled from a ready run is a plan
-- of the entries. And no offset of the entries is too far, since none of the run is.
use Rattle.std.proofs.Common.{◌≡◌, ◌+◌, ◌<◌, ◌≤◌, ◌^◌, ℕ, List, length, map, sym, ap, subst, ◌∙◌, arith, rules}
use Rattle.std.specs.List.{All}
use Rattle.std.proofs.lemmas.List.Sorted.{All-permutation, length_permutation}
use Rattle.std.proofs.lemmas.Result.{err_from_is_err_and}
use Rattle.macho_unwind_pages.specs.declared.entries.UnwindInput.{UnwindInput}
use Rattle.macho_unwind_pages.specs.declared.entries.ResolvedUnwindInfo.{ResolvedUnwindInfo}
use Rattle.macho_unwind_pages.specs.Entries.{IsLast, ids_of, code_in}
use Rattle.macho_unwind_pages.specs.Plans.{HasFarOffset, plan_list}
use Rattle.macho_unwind_pages.specs.steps.Planning.{IsNear, IsBehind, IsReady, IsAssembled}
use Rattle.macho_unwind_pages.specs.Calls.{PlanFault}
use Rattle.macho_unwind_pages.proofs.Gathered.{behind}
use Rattle.macho_unwind_pages.proofs.PlansShort.{plans_short}
use Rattle.macho_unwind_pages.proofs.Planned.{ready, planned_from, not_far, far_of_run}
use Rattle.macho_unwind_pages.proofs.planning.plan.Goals as goal

pub end-requires-clause-some : goal.end-requires-clause-some
end-requires-clause-some c =
    omega (
      arith,
      ap length c.as_slice-2.ensures.value,
      length_permutation c.args.entries.now c.in_ok-run.run'.items c.in_ok-run.ensures.same,
      c.requires.some,
    )

pub end-requires-clause-behind : goal.end-requires-clause-behind
end-requires-clause-behind c =
    subst (All (IsBehind c.args.text_start)) (sym c.as_slice-2.ensures.value)
    (All-permutation (IsBehind c.args.text_start) c.args.entries.now c.in_ok-run.run'.items c.in_ok-run.ensures.same
    (behind c.args.text_start c.args.entries.now c.requires.entries))

pub end-requires-clause-ends : goal.end-requires-clause-ends
end-requires-clause-ends c =
    subst (All (λ (e : ResolvedUnwindInfo). e.start + e.length < 2 ^ 64)) (sym c.as_slice-2.ensures.value)
    (All-permutation (λ (e : ResolvedUnwindInfo). e.start + e.length < 2 ^ 64) c.args.entries.now c.in_ok-run.run'.items
    c.in_ok-run.ensures.same c.requires.entries.ends)

pub returns-in_err-end-clause-why : goal.returns-in_err-end-clause-why
returns-in_err-end-clause-why c =
    let few = subst (λ (l : List UnwindInput). length (ids_of l) ≤ 3) (c.as_slice.ensures.value ∙ c.in_ok-inputs.ensures)
    c.in_ok-ids.ensures.few in
    let run = c.in_ok-run.run'.items in
    let far = subst (HasFarOffset c.args.text_start) c.as_slice-2.ensures.value c.in_err-end.ensures.why.1 in
    let e = err_from_is_err_and c.from_residual-in_err-end.result c.from_residual-in_err-end.ensures.1 in
    rw (e.1, e.2) (subst (PlanFault c.args.text_start c.args.entries.now) (sym c.in_err-end.ensures.why.0)
    (few, far_of_run c.args.text_start c.args.entries.now run c.in_ok-run.ensures.same far))

pub assembled-requires : goal.assembled-requires
assembled-requires c =
    let text = c.args.text_start in
    let run = c.in_ok-run.run'.items in
    let ids = c.in_ok-ids.ids.items in
    let codes = c.in_ok-codes.codes.items in
    let inputs = c.in_ok-inputs.inputs.items in
    let made : IsReady text ids codes run
    = ready text c.args.entries.now run inputs ids codes c.requires.some c.requires.entries
    c.in_ok-run.ensures.same c.in_ok-run.ensures.rising
    (subst (All (IsNear text)) c.as_slice-2.ensures.value c.in_ok-end.ensures.near) c.in_ok-inputs.ensures
    (c.in_ok-ids.ensures.done ∙ ap ids_of c.as_slice.ensures.value)
    (subst (λ (l : List UnwindInput). length (ids_of l) ≤ 3) c.as_slice.ensures.value c.in_ok-ids.ensures.few)
    (c.in_ok-codes.ensures ∙ ap (λ (l : List ℕ). map (code_in l) c.as_slice-4.result.now) c.as_slice-3.ensures.value
    ∙ ap (map (code_in ids)) c.as_slice-4.ensures.value) in
    subst (λ (l : List ℕ). IsReady text l c.as_slice-6.result.now c.as_slice-7.result.now) (sym c.as_slice-5.ensures.value)
    (subst (λ (l : List ℕ). IsReady text ids l c.as_slice-7.result.now) (sym c.as_slice-6.ensures.value)
    (subst (λ (l : List ResolvedUnwindInfo). IsReady text ids codes l) (sym c.as_slice-7.ensures.value) made))

pub returns-clause-done : goal.returns-clause-done
returns-clause-done c =
    let text = c.args.text_start in
    let run = c.in_ok-run.run'.items in
    let ids = c.in_ok-ids.ids.items in
    let codes = c.in_ok-codes.codes.items in
    let inputs = c.in_ok-inputs.inputs.items in
    let plan = plan_list c.in_ok-plan.plan in
    let made : IsReady text ids codes run
    = ready text c.args.entries.now run inputs ids codes c.requires.some c.requires.entries
    c.in_ok-run.ensures.same c.in_ok-run.ensures.rising
    (subst (All (IsNear text)) c.as_slice-2.ensures.value c.in_ok-end.ensures.near) c.in_ok-inputs.ensures
    (c.in_ok-ids.ensures.done ∙ ap ids_of c.as_slice.ensures.value)
    (subst (λ (l : List UnwindInput). length (ids_of l) ≤ 3) c.as_slice.ensures.value c.in_ok-ids.ensures.few)
    (c.in_ok-codes.ensures ∙ ap (λ (l : List ℕ). map (code_in l) c.as_slice-4.result.now) c.as_slice-3.ensures.value
    ∙ ap (map (code_in ids)) c.as_slice-4.ensures.value) in
    let is : IsAssembled text ids codes run plan
    = subst (λ (l : List ResolvedUnwindInfo). IsAssembled text ids codes l plan) c.as_slice-7.ensures.value
    (subst (λ (l : List ℕ). IsAssembled text ids l c.as_slice-7.result.now plan) c.as_slice-6.ensures.value
    (subst (λ (l : List ℕ). IsAssembled text l c.as_slice-6.result.now c.as_slice-7.result.now plan) c.as_slice-5.ensures.value
    c.in_ok-plan.ensures.done)) in
    planned_from text c.args.entries.now run inputs ids codes plan c.in_ok-end.end made is c.in_ok-run.ensures.same c.in_ok-inputs.ensures
    (c.in_ok-ids.ensures.done ∙ ap ids_of c.as_slice.ensures.value)
    (c.in_ok-codes.ensures ∙ ap (λ (l : List ℕ). map (code_in l) c.as_slice-4.result.now) c.as_slice-3.ensures.value
    ∙ ap (map (code_in ids)) c.as_slice-4.ensures.value)
    c.in_ok-plan.ensures.end (search rules)
    (subst (λ (l : List ResolvedUnwindInfo). All (λ e. IsLast l e → e.start + e.length ≡ text + c.in_ok-end.end) l)
    c.as_slice-2.ensures.value c.in_ok-end.ensures.done)

pub returns-clause-near : goal.returns-clause-near
returns-clause-near c =
    not_far c.args.text_start c.args.entries.now c.in_ok-run.run'.items c.in_ok-end.end c.in_ok-run.ensures.same
    (subst (All (IsNear c.args.text_start)) c.as_slice-2.ensures.value c.in_ok-end.ensures.near)
    (subst (λ (l : List ResolvedUnwindInfo). All (λ e. IsLast l e → e.start + e.length ≡ c.args.text_start + c.in_ok-end.end) l)
    c.as_slice-2.ensures.value c.in_ok-end.ensures.done)
    (search rules)

pub returns-clause-pages : goal.returns-clause-pages
returns-clause-pages c =
    (plans_short c.args.text_start c.args.entries.now (plan_list c.in_ok-plan.plan) c.requires.some c.requires.entries
    (returns-clause-done c)).0

pub returns-clause-short : goal.returns-clause-short
returns-clause-short c =
    (plans_short c.args.text_start c.args.entries.now (plan_list c.in_ok-plan.plan) c.requires.some c.requires.entries
    (returns-clause-done c)).1
