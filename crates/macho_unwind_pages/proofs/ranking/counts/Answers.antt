-- How often each code stands in a list.
--
-- The table has the counts of the first k codes; a code that isn't there counts 0. Code k is put in with one more than was
-- told. So the table has the counts of the first k + 1. A count is at most k, which is a place in a slice, so one more
-- doesn't overflow.
use Rattle.std.proofs.Common.{ℕ, ◌+◌, ◌≤◌, take, slice_index, ap, ◌∙◌, refl, arith, rules, unwrap_or}
use Rattle.macho_unwind_pages.proofs.Ranked.{counts_more, unwrapped, times-le}
use Rattle.macho_unwind_pages.proofs.ranking.counts.Goals as goal

pub overflow_add-times : goal.overflow_add-times
overflow_add-times c =
    let few : c.unwrap_or-times.result ≤ c.loop-code.code-index
    = omega (
      arith,
      c.unwrap_or-times.ensures ∙ ap (λ o. unwrap_or o 0) (c.copied.ensures ∙ c.get.ensures.value)
          ∙ unwrapped (take c.loop-code.code-index c.args.codes.now) c.loop-code.counts _ c.loop-code.invariant,
      times-le c.args.codes.now c.loop-code.code-index (slice_index c.args.codes.now c.loop-code.code-index)
          c.loop-code.auto.code-index-end,
    ) in
    search rules

pub loop-code-preserved : goal.loop-code-preserved
loop-code-preserved c =
    counts_more c.args.codes.now c.loop-code.code-index _ _ c.loop-code.counts c.insert.new.self
    c.loop-code-test.true refl c.loop-code.invariant
    (ap (λ (n : ℕ). n + 1) (c.unwrap_or-times.ensures ∙ ap (λ o. unwrap_or o 0) (c.copied.ensures ∙ c.get.ensures.value)
    ∙ unwrapped (take c.loop-code.code-index c.args.codes.now) c.loop-code.counts _ c.loop-code.invariant)) c.in_ok-insert.ensures.updates.0
