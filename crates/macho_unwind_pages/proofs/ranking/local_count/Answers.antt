-- How many codes of a list not every page may name.
--
-- If code k has no number among those that every page may name, it is one more of the count; if it has one, it adds nothing.
-- So the count of the first k codes becomes that of the first k + 1.
use Rattle.std.proofs.Common.{◌+◌, ℕ, take, not, sym, ap, ◌∙◌, arith}
use Rattle.indexmap.specs.IndexMap.{keys}
use Rattle.macho_unwind_pages.proofs.Ranked.{local_more, local_passed}
use Rattle.macho_unwind_pages.proofs.ranking.local_count.Goals as goal
use Rattle.macho_unwind_pages.proofs.ranking.local_count.Goals.{then-is_none, else-is_none}

pub loop-code-preserved : goal.loop-code-preserved
loop-code-preserved c =
    let globals = take 224 (keys c.args.ranks.now) in
    let found = sym c.global_number.ensures.found ∙ c.is_none.ensures in
    elim c.if-is_none.branch [
      | then-is_none w ↦ rw w.count-is record {
        value = ap (λ (n : ℕ). n + 1) c.loop-code.invariant.value
            ∙ sym (local_more globals c.args.codes.now c.loop-code.code-index c.loop-code-test.true (found ∙ ap not w.if-is_none.true));
        small = omega (arith, c.loop-code.invariant.small);
      }
      | else-is_none w ↦ rw w.count-is record {
        value = c.loop-code.invariant.value
            ∙ sym (local_passed globals c.args.codes.now c.loop-code.code-index c.loop-code-test.true (found ∙ ap not w.if-is_none.false));
        small = omega (arith, c.loop-code.invariant.small);
      }
    ]
