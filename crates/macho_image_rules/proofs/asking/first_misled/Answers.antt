-- The words so far lead as they are to; the next one is the first that doesn't, or leads so too.
use Rattle.std.proofs.Common.{sym, ◌∙◌}
use Rattle.std.proofs.lemmas.Bool.{OnTrue_at, true≢false}
use Rattle.macho_image_rules.proofs.Compared.{each_has, one_more_leads, misled_first}
use Rattle.macho_image_rules.proofs.asking.first_misled.Goals as goal

pub returns-then-not-word_leads : goal.returns-then-not-word_leads
returns-then-not-word_leads g c = λ l b p accepted fixups compared by.
    let has = each_has l p c.args.needed.now c.loop-index.index _ compared.leads compared.whole by c.loop-index-test.true in
    misled_first l b p c.args.needed.now c.loop-index.index _ c.loop-index-test.true
    (c.loop-index.invariant l b p accepted fixups compared by)
    (λ leads. true≢false (sym (c.word_leads.ensures.only l b p accepted fixups compared has leads) ∙ c.if-not-word_leads.true))

pub loop-index-preserved : goal.loop-index-preserved
loop-index-preserved g c = λ l b p accepted fixups compared by.
    let has = each_has l p c.args.needed.now c.loop-index.index _ compared.leads compared.whole by c.loop-index-test.true in
    one_more_leads l b p c.args.needed.now c.loop-index.index _ c.loop-index-test.true
    (c.loop-index.invariant l b p accepted fixups compared by)
    (OnTrue_at c.if-not-word_leads.false (c.word_leads.ensures.found l b p accepted fixups compared has))
