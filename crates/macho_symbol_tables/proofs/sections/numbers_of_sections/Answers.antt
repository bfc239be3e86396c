-- The number of one section more is pushed, until there is one for each.
use Rattle.std.proofs.Common.{arith}
use Rattle.macho_symbol_tables.proofs.SectionNumbers.{numbers_more, numbers_whole}
use Rattle.macho_symbol_tables.proofs.sections.numbers_of_sections.Goals as goal

pub loop-section-preserved : goal.loop-section-preserved
loop-section-preserved c = λ p finds.
    numbers_more p c.args.file.now c.loop-section.section c.number_of_section.result c.loop-section.numbers.items c.push.new.self.items
    (c.loop-section.invariant p finds) (c.number_of_section.ensures p finds) c.in_ok-push.ensures.items

pub returns : goal.returns
returns c = λ p finds.
    numbers_whole p c.args.file.now c.loop-section.section c.loop-section.numbers.items (c.loop-section.invariant p finds)
    (omega (arith, c.loop-section-test.false, c.loop-section.auto.section-end, c.num_sections-count.ensures))
