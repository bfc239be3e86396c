use Rattle.std.proofs.Common.{arith, ◌∙◌, sym}
use Rattle.macho_trie.proofs.Firsts.{one_more_tested, all_rise, no_label_tested, byte_tested}
use Rattle.macho_trie.proofs.names.first_bytes_rise.Goals as goal
use Rattle.macho_trie.proofs.names.first_bytes_rise.Goals.{then-is_empty-via-then-is_empty, then-is_empty-via-else-is_empty+then-first-least}

pub returns-then-is_empty-clause-joined : goal.returns-then-is_empty-clause-joined
returns-then-is_empty-clause-joined c =
    elim c.then-is_empty.branch [
      | then-is_empty-via-then-is_empty w ↦
          no_label_tested c.args.edges.now c.loop-label.label-index _ c.loop-label-test.true (sym w.if-is_empty.true ∙ c.is_empty.ensures)
      | then-is_empty-via-else-is_empty+then-first-least w ↦
          byte_tested c.args.edges.now c.loop-label.label-index c.loop-label.least c.from-first.result _ c.loop-label-test.true c.requires
          c.loop-label.invariant (c.from-first.ensures ∙ c.first_byte.ensures) w.if-first-least.true
    ]

pub loop-label-preserved : goal.loop-label-preserved
loop-label-preserved c =
    one_more_tested c.args.edges.now c.loop-label.label-index c.loop-label.least c.from-first.result _ c.loop-label-test.true
    c.loop-label.invariant (sym c.if-is_empty.false ∙ c.is_empty.ensures) (c.from-first.ensures ∙ c.first_byte.ensures)
    c.if-first-least.false

pub returns-clause-rise : goal.returns-clause-rise
returns-clause-rise c = all_rise c.args.edges.now c.loop-label.label-index c.loop-label.least (omega arith) c.loop-label.invariant
