-- Whether each of some tables lies in its segment.
--
-- What holds of the first k and of the next one holds of one more. One that doesn't lie there refutes it of all; at the end these are all.
use Rattle.std.proofs.Common.{sym, ◌∙◌, arith}
use Rattle.macho_placement_rules.specs.Lists.{TableLies}
use Rattle.macho_placement_rules.proofs.Each.{each_more}
use Rattle.macho_placement_rules.proofs.rules.tables_lie.Goals as goal

pub loop-table-preserved : goal.loop-table-preserved
loop-table-preserved c = λ p same.
    each_more (TableLies p) c.args.tables.now c.loop-table.table-index _ c.loop-table-test.true (c.loop-table.invariant p same)
    (c.if-not-table_lies.ensures.found p same)

pub returns-then-not-table_lies-clause-only : goal.returns-then-not-table_lies-clause-only
returns-then-not-table_lies-clause-only c = λ p same all.
    sym c.if-not-table_lies.true ∙ c.table_lies.ensures.only p same (all c.loop-table.table-index _ c.loop-table-test.true)

pub returns-clause-found : goal.returns-clause-found
returns-clause-found c = λ p same k d low. c.loop-table.invariant p same k d (omega arith)
