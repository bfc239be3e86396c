-- The addresses of sections: the one in front of the last k is put in, over one that was there.
use Rattle.std.proofs.Common.{◌-◌, length, arith}
use Rattle.macho_places.proofs.Tables.{table_more}
use Rattle.macho_places.proofs.addresses.section_table.Goals as goal

pub loop-done-preserved : goal.loop-done-preserved
loop-done-preserved c =
    table_more c.loop-done.table c.put.new.self c.args.sections.now (length c.args.sections.now - 1 - c.loop-done.done) _ _ _
    (omega arith) (omega arith) (omega arith) c.loop-done.invariant
    c.in_ok-put.ensures
