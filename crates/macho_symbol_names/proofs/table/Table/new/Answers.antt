use Rattle.std.proofs.Common.{arith}
use Rattle.macho_symbol_names.proofs.Beginning.{empty_knows}
use Rattle.macho_symbol_names.proofs.table.Table.new.Goals as goal

pub returns : goal.returns
returns c = rw (c.in_ok-with_capacity.ensures.items, c.in_ok-vec.ensures.items_if_clones_equal (λ y e. e)) (empty_knows _ _ (omega arith))
