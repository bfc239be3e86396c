-- Each size is counted as the link's sum has it.
use Rattle.std.proofs.Common.{arith, ◌∙◌, ◌+◌, length}
use Rattle.macho_bytes.proofs.Rounding.{next_multiple_of-is}
use Rattle.macho_linkedit.proofs.Counted.{counted}
use Rattle.macho_linkedit.proofs.counting.count.Goals as goal

pub returns : goal.returns
returns c l are =
    counted l c.args.asked.now c.commands_size.result c.padding_size.result c.entry_size.result c.names_size.result
    c.next_multiple_of.result are
    c.commands_size.ensures c.padding_size.ensures c.entry_size.ensures c.names_size.ensures
    (c.next_multiple_of.ensures.value ∙ next_multiple_of-is (length c.args.asked.now.arguments.name.now + 1) 16 (omega arith))
