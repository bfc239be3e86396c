use Rattle.std.proofs.Common.{sym, ◌∙◌}
use Rattle.std.specs.FinSet.{contains-from_list_nat}
use Rattle.macho_devices.proofs.numbers.is_among.Goals as goal

pub returns : goal.returns
returns c = c.contains.ensures.value ∙ sym (contains-from_list_nat c.args.numbers.now.items c.args.number)
