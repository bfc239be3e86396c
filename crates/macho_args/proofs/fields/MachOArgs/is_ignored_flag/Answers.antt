-- `contains` compares the flag with each text of the table.
use Rattle.macho_args.proofs.fields.MachOArgs.is_ignored_flag.Goals as goal

pub returns : goal.returns
returns c = c.contains.ensures.value
