-- The section that a symbol of an object stands in is there.
use Rattle.macho_symbol_names.proofs.Entries.{section_is_there}
use Rattle.macho_symbol_names.proofs.notes.in_carried.Goals as goal

pub unreachable-requires : goal.unreachable-requires
unreachable-requires c =
    section_is_there c.args.file.now c.args.index c.in-Some.section c.requires.object c.is_dynamic-object.ensures.kept c.requires.among
    c.in-Some.ensures c.in-None.ensures
