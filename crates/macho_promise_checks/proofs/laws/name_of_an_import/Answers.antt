use Rattle.std.proofs.Common.{pos}
use Rattle.macho_fixups.specs.declared.imports.ImportEntry.{ImportEntry}
use Rattle.macho_promise_checks.proofs.laws.name_of_an_import.Goals as goal

pub returns : goal.returns
returns c =
    let d : ImportEntry = record { library = 0; name_offset = 0; addend = pos 0 } in
    c.names_are_read.ensures c.args.file.now
    (record { at = c.args.at; size = c.args.size }) c.args.fixups.now c.args.segments.now c.args.format
    c.args.imports.now c.args.names.now c.args.index d c.args.name.now c.requires.read c.requires.room c.requires.index (c.requires.name d)
