use Rattle.std.proofs.Common.{◌-◌, refl, arith}
use Rattle.std.proofs.lemmas.Result.{on_ok_weaker}
use Rattle.macho_linking.specs.steps.Planned.{placement_of, counts_of}
use Rattle.macho_linking.proofs.SymbolsPut.{outputs_few, strings_short, objects_known, to_list, has_room, symbols_put, part_long}
use Rattle.macho_linking.proofs.tables.write_symbols.Goals as goal

pub write_symbol_table-requires-clause-few : goal.write_symbol_table-requires-clause-few
write_symbol_table-requires-clause-few g c = outputs_few c.requires.link.0 c.args.b.now c.requires.link.1.planned

pub write_symbol_table-requires-clause-short : goal.write_symbol_table-requires-clause-short
write_symbol_table-requires-clause-short g c = strings_short c.requires.link.0 c.args.b.now c.requires.link.1.planned

pub write_symbol_table-requires-clause-symbols : goal.write_symbol_table-requires-clause-symbols
write_symbol_table-requires-clause-symbols g c =
    objects_known c.requires.link.0 c.args.b.now (g.P.Places.has_symbol c.args.places.now) c.requires.link.1.planned c.requires.known

pub write_symbol_table-requires-clause-link : goal.write_symbol_table-requires-clause-link
write_symbol_table-requires-clause-link g c =
    (c.requires.link.0, counts_of c.args.b.now, to_list c.requires.link.0 c.args.b.now _ c.requires.link.1)

pub write_symbol_table-requires-clause-room : goal.write_symbol_table-requires-clause-room
write_symbol_table-requires-clause-room g c =
    let has = has_room c.requires.link.0 c.args.b.now c.requires.link.1.planned in
    let t = (placement_of c.args.b.now).linkedit in
    omega (
      arith,
      has.listed,
      part_long t.symtab.start (t.strtab.end - t.symtab.start) c.args.out.now (omega (arith, has.rises, has.inside, c.requires.long)),
    )

pub returns-clause-done : goal.returns-clause-done
returns-clause-done g c l looked =
    on_ok_weaker c.write_symbol_table.result
    (λ written. symbols_put l c.args.b.now c.args.out.now c.write_symbol_table.new.out _ looked.planned c.requires.long written refl)
    (c.write_symbol_table.ensures.done l (counts_of c.args.b.now) (to_list l c.args.b.now _ looked))
