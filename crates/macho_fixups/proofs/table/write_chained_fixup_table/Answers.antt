use Rattle.std.proofs.Common.{length, arith}
use Rattle.macho_fixups.proofs.TableTexts.{table_fits}
use Rattle.macho_fixups.proofs.table.write_chained_fixup_table.Goals as goal

pub write_parts-requires-clause-room : goal.write_parts-requires-clause-room
write_parts-requires-clause-room c =
    omega (
      arith,
      c.fill.ensures.len,
      c.requires.room,
      table_fits c.args.base c.args.format (length c.args.names.now) c.args.fixups.now c.args.segments.now c.args.imports.now
          c.requires.fits,
    )

pub returns-clause-long : goal.returns-clause-long
returns-clause-long c =
    omega (
      arith,
      c.write_parts.ensures.long,
      c.requires.room,
      table_fits c.args.base c.args.format (length c.args.names.now) c.args.fixups.now c.args.segments.now c.args.imports.now
          c.requires.fits,
    )
