use Rattle.std.proofs.Common.{arith}
use Rattle.macho_fixups.proofs.EntryTexts.{entries_begin, entries_go_on}
use Rattle.macho_fixups.proofs.imports.write_imports.Goals as goal

pub loop-entry-init : goal.loop-entry-init
loop-entry-init c = entries_begin c.args.format c.args.at c.args.imports.now c.args.out.now (omega arith)

pub loop-entry-preserved : goal.loop-entry-preserved
loop-entry-preserved c =
    entries_go_on c.args.format c.args.at c.loop-entry.place _ c.loop-entry.entry-index c.args.imports.now _ c.args.out.now c.loop-entry.out
    c.write_entry.new.out c.loop-entry-test.true c.requires.room c.loop-entry.invariant c.write_entry.ensures.long
    c.write_entry.ensures.fits (omega arith)
    c.write_entry.ensures.written
