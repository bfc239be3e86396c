use Rattle.std.proofs.Common.{refl}
use Rattle.macho_linkedit.specs.Symbols.{row_seen, entry_for}
use Rattle.macho_linkedit.proofs.Rows.{written_more}
use Rattle.macho_linkedit.proofs.symbols.SymbolWriter.push.Goals as goal

pub returns-clause-written : goal.returns-clause-written
returns-clause-written c symbols rows before old =
    written_more symbols rows (row_seen c.args.row) (entry_for c.args.self.now.name (row_seen c.args.row)) c.args.self.now _ before
    c.args.out.now c.write.new.out c.put_text.new.out c.put_text-2.new.out old refl c.write.ensures.back c.requires.entry c.requires.name
    c.write.ensures.written c.put_text.ensures c.put_text-2.ensures refl refl refl
