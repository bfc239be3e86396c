use Rattle.std.proofs.Common.{◌*◌, refl}
use Rattle.macho_linkedit.proofs.Rows.{written_none}
use Rattle.macho_linkedit.proofs.symbols.SymbolWriter.begin.Goals as goal

pub returns-clause-written : goal.returns-clause-written
returns-clause-written c =
    written_none c.args.symbols (record { entry = 0; strings = 16 * c.args.symbols; name = 1 }) c.args.out.now c.put_text.new.out refl refl
    refl c.requires c.put_text.ensures
