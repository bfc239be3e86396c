use Rattle.std.proofs.Common.{arith}
use Rattle.macho_bytes.proofs.Ulebs.{uleb_reads_back}
use Rattle.macho_wire.proofs.uleb.write_uleb.Goals as goal

pub returns-clause-back : goal.returns-clause-back
returns-clause-back c = uleb_reads_back c.args.value (omega arith)
