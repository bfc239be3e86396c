use Rattle.std.proofs.Common.{arith}
use Rattle.macho_signature.proofs.Anew.{uuid_written-is}
use Rattle.macho_signature.proofs.uuid.stamped_uuid.Goals as goal

pub returns : goal.returns
returns c = uuid_written-is c.args.uuid (omega arith)
