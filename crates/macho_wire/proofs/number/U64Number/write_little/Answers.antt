use Rattle.std.proofs.Common.{refl}
use Rattle.macho_bytes.specs.Numbers.{le_bytes}
use Rattle.macho_bytes.proofs.Writes.{put_mid-front}
use Rattle.macho_wire.proofs.number.U64Number.write_little.Goals as goal

pub returns-clause-written : goal.returns-clause-written
unfolding le_bytes
returns-clause-written c =
    put_mid-front c.args.at _ c.args.out.now (le_bytes 8 c.args.self) c.write_u64.new.buf refl c.requires c.write_u64.ensures
