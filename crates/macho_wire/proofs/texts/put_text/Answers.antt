use Rattle.std.proofs.Common.{arith}
use Rattle.macho_bytes.proofs.Writes.{put_mid-whole}
use Rattle.macho_wire.proofs.texts.put_text.Goals as goal

pub returns : goal.returns
returns c = put_mid-whole c.args.at _ c.args.out.now c.args.text.now c.copy_from_slice.new.self
    (omega arith) c.requires c.copy_from_slice.ensures.after
