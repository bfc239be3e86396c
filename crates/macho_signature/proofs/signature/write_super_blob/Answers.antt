use Rattle.std.proofs.Common.{ap, ◌++◌, drop, List, ℕ}
use Rattle.macho_bytes.specs.Numbers.{row_bytes, be_bytes}
use Rattle.macho_bytes.specs.Texts.{put}
use Rattle.macho_signature.proofs.signature.write_super_blob.Goals as goal

pub returns : goal.returns
unfolding put row_bytes be_bytes
returns c = ap (λ (t : List ℕ). t ++ drop 20 c.args.out.now) c.write_u32_into.ensures
