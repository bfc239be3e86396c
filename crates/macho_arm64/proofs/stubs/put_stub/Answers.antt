use Rattle.std.proofs.Common.{◌∙◌, arith, inl}
use Rattle.macho_arm64.proofs.PutNumbers.{le_at-beside}
use Rattle.macho_arm64.proofs.stubs.put_stub.Goals as goal

pub returns-clause-adrp : goal.returns-clause-adrp
returns-clause-adrp c =
    le_at-beside 4 8 4 0 _ _ _ c.put_little-3.ensures.written (omega arith) (omega arith) (inl (omega arith))
    ∙ le_at-beside 4 4 4 0 _ _ _ c.put_little-2.ensures.written (omega arith) (omega arith) (inl (omega arith))
    ∙ c.put_little.ensures.read

pub returns-clause-ldr : goal.returns-clause-ldr
returns-clause-ldr c =
    le_at-beside 4 8 4 4 _ _ _ c.put_little-3.ensures.written (omega arith) (omega arith) (inl (omega arith))
    ∙ c.put_little-2.ensures.read
