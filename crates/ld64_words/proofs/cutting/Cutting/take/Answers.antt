-- One byte more, and the last.
use Rattle.std.proofs.Common.{refl}
use Rattle.ld64_words.specs.Files.{cut_from}
use Rattle.ld64_words.specs.steps.Files.{cut_of}
use Rattle.ld64_words.proofs.Bytes.{cut-more, cut-all}
use Rattle.ld64_words.proofs.cutting.Cutting.take.Goals as goal

pub loop-byte-preserved : goal.loop-byte-preserved
loop-byte-preserved c =
    cut-more c.args.kind (cut_of c.loop-byte.self) (cut_of c.take_next.new.self)
    (cut_from c.args.kind (cut_of c.args.self.now) c.args.bytes.now)
    c.args.bytes.now c.loop-byte.byte-index _ c.loop-byte-test.true refl c.in_ok-take_next.ensures.done c.loop-byte.invariant

pub returns-clause-done : goal.returns-clause-done
returns-clause-done c =
    cut-all c.args.kind (cut_of c.loop-byte.self) (cut_from c.args.kind (cut_of c.args.self.now) c.args.bytes.now) c.args.bytes.now
    c.loop-byte.byte-index c.loop-byte-test.false c.loop-byte.invariant
