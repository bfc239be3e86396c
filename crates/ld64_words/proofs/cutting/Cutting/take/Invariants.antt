-- What is left of the bytes, cut from what is cut so far, is what all bytes give.
use Rattle.std.proofs.Common.{◌≡◌, drop}
use Rattle.ld64_words.specs.Files.{cut_from}
use Rattle.ld64_words.specs.steps.Files.{cut_of}
use Rattle.ld64_words.proofs.cutting.Cutting.take.Given as goal

abbrev pub invariant-loop-byte : goal.invariant-loop-byte
invariant-loop-byte l =
    cut_from l.kind (cut_of l.self) (drop l.byte-index l.bytes) ≡ cut_from l.kind (cut_of l.fn.self) l.bytes
