use Rattle.macho_devices.proofs.Streams.{Written}
use Rattle.macho_devices.proofs.write.write_all.Given as goal

abbrev pub invariant-loop : goal.invariant-loop
invariant-loop g l = Written (g.W.Write.contents l.initial.stream) (g.W.Write.contents l.stream) l.bytes l.rest
