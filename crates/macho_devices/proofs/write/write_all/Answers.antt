use Rattle.std.proofs.lemmas.List.{take_rest}
use Rattle.macho_devices.proofs.Streams.{written_more}
use Rattle.macho_devices.proofs.write.write_all.Goals as goal

-- the turn wrote the first `count` bytes of the rest
pub loop-preserved : goal.loop-preserved
loop-preserved g c =
    let contents = g.W.Write.contents in
    rw take_rest (written_more (contents c.args.stream.now) (contents c.loop.stream) (contents c.write_once.new.stream)
    c.args.bytes.now c.loop.rest.now c.in-Ok.count c.loop.invariant c.in-Ok.ensures.bytes)
