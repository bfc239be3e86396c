-- The run ends as its words tell, and is told. Where nothing stands against it, that leaves two statuses.
use Rattle.std.proofs.Common.{map}
use Rattle.std.specs.String.{string_bytes}
use Rattle.macho_tools.specs.Runs.{devices}
use Rattle.macho_tools.proofs.Ends.{tool-run}
use Rattle.macho_tools.proofs.Sure.{clear-status}
use Rattle.macho_inspect.specs.Runs.{inspector}
use Rattle.macho_inspect.proofs.running.run.Goals as goal

pub returns : goal.returns
returns g c =
    let old = devices (g.F.Paths.state c.args.files.now) (g.O.Sink.state c.args.out.now) in
    let new = devices (g.F.Paths.state c.inspect_words-answer.new.files) (g.O.Sink.state c.inspect_words-answer.new.out) in
    let words = map string_bytes c.args.words.now in
    let run = tool-run inspector words old new (g.E.Sink.state c.args.err.now) (g.E.Sink.state c.ended.new.err) c.ended.result _
    c.ended.ensures.fault c.ended.ensures.status c.inspect_words-answer.ensures c.ended.ensures.told c.ended.ensures.counted in
    record {
      promise = run;
      complete = λ m tells clear calm. clear-status inspector words m old new _ _ c.ended.result run tells clear calm;
    }
