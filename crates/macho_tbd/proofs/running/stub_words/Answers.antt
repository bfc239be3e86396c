-- Two words ask for the stub of a library.
use Rattle.std.proofs.Common.{sym, subst}
use Rattle.std.specs.Result.{result_err}
use Rattle.macho_tools.specs.Runs.{devices, IsEnded}
use Rattle.macho_tbd.specs.Runs.{stub_generator}
use Rattle.macho_tbd.proofs.Words.{two_words}
use Rattle.macho_tbd.proofs.running.stub_words.Goals as goal

pub returns-in-len2 : goal.returns-in-len2
returns-in-len2 g c out =
    subst
    (λ words. IsEnded stub_generator words (devices (g.F.Paths.state c.args.files.now) out)
    (devices (g.F.Paths.state c.stub_file.new.files) out) (result_err c.stub_file.result))
    (sym (two_words c.args.words.now c.path-item.result c.output-item.result c.deref.result.now c.deref-in-len2.result.now
    c.in-len2.len_at_least c.in-len2.len_below c.path-item.is c.output-item.is c.deref.ensures c.deref-in-len2.ensures))
    (c.stub_file.ensures out)
