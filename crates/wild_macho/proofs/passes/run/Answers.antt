-- The words are refused, or they say settings by which the run goes on from files that tell the same.
use Rattle.std.proofs.Common.{refl, ap, subst, map, [], Global, inl, inr}
use Rattle.std.specs.String.{string_bytes}
use Rattle.macho_args.specs.Settings.{settings_of}
use Rattle.macho_args.specs.Store.{FileSystem}
use Rattle.macho_report.specs.Names.{names_of}
use Rattle.wild_macho.specs.Runs.{devices, RunsBy}
use Rattle.wild_macho.proofs.Joining.{same-line}
use Rattle.wild_macho.proofs.Complete.{sure-status, owed-status}
use Rattle.wild_macho.proofs.passes.run.Goals as goal

pub returns-in-Ok-clause-promise : goal.returns-in-Ok-clause-promise
returns-in-Ok-clause-promise g c =
    record {
      status = c.run_args.ensures.status;
      run = inr (
        settings_of c.in-Ok.args,
        c.in-Ok.ensures.said,
        subst (λ (files : FileSystem). RunsBy (settings_of c.in-Ok.args) (devices files (g.O.Sink.state c.args.out.now))
            (devices (g.F.Paths.state c.run_args.new.files) (g.O.Sink.state c.run_args.new.out)) (g.E.Sink.state c.args.err.now)
            (g.E.Sink.state c.run_args.new.err) c.run_args.result) c.read_words.ensures.kept c.run_args.ensures.done,
      );
    }

pub returns-in-Ok-clause-complete : goal.returns-in-Ok-clause-complete
returns-in-Ok-clause-complete g c = sure-status (map string_bytes c.args.words.now) _ _ _ _ c.run_args.result
    (returns-in-Ok-clause-promise g c)

pub returns-in-Ok-clause-answered : goal.returns-in-Ok-clause-answered
returns-in-Ok-clause-answered g c = owed-status (map string_bytes c.args.words.now) _ _ _ _ c.run_args.result
    (returns-in-Ok-clause-promise g c)

pub returns-in-Err-clause-promise : goal.returns-in-Err-clause-promise
returns-in-Err-clause-promise g c =
    record {
      status = c.refused.ensures.status;
      run = inl (record {
        fault = c.in-Err.fault;
        is = c.refused.ensures.fault;
        why = c.in-Err.ensures.why;
        line = same-line {A = Global} (g.E.Sink.state c.args.err.now) (g.E.Sink.state c.print_fault.new.err)
            [] [] [] [] (names_of c.new.result) [] c.in-Err.fault refl refl c.new.ensures c.print_fault.ensures.told;
        image = c.refused.ensures.image;
        same = ap (λ (files : FileSystem). devices files (g.O.Sink.state c.args.out.now)) c.read_words.ensures.kept;
      });
    }
