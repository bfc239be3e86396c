-- A fault is told by its line; without one nothing is.
use Rattle.std.proofs.Common.{refl}
use Rattle.macho_args.specs.Settings.{settings_of}
use Rattle.macho_report.specs.Names.{names_of}
use Rattle.wild_macho.proofs.Joining.{told-run, quiet-run, same-line}
use Rattle.wild_macho.proofs.passes.run_args.Goals as goal
use Rattle.wild_macho.proofs.passes.run_args.Goals.{in-Some, in_default}

pub returns-clause-done : goal.returns-clause-done
returns-clause-done g c =
    elim c.match-ran.branch [
      | in-Some w ↦
          rw w.err-is (told-run (settings_of c.args.args.now) (names_of c.link_args-ran.new.names) _ _ _ _ c.link_args-ran.result
          w.in-Some.fault w.in-Some.is c.link_args-ran.ensures.done
          (same-line (g.E.Sink.state c.args.err.now) (g.E.Sink.state w.print_fault.new.err) w.deref.result.now c.args.args.now.inputs.items
          w.deref-in-Some.result.now c.args.args.now.export_list_paths.items (names_of c.link_args-ran.new.names) _ w.in-Some.fault
          w.deref.ensures.value w.deref-in-Some.ensures.value refl w.print_fault.ensures.told))
      | in_default w ↦
          rw w.err-is (quiet-run (settings_of c.args.args.now) (names_of c.link_args-ran.new.names) _ _ _ _ c.link_args-ran.result
          w.in_default.is c.link_args-ran.ensures.done)
    ]

pub returns-clause-status : goal.returns-clause-status
returns-clause-status g c = c.link_args-ran.ensures.done.status
