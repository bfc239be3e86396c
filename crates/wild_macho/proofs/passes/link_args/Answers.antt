-- The image is written and printed by the settings; or what refused it before is told, and nothing is left.
use Rattle.macho_args.specs.Settings.{settings_of}
use Rattle.macho_report.specs.Names.{names_of}
use Rattle.wild_macho.proofs.Joining.{answers-written, answers-refused}
use Rattle.wild_macho.proofs.passes.link_args.Goals as goal

pub write_image-requires : goal.write_image-requires
write_image-requires g c = c.in-Ok.ensures.made.is_image.answer.linked.loadable.placed.whole_list.sections

pub returns-in-Ok-clause-done : goal.returns-in-Ok-clause-done
returns-in-Ok-clause-done g c =
    answers-written (settings_of c.args.args.now) (names_of c.make_image.new.names) c.in-Ok.made (g.F.Paths.state c.args.files.now)
    (g.F.Paths.state c.make_image.new.files) (g.F.Paths.state c.write_image.new.files) (g.O.Sink.state c.args.out.now)
    (g.O.Sink.state c.write_image.new.out) c.write_image.result c.make_image.ensures.kept c.in-Ok.ensures.made c.in-Ok.ensures.fine
    c.write_image.ensures.done

pub returns-in-Err-clause-done : goal.returns-in-Err-clause-done
returns-in-Err-clause-done g c =
    answers-refused (settings_of c.args.args.now) (names_of c.make_image.new.names) (g.F.Paths.state c.args.files.now)
    (g.F.Paths.state c.make_image.new.files) (g.O.Sink.state c.args.out.now) c.refused.result c.in-Err.fault c.make_image.ensures.kept
    c.in-Err.ensures.why c.in-Err.ensures.named c.refused.ensures.status c.refused.ensures.image c.refused.ensures.fault
