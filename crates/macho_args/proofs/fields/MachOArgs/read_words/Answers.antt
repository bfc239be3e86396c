-- After the last word nothing is left to read.
use Rattle.std.proofs.Common.{sym, ◌∙◌}
use Rattle.std.proofs.Math.ListN.{drop_of_length-le}
use Rattle.macho_args.specs.steps.KeptRoot.{keep_root}
use Rattle.macho_args.specs.Settings.{settings_of}
use Rattle.macho_args.proofs.Reading.{read-nothing}
use Rattle.macho_args.proofs.fields.MachOArgs.read_words.Goals as goal

pub returns-clause-done : goal.returns-clause-done
returns-clause-done c =
    sym c.loop-i.invariant
    ∙ rw (drop_of_length-le c.args.words.now c.loop-i-test.false)
    (read-nothing keep_root c.loop-i.values c.loop-i.i (settings_of c.loop-i.self))
