use Rattle.std.proofs.Common.{sym, ◌∙◌}
use Rattle.macho_fixups.proofs.Places.{first_has, one_left}
use Rattle.macho_fixups.proofs.ChainWrites.{ahead_of}
use Rattle.macho_fixups.proofs.chains.segment_from.Goals as goal

pub returns : goal.returns
returns c =
    first_has c.args.segments.now c.args.address c.loop-number.number _ c.requires.segments c.requires.one c.loop-number.invariant
    (one_left c.args.segments.now c.args.address c.loop-number.number c.requires.one c.loop-number.invariant)
    (ahead_of _ c.args.address (sym c.is_behind.ensures ∙ c.loop-number-test.false))
