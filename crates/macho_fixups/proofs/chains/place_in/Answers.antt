use Rattle.std.proofs.Common.{sym}
use Rattle.macho_fixups.proofs.Places.{place_of-at}
use Rattle.macho_fixups.proofs.chains.place_in.Goals as goal

pub returns : goal.returns
returns c = sym (place_of-at c.args.segments.now c.args.address c.args.number _ c.requires.one)
