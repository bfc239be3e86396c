-- Bytes of names: where those of the next one don't fit any more, neither do all.
use Rattle.std.proofs.Common.{ap, ◌∙◌, arith}
use Rattle.std.proofs.lemmas.List.{take_all}
use Rattle.macho_linkedit.specs.Imports.{name_bytes}
use Rattle.macho_layout.proofs.Costs.{fitting-is}
use Rattle.macho_sizing.proofs.numbers.names_size.Goals as goal

pub returns : goal.returns
returns c =
    fitting-is _ _ (c.loop-import.invariant.value ∙ ap name_bytes
    (take_all c.loop-import.import-index c.args.imports.now (omega arith))) c.loop-import.invariant.fits
