-- Symbols of objects: where those of the next one don't fit any more, neither do all.
use Rattle.std.proofs.Common.{ap, ◌∙◌, arith, sum_by}
use Rattle.std.proofs.lemmas.List.{take_all}
use Rattle.macho_model.specs.Objects.{num_symbols}
use Rattle.macho_layout.proofs.Costs.{fitting-is}
use Rattle.macho_sizing.proofs.numbers.object_symbols.Goals as goal

pub returns : goal.returns
returns c =
    fitting-is _ _ (c.loop-object.invariant.value ∙ ap (sum_by (λ o. num_symbols o.file.bytes))
    (take_all c.loop-object.object-index c.args.objects.now (omega arith))) c.loop-object.invariant.fits
