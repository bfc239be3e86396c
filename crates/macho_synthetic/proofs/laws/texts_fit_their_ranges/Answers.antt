use Rattle.macho_synthetic.proofs.Fitting.{texts_fit}
use Rattle.macho_synthetic.proofs.laws.texts_fit_their_ranges.Goals as goal

pub returns : goal.returns
returns c = texts_fit
