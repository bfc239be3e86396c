use Rattle.macho_arm64.proofs.KindLaws.{kinds_agree}
use Rattle.macho_arm64.proofs.SupportedKinds.{known_in_link, fits_in_link}
use Rattle.macho_arm64.proofs.laws.kinds_agree.Goals as goal

pub returns-clause-kinds : goal.returns-clause-kinds
returns-clause-kinds c = kinds_agree

pub returns-clause-known : goal.returns-clause-known
returns-clause-known c = known_in_link

pub returns-clause-fits : goal.returns-clause-fits
returns-clause-fits c = fits_in_link
