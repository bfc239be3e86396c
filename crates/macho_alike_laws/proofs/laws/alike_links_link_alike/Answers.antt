use Rattle.macho_alike_laws.proofs.Inputs.{turned}
use Rattle.macho_alike_laws.proofs.Alike.{link_alike}
use Rattle.macho_alike_laws.proofs.laws.alike_links_link_alike.Goals as goal

pub returns : goal.returns
returns c = record { alike = link_alike; turned = turned }
