-- A link of objects, libraries and stubs has one list of sizes.
use Rattle.macho_sizes_exist_laws.proofs.Taken.{links_have_sizes}
use Rattle.macho_sizes_exist_laws.proofs.laws.links_have_sizes.Goals as goal

pub returns : goal.returns
returns c = links_have_sizes
