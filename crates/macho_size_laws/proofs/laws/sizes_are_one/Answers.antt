-- The sizes of a link are one list.
use Rattle.macho_size_laws.proofs.One.{sizes_one}
use Rattle.macho_size_laws.proofs.laws.sizes_are_one.Goals as goal

pub returns : goal.returns
returns c = sizes_one
