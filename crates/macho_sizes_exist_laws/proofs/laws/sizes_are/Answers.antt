-- A link has sizes exactly where its exported names are spelled.
use Rattle.macho_sizes_exist_laws.proofs.Sized.{sizes_are}
use Rattle.macho_sizes_exist_laws.proofs.Needed.{sizes_need_spelling}
use Rattle.macho_sizes_exist_laws.proofs.laws.sizes_are.Goals as goal

pub returns-clause-are : goal.returns-clause-are
returns-clause-are c = sizes_are

pub returns-clause-needed : goal.returns-clause-needed
returns-clause-needed c = sizes_need_spelling
