-- The image that is written is the changed one.
use Rattle.macho_retool.proofs.Retooled.{found_of}
use Rattle.macho_retool.proofs.retooling.retool.Goals as goal

pub returns-clause-found : goal.returns-clause-found
returns-clause-found c = found_of c.args.change.now c.args.bytes.now c.retool_loaded.result c.retool_loaded.ensures.found
