-- The set's keys are those before, with the name at the end where it is new.
use Rattle.std.proofs.Common.{not, ap, ◌∙◌}
use Rattle.macho_tbd.proofs.Gathering.{among_keys, among_put}
use Rattle.macho_tbd.proofs.library.put_name.Goals as goal

pub returns-clause-new : goal.returns-clause-new
returns-clause-new c = c.in_ok-insert.ensures.added ∙ ap not (among_keys c.args.name c.args.seen.now.keys)

pub returns-clause-put : goal.returns-clause-put
returns-clause-put c = λ other. among_put c.args.name c.args.seen.now.keys _ other c.in_ok-insert.ensures.keys
