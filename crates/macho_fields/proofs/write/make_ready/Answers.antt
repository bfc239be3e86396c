use Rattle.macho_bytes.specs.Numbers.{le_at}
use Rattle.macho_fields.proofs.Puts.{changes_put}
use Rattle.macho_fields.proofs.write.make_ready.Goals as goal

pub returns-in-Ok-clause-rest : goal.returns-in-Ok-clause-rest
returns-in-Ok-clause-rest c =
    changes_put c.args.write.now.at 4 (le_at 4 c.apply.new.bytes c.args.write.now.at) c.args.out.now c.apply.new.bytes c.requires
    c.in-Ok.ensures.done.outside
