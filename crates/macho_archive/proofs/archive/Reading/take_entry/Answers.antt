-- One entry more is read.
use Rattle.std.proofs.Common.{refl}
use Rattle.macho_archive.proofs.OneMore.{one_read}
use Rattle.macho_archive.proofs.archive.Reading.take_entry.Goals as goal

pub returns-clause-found : goal.returns-clause-found
returns-clause-found c = λ has.
    one_read c.args.bytes.now c.args.self.now
    _ c.in-Ok.entry
    c.requires.within has c.in-Ok.ensures.found refl c.table_behind-self.ensures c.in_ok-push_member.ensures
