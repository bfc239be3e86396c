-- What stands in front of the last slash is the folder; without a slash there is none.
use Rattle.std.proofs.Common.{rules}
use Rattle.macho_devices.proofs.Beside.{name_behind, name_without}
use Rattle.macho_devices.proofs.write.name_beside.Goals as goal

pub returns-in-Some : goal.returns-in-Some
returns-in-Some c =
    let h = c.in-Some.ensures.cases in
    rw (← name_behind c.args.path.now c.in-Some.folder.now c.in-Some._name.now h.0 h.1 c.args.number h.2.0 h.2.1 h.3 h.7) (search rules)

pub returns-in-None : goal.returns-in-None
returns-in-None c = rw (← name_without c.args.path.now c.args.number c.in-None.ensures.cases) (search rules)
