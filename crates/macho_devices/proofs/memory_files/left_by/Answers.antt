use Rattle.std.proofs.Common.{ap, ◌∙◌}
use Rattle.std.specs.Option.{option_map}
use Rattle.macho_devices.specs.declared.memory_files.FailingWrite.{FailingWrite}
use Rattle.macho_devices.proofs.Lookups.{get_by_number}
use Rattle.macho_devices.proofs.memory_files.left_by.Goals as goal

pub returns-in-Some : goal.returns-in-Some
returns-in-Some c =
    ap (option_map (λ (write : FailingWrite). write.left)) c.in-Some.ensures
    ∙ get_by_number (λ (write : FailingWrite). write.number) (λ write. write.left) c.args.number c.args.writes.now.items

pub returns-in-None : goal.returns-in-None
returns-in-None c =
    ap (option_map (λ (write : FailingWrite). write.left)) c.in-None.ensures
    ∙ get_by_number (λ (write : FailingWrite). write.number) (λ write. write.left) c.args.number c.args.writes.now.items
