-- What an input has nothing of changes nothing.
use Rattle.std.proofs.Common.{sym, subst}
use Rattle.std.specs.HashMap.{get}
use Rattle.macho_members.specs.steps.Tables.{same_text, behind, offered_by, Finds}
use Rattle.macho_members.proofs.Noted.{finds_none}
use Rattle.macho_members.proofs.lookup.note_offered.Goals as goal

pub returns-in-Object : goal.returns-in-Object
returns-in-Object c = λ known finds.
    subst (λ x. Finds (get same_text c.args.table.now) (behind known (offered_by (c.args.number, x)))) (sym c.in-Object.is)
    (finds_none (get same_text c.args.table.now) known finds)
