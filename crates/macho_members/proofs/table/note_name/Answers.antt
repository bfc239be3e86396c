-- A name that the table knows changes nothing; a new one is put in.
use Rattle.std.proofs.Common.{sym, ◌∙◌}
use Rattle.std.specs.HashMap.{get}
use Rattle.macho_members.specs.steps.Tables.{same_text}
use Rattle.macho_members.proofs.Noted.{noted_kept, noted_more}
use Rattle.macho_members.proofs.table.note_name.Goals as goal

pub returns-in_ok-insert : goal.returns-in_ok-insert
returns-in_ok-insert c = λ known finds.
    noted_more (get same_text c.args.table.now) (get same_text c.insert.new.self) known c.args.name c.args.place finds
    (sym c.contains_key.ensures ∙ c.if-not-contains_key.true) c.in_ok-insert.ensures.updates.0

pub returns-else-not-contains_key : goal.returns-else-not-contains_key
returns-else-not-contains_key c = λ known finds.
    noted_kept (get same_text c.args.table.now) known c.args.name c.args.place finds
    (sym c.contains_key.ensures ∙ c.if-not-contains_key.false)
