-- The table knows nothing at first, then what is settled, and then what is offered.
use Rattle.std.proofs.Common.{None, map, refl}
use Rattle.std.specs.HashMap.{get}
use Rattle.macho_members.specs.steps.Tables.{same_text, Known, behind, first_of, settled_by, Finds}
use Rattle.macho_members.proofs.Deciding.{table_finds}
use Rattle.macho_members.proofs.lookup.table_of.Goals as goal

nothing : Known
nothing q = None

pub returns : goal.returns
unfolding nothing
returns c =
    let start : Finds (get same_text c.new-table.result) nothing = record { each = λ q. rw c.new-table.ensures.empty refl } in
    let settled = c.in_ok-note_all_settled.ensures nothing start in
    let offered = c.in_ok-note_all_offered.ensures (behind nothing (first_of (map settled_by c.args.inputs.now))) settled in
    table_finds c.args.inputs.now (get same_text c.note_all_offered.new.table) (record { each = λ q. offered.each q })
