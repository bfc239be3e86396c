use Rattle.std.proofs.Common.{take, map}
use Rattle.std.specs.HashMap.{get}
use Rattle.macho_members.specs.steps.Tables.{same_text, Known, settled_by, first_of, behind, Finds}
use Rattle.macho_members.proofs.lookup.note_all_settled.Given as goal

-- the table finds what it did before, and then what the inputs so far settle
abbrev pub invariant-loop-input : goal.invariant-loop-input
invariant-loop-input l = (known : Known) → Finds (get same_text l.initial.table) known
    → Finds (get same_text l.table) (behind known (first_of (map settled_by (take l.input-index l.inputs))))
