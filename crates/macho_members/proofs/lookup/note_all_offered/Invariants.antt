use Rattle.std.proofs.Common.{take, map}
use Rattle.std.specs.List.{enumerate_from}
use Rattle.std.specs.HashMap.{get}
use Rattle.macho_members.specs.steps.Tables.{same_text, Known, offered_by, first_of, behind, Finds}
use Rattle.macho_members.proofs.lookup.note_all_offered.Given as goal

-- the table finds what it did before, and then what the inputs so far offer
abbrev pub invariant-loop-number : goal.invariant-loop-number
invariant-loop-number l = (known : Known) → Finds (get same_text l.initial.table) known
    → Finds (get same_text l.table) (behind known (first_of (map offered_by (take l.number (enumerate_from 0 l.inputs)))))
