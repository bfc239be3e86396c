use Rattle.std.proofs.Common.{take, map}
use Rattle.std.specs.List.{enumerate_from}
use Rattle.std.specs.HashMap.{get}
use Rattle.macho_members.specs.steps.Tables.{same_text, Known, first_of, behind, Finds, member_known}
use Rattle.macho_members.proofs.table.note_members.Given as goal

-- the table finds what it did before, and then what the members so far bring
abbrev pub invariant-loop-member : goal.invariant-loop-member
invariant-loop-member l = (known : Known) → Finds (get same_text l.initial.table) known
    → Finds (get same_text l.table) (behind known (first_of (map (member_known l.archive) (take l.member (enumerate_from 0 l.members)))))
