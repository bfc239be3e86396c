use Rattle.std.proofs.Common.{take, map}
use Rattle.std.specs.HashMap.{get}
use Rattle.macho_members.specs.steps.Tables.{same_text, Known, named, first_of, behind, Finds}
use Rattle.macho_members.proofs.table.note_names.Given as goal

-- the table finds what it did before, and then what the names so far bring
abbrev pub invariant-loop-name : goal.invariant-loop-name
invariant-loop-name l = (known : Known) → Finds (get same_text l.initial.table) known
    → Finds (get same_text l.table) (behind known (first_of (map (λ n. named l.place n.now) (take l.name-index l.names))))
