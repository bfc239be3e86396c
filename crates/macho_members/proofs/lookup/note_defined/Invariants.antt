use Rattle.std.proofs.Common.{take, map}
use Rattle.std.specs.HashMap.{get}
use Rattle.macho_members.specs.steps.Tables.{same_text, Known, none_known, first_of, behind, Finds}
use Rattle.macho_members.proofs.lookup.note_defined.Given as goal

-- the table finds what it did before, and then what the members so far settle
abbrev pub invariant-loop-names : goal.invariant-loop-names
invariant-loop-names l = (known : Known) → Finds (get same_text l.initial.table) known
    → Finds (get same_text l.table) (behind known (first_of (map none_known (take l.names-index l.members))))
