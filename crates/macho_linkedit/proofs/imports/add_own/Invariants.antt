use Rattle.macho_linkedit.specs.steps.Entries.{HaveOwn}
use Rattle.macho_linkedit.proofs.imports.add_own.Given as goal

-- so many own entries stand behind the plain ones
abbrev pub invariant-loop-entry : goal.invariant-loop-entry
invariant-loop-entry l = HaveOwn l.initial.entries.items l.own l.entry-index l.entries.items
