use Rattle.macho_fixups.proofs.EntryTexts.{EntriesSoFar}
use Rattle.macho_fixups.proofs.imports.write_imports.Given as goal

-- the entries so far are put
abbrev pub invariant-loop-entry : goal.invariant-loop-entry
invariant-loop-entry l = EntriesSoFar l.format l.at l.place l.entry-index l.imports l.initial.out l.out
