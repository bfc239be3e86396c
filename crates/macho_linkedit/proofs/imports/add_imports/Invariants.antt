use Rattle.macho_linkedit.specs.Imports.{texts}
use Rattle.macho_linkedit.specs.steps.Entries.{HavePlain}
use Rattle.macho_linkedit.proofs.imports.add_imports.Given as goal

-- the imports so far have their entries
abbrev pub invariant-loop-import : goal.invariant-loop-import
invariant-loop-import l = HavePlain (texts l.libraries) l.imports l.import-index l.entries.items l.names.items
