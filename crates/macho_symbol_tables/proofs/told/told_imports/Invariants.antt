use Rattle.std.proofs.Common.{◌≡◌, take}
use Rattle.std.specs.Prelude.{map}
use Rattle.macho_answer.specs.Linked.{import_of}
use Rattle.macho_symbol_tables.specs.steps.Says.{told_in}
use Rattle.macho_symbol_tables.proofs.told.told_imports.Given as goal

-- the imports so far are told
abbrev pub invariant-loop-import : goal.invariant-loop-import
invariant-loop-import l = map import_of l.told.items ≡ map (told_in (map (λ n. n.items) l.libraries)) (take l.import-index l.imports)
