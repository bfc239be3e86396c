use Rattle.std.proofs.Common.{◌≡◌, take}
use Rattle.std.specs.Prelude.{map}
use Rattle.macho_symbol_tables.specs.steps.Says.{seen, all_kept}
use Rattle.macho_symbol_tables.proofs.exports.kept_exports.Given as goal

-- the names so far keep their places
abbrev pub invariant-loop-export : goal.invariant-loop-export
invariant-loop-export l = map seen l.kept.items ≡ all_kept l.imports (map (λ n. n.items) l.libraries) (take l.export-index l.exports)
