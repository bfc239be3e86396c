use Rattle.std.proofs.Common.{◌≡◌, take}
use Rattle.std.specs.Prelude.{map, All}
use Rattle.macho_linkedit.specs.Tries.{HasFlags}
use Rattle.macho_symbol_tables.specs.steps.Says.{seen, all_said}
use Rattle.macho_symbol_tables.proofs.exports.said_exports.Given as goal

-- the names so far say what they are exported as
abbrev pub invariant-loop-export : goal.invariant-loop-export
invariant-loop-export g l = record {
  seen : map seen l.said.items
      ≡ all_said (g.P.Places.look l.places) l.views l.imports (map (λ n. n.items) l.libraries) (take l.export-index l.exports);
  flags : All (λ e. HasFlags e.says) l.said.items;
}
