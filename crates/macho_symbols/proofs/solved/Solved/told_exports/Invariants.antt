use Rattle.std.proofs.Common.{take}
use Rattle.macho_symbols.specs.steps.Exporting.{AreTold, pair_names}
use Rattle.macho_symbols.specs.Kept.{noted_of}
use Rattle.macho_symbols.proofs.solved.Solved.told_exports.Given as goal

abbrev pub invariant-loop-pair : goal.invariant-loop-pair
invariant-loop-pair l = AreTold l.self.files.items (noted_of l.self.imports.items) (take l.pair-index (pair_names l.names)) l.exports.items
