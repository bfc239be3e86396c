use Rattle.std.proofs.Common.{◌+◌, take, subst, sym}
use Rattle.macho_symbols.specs.steps.Exporting.{AreTold, pair_names}
use Rattle.macho_symbols.specs.Kept.{noted_of}
use Rattle.macho_symbols.proofs.InOrder.{told_next, all_told}
use Rattle.macho_symbols.proofs.solved.Solved.told_exports.Goals as goal

pub loop-pair-preserved : goal.loop-pair-preserved
loop-pair-preserved c =
    let s = c.args.self.now in
    subst (AreTold s.files.items (noted_of s.imports.items) (take (c.loop-pair.pair-index + 1) (pair_names c.args.names.now)))
    (sym c.in_ok-push.ensures.items)
    (told_next s.files.items
    (noted_of s.imports.items) c.args.names.now c.loop-pair.pair-index _ c.loop-pair.exports.items c.in_ok-export.field-0
    c.loop-pair.invariant c.loop-pair-test.true c.in_ok-export.ensures.name c.in_ok-export.ensures.told)

pub export-requires-clause-entry : goal.export-requires-clause-entry
export-requires-clause-entry c = c.requires.entries c.loop-pair.pair-index _ c.loop-pair-test.true

pub returns-clause-told : goal.returns-clause-told
returns-clause-told c =
    let s = c.args.self.now in
    all_told s.files.items
    (noted_of s.imports.items) c.args.names.now c.loop-pair.pair-index c.loop-pair.exports.items c.loop-pair.invariant
    c.loop-pair-test.false
