-- An export that is an import is among them; what is pushed keeps the places of all exports.
use Rattle.std.proofs.Common.{refl, sym, ap, ◌∙◌}
use Rattle.std.specs.Prelude.{map}
use Rattle.std.proofs.lemmas.List.{take_all}
use Rattle.macho_symbols.specs.declared.exports.ExportName.{ExportName}
use Rattle.macho_linkedit.specs.declared.exports.ExportSays.{ExportSays}
use Rattle.macho_symbol_tables.specs.steps.Says.{says_kept, all_kept}
use Rattle.macho_symbol_tables.proofs.Kept.{export_among, are_kept, can_be_trie}
use Rattle.macho_symbol_tables.proofs.exports.kept_exports.Goals as goal

pub kept_says-requires-clause-among : goal.kept_says-requires-clause-among
kept_says-requires-clause-among c =
    let some = c.requires.link in
    export_among some.0 c.args.exports.now c.args.imports.now (map (λ n. n.items) c.args.libraries.now) c.export-item.result some.1
    (c.loop-export.export-index, c.loop-export-test.true, sym c.export-item.is)

pub returns-clause-kept : goal.returns-clause-kept
returns-clause-kept c l of =
    let names = map (λ n. n.items) c.args.libraries.now in
    let says : ExportName → ExportSays = λ e. says_kept c.args.imports.now names e.target in
    are_kept l c.args.exports.now c.args.imports.now names says c.loop-export.kept.items of (λ k d lt. refl)
    (c.loop-export.invariant
    ∙ ap (all_kept c.args.imports.now names) (take_all c.loop-export.export-index c.args.exports.now c.loop-export-test.false))

pub returns-clause-names : goal.returns-clause-names
returns-clause-names c l of plain =
    let names = map (λ n. n.items) c.args.libraries.now in
    let says : ExportName → ExportSays = λ e. says_kept c.args.imports.now names e.target in
    can_be_trie l c.args.exports.now c.args.imports.now names says c.loop-export.kept.items of plain
    (c.loop-export.invariant
    ∙ ap (all_kept c.args.imports.now names) (take_all c.loop-export.export-index c.args.exports.now c.loop-export-test.false))
