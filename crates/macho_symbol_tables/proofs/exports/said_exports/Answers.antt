-- An export that is an import is among them; what is pushed says what each is exported as.
use Rattle.std.proofs.Common.{◌≡◌, ℕ, List, [], ◌∷◌, ◌++◌, take, sym, ap, subst, ◌∙◌}
use Rattle.std.specs.Prelude.{map, Option, All}
use Rattle.std.proofs.lemmas.List.{take_all, map-append}
use Rattle.std.proofs.lemmas.List.Elements.{All-push}
use Rattle.macho_object.specs.Views.{FileBytes}
use Rattle.macho_symbols.specs.declared.exports.ExportName.{ExportName}
use Rattle.macho_linkedit.specs.declared.exports.ExportSays.{ExportSays}
use Rattle.macho_symbol_tables.specs.steps.Says.{seen, says_said, all_said}
use Rattle.macho_linkedit.specs.declared.exports.NamedExport.{NamedExport}
use Rattle.macho_linkedit.specs.Tries.{HasFlags}
use Rattle.macho_symbol_tables.proofs.Lists.{map_more}
use Rattle.macho_symbol_tables.proofs.Kept.{export_among, are_kept}
use Rattle.macho_symbol_tables.proofs.Said.{are_said, said_keeps}
use Rattle.macho_symbol_tables.proofs.exports.said_exports.Goals as goal

pub says_of-requires-clause-among : goal.says_of-requires-clause-among
says_of-requires-clause-among g c =
    let some = c.requires.link in
    export_among some.0 c.args.exports.now c.args.imports.now (map (λ n. n.items) c.args.libraries.now) c.export-item.result some.1
    (c.loop-export.export-index, c.loop-export-test.true, sym c.export-item.is)

pub returns-clause-said : goal.returns-clause-said
returns-clause-said g c l counts p of to views =
    let names = map (λ n. n.items) c.args.libraries.now in
    let look = g.P.Places.look c.args.places.now in
    are_said l counts p look c.args.exports.now c.args.imports.now names c.loop-export.said.items of to
    (c.loop-export.invariant.seen
    ∙ ap (all_said look c.args.views.now c.args.imports.now names)
    (take_all c.loop-export.export-index c.args.exports.now c.loop-export-test.false)
    ∙ ap (λ (vs : List (Option FileBytes)). all_said look vs c.args.imports.now names c.args.exports.now) views)

pub returns-clause-kept : goal.returns-clause-kept
returns-clause-kept g c l of =
    let names = map (λ n. n.items) c.args.libraries.now in
    let look = g.P.Places.look c.args.places.now in
    let says : ExportName → ExportSays = λ e. says_said look c.args.views.now c.args.imports.now names e.weak e.target in
    are_kept l c.args.exports.now c.args.imports.now names says c.loop-export.said.items of
    (λ k d lt. said_keeps look c.args.views.now c.args.imports.now names _ _)
    (c.loop-export.invariant.seen
    ∙ ap (all_said look c.args.views.now c.args.imports.now names)
    (take_all c.loop-export.export-index c.args.exports.now c.loop-export-test.false))

pub loop-export-preserved : goal.loop-export-preserved
loop-export-preserved g c =
    let names = map (λ n. n.items) c.args.libraries.now in
    let look = g.P.Places.look c.args.places.now in
    let x : NamedExport = record { name = c.as_slice.result; says = c.says_of.result } in
    let says : ExportName → List ℕ × ExportSays =
    λ e. (e.name.items, says_said look c.args.views.now c.args.imports.now names e.weak e.target) in
    let one : seen x ≡ says c.export-item.result =
    ap (λ (n : List ℕ). seen_as n c.says_of.result) c.as_slice.ensures.value
    ∙ ap (seen_as c.export-item.result.name.items) c.says_of.ensures.is in
    record {
      seen =
          ap (map seen) c.in_ok-push.ensures.items ∙ map-append seen c.loop-export.said.items (x ∷ [])
          ∙ ap (λ (xs : List (List ℕ × ExportSays)). xs ++ seen x ∷ []) c.loop-export.invariant.seen
          ∙ ap (λ (q : List ℕ × ExportSays). map says (take c.loop-export.export-index c.args.exports.now) ++ q ∷ []) one
          ∙ sym (map_more says c.args.exports.now c.loop-export.export-index c.export-item.result c.loop-export-test.true c.export-item.is);
      flags =
          subst (λ (xs : List NamedExport). All (λ (e : NamedExport). HasFlags e.says) xs) (sym c.in_ok-push.ensures.items)
          (All-push (λ (e : NamedExport). HasFlags e.says) c.loop-export.said.items x c.loop-export.invariant.flags
          c.says_of.ensures.flags);
    }
  where
    seen_as : List ℕ → ExportSays → List ℕ × ExportSays
    seen_as name says = (name, says)
