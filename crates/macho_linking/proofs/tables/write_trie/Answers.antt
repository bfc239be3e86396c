use Rattle.std.proofs.Common.{List, map, sym, ap, subst, ◌∙◌, arith, All}
use Rattle.std.proofs.lemmas.Result.{IfOk-weaker}
use Rattle.macho_model.specs.Needs.{imports_of}
use Rattle.macho_linkedit.specs.declared.exports.NamedExport.{NamedExport}
use Rattle.macho_linkedit.specs.Tries.{HasFlags, kept}
use Rattle.macho_linking.specs.steps.Planned.{placement_of, counts_of}
use Rattle.macho_linking.proofs.Ready.{planned_to_table}
use Rattle.macho_linking.proofs.TriePut.{libraries_few, exports_are, reserved, room_suffices, trie_put, trie_means}
use Rattle.macho_linking.proofs.tables.write_trie.Goals as goal

pub said_exports-requires-clause-few : goal.said_exports-requires-clause-few
said_exports-requires-clause-few g c = libraries_few c.requires.link.0 c.args.b.now c.requires.link.1.planned

pub said_exports-requires-clause-link : goal.said_exports-requires-clause-link
said_exports-requires-clause-link g c =
    let l = c.requires.link.0 in
    let planned = c.requires.link.1.planned in (
      l,
      exports_are l c.args.b.now c.deref.result.now c.imports-imports.result.now planned c.deref.ensures.value
          (c.imports-imports.ensures l (imports_of l) planned.read.resolved),
    )

pub write-requires-clause-flags : goal.write-requires-clause-flags
write-requires-clause-flags g c =
    subst (λ (es : List NamedExport). All (λ e. HasFlags e.says) es) (sym c.deref-2.ensures.value) c.in_ok-exports.ensures.flags

pub write-requires-clause-reserved : goal.write-requires-clause-reserved
write-requires-clause-reserved g c =
    let l = c.requires.link.0 in
    let planned = c.requires.link.1.planned in
    let are = exports_are l c.args.b.now c.deref.result.now c.imports-imports.result.now planned c.deref.ensures.value
    (c.imports-imports.ensures l (imports_of l) planned.read.resolved) in
    let kept_are = reserved l c.args.b.now c.deref.result.now c.in_ok-exports.exports.items planned c.deref.ensures.value
    (c.in_ok-exports.ensures.kept l are) in (
      kept_are.0,
      kept_are.1,
      kept_are.2 ∙ ap (map kept) (sym c.deref-2.ensures.value),
    )

pub write-requires-clause-room : goal.write-requires-clause-room
write-requires-clause-room g c =
    let size = c.args.b.now.sized.now.trie.size in
    omega (arith, (room_suffices c.requires.link.0 c.args.b.now size c.requires.link.1.planned (omega arith)).1, c.requires.long)

pub returns-clause-done : goal.returns-clause-done
returns-clause-done g c l looked =
    let planned = looked.planned in
    let are = exports_are l c.args.b.now c.deref.result.now c.imports-imports.result.now planned c.deref.ensures.value
    (c.imports-imports.ensures l (imports_of l) planned.read.resolved) in
    let said = c.in_ok-exports.ensures.said l (counts_of c.args.b.now) (placement_of c.args.b.now) are
    (planned_to_table l c.args.b.now _ looked) planned.inputs.views in
    IfOk-weaker c.write.result _ _ (λ size w. trie_put l c.args.b.now c.args.out.now c.write.new.out size c.deref-2.result.now planned w
    (trie_means l (placement_of c.args.b.now) c.deref.result.now c.in_ok-exports.exports.items c.deref-2.result.now w.text
    c.deref-2.ensures.value said w.exact w.found w.only)) c.write.ensures.done
