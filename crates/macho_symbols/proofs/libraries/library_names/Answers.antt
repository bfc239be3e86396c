-- A library adds its name, and an object none.
use Rattle.std.proofs.Common.{map, sym, ap, ◌∙◌}
use Rattle.macho_symbols.proofs.InstallNames.{library_more, object_more}
use Rattle.macho_symbols.proofs.libraries.library_names.Goals as goal
use Rattle.macho_symbols.proofs.libraries.library_names.Goals.{then-not-is_object+in_ok-push, else-not-is_object}

pub loop-file-preserved : goal.loop-file-preserved
loop-file-preserved c =
    elim c.if-not-is_object.branch [
      | then-not-is_object+in_ok-push w ↦
          library_more c.args.files.now c.loop-file.file-index c.file-item.result c.loop-file.names.items c.if-not-is_object.names.items
          w.library.result c.loop-file-test.true c.file-item.is c.loop-file.invariant
          (sym c.is_object.ensures ∙ w.if-not-is_object.true) w.library.ensures (ap (λ v. v.items) w.names-is ∙ w.in_ok-push.ensures.items)
      | else-not-is_object w ↦
          ap (λ v. map (λ n. n.now) v.items) w.names-is
          ∙ object_more c.args.files.now c.loop-file.file-index c.file-item.result c.loop-file.names.items c.loop-file-test.true
          c.file-item.is
          c.loop-file.invariant (sym c.is_object.ensures ∙ w.if-not-is_object.false)
    ]
