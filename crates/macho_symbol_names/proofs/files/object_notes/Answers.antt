use Rattle.std.proofs.Common.{◌≡◌, arith}
use Rattle.macho_object.specs.Objects.{num_symbols}
use Rattle.macho_symbol_names.specs.Kept.{rows_of_object}
use Rattle.macho_symbol_names.proofs.Noting.{object_row_more}
use Rattle.macho_symbol_names.proofs.files.object_notes.Goals as goal

pub loop-index-preserved : goal.loop-index-preserved
loop-index-preserved c = rw c.in_ok-push.ensures.items
    (object_row_more _ _ _ _ _ c.loop-index.invariant c.note_of.ensures.named c.note_of.ensures.small c.note_of.ensures.row)

pub returns : goal.returns
unfolding rows_of_object
returns c =
    let e : c.loop-index.index ≡ num_symbols c.args.file.now.bytes = omega arith in rw e at c.loop-index.invariant
