use Rattle.std.proofs.Common.{◌≡◌, arith, sym}
use Rattle.macho_object.specs.Objects.{num_symbols}
use Rattle.macho_symbol_names.specs.Kept.{rows_of_dylib}
use Rattle.macho_symbol_names.proofs.Noting.{offered_more, not_offered_more}
use Rattle.macho_symbol_names.proofs.files.dylib_notes.Goals as goal

pub loop-index-preserved-in_default : goal.loop-index-preserved-in_default
loop-index-preserved-in_default c = not_offered_more _ _ _ _ c.loop-index.invariant (sym c.in_default.ensures.offered)

pub loop-index-preserved : goal.loop-index-preserved
loop-index-preserved c = rw c.in_ok-push.ensures.items
    (offered_more _ _ _ _ _ c.loop-index.invariant (sym c.in-Some.ensures.offered) c.in-Some.ensures.held.0
    c.in-Some.ensures.held.1 c.in-Some.ensures.row)

pub returns : goal.returns
unfolding rows_of_dylib
returns c =
    let e : c.loop-index.index ≡ num_symbols c.args.file.now.bytes = omega arith in rw e at c.loop-index.invariant
