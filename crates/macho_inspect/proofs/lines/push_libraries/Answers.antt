-- The lines before are pushed, and this one is, or a front of it is taken. Behind the last one all are.
use Rattle.std.proofs.Common.{◌+◌, arith, refl, map}
use Rattle.std.specs.List.{enumerate_from}
use Rattle.std.proofs.lemmas.Result.{err_from_is_err_and}
use Rattle.macho_devices.proofs.Counts.{counts-since}
use Rattle.macho_inspect.specs.Lines.{library_pieces, line_text}
use Rattle.macho_inspect.proofs.Texts.{library-is, library-count, item-pushed, item-refused, items-pushed}
use Rattle.macho_inspect.proofs.lines.push_libraries.Goals as goal

pub returns-in_err-push_library : goal.returns-in_err-push_library
returns-in_err-push_library g c =
    let p = err_from_is_err_and c.from_residual.result c.from_residual.ensures.1 in
    let within = c.loop-index-test.true in
    let count = library-count (λ path. path.items) c.args.paths.now in
    item-refused (λ library. line_text (library_pieces library)) (enumerate_from 1 (map (λ path. path.items) c.args.paths.now))
    c.loop-index.index (c.loop-index.index + 1, c.as_slice.result.now) _ _ _ _ _ _ c.from_residual.result p.0 p.1
    (omega (arith, within, count))
    (library-is (λ path. path.items) c.args.paths.now c.loop-index.index c.index-paths-index.result c.as_slice.result.now within
    c.as_slice.ensures.value c.index-paths-index.is)
    c.loop-index.invariant.0 c.in_err-push_library.ensures.left c.loop-index.invariant.1 c.in_err-push_library.ensures.counted
    c.in_err-push_library.ensures.why

pub loop-index-preserved : goal.loop-index-preserved
loop-index-preserved g c =
    let within = c.loop-index-test.true in
    let count = library-count (λ path. path.items) c.args.paths.now in (
      item-pushed (λ library. line_text (library_pieces library)) (enumerate_from 1 (map (λ path. path.items) c.args.paths.now))
          c.loop-index.index (c.loop-index.index + 1, c.as_slice.result.now) _ _ _ _ _ _ (omega (arith, within, count))
          (library-is (λ path. path.items) c.args.paths.now c.loop-index.index c.index-paths-index.result c.as_slice.result.now within
          c.as_slice.ensures.value c.index-paths-index.is)
          c.loop-index.invariant.0 c.in_ok-push_library.ensures.done,
      counts-since _ _ _ c.loop-index.invariant.1 c.in_ok-push_library.ensures.counted,
    )

pub returns : goal.returns
returns g c =
    let behind = c.loop-index-test.false in
    let count = library-count (λ path. path.items) c.args.paths.now in
    items-pushed (λ library. line_text (library_pieces library)) (enumerate_from 1 (map (λ path. path.items) c.args.paths.now))
    c.loop-index.index _ _ _ _ _ _ refl (omega (arith, behind, count)) c.loop-index.invariant.0 c.loop-index.invariant.1
