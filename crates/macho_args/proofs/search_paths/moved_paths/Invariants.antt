-- Each path so far has moved, and the file system tells what it told before.
use Rattle.std.proofs.Common.{◌≡◌, map, take}
use Rattle.std.specs.List.{AllZip}
use Rattle.std.specs.String.{string_bytes}
use Rattle.macho_args.specs.SearchPaths.{IsMoved}
use Rattle.macho_args.proofs.search_paths.moved_paths.Given as goal

abbrev pub invariant-loop-path : goal.invariant-loop-path
invariant-loop-path g l =
    let told = g.D.Paths.state l.fn.paths in
    record {
      each : AllZip (IsMoved told.directories l.root) (map string_bytes (take l.path-index l.old)) (map string_bytes l.new.items);
      outside : g.D.Paths.state l.paths ≡ told;
    }
