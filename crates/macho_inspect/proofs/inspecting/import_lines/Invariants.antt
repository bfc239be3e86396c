-- The imports so far have their lines.
use Rattle.std.proofs.Common.{◌≡◌, map, take}
use Rattle.macho_loader.specs.Lists.{import_of}
use Rattle.macho_inspect.specs.Reports.{import_in}
use Rattle.macho_inspect.proofs.inspecting.import_lines.Given as goal

abbrev pub invariant-loop-import : goal.invariant-loop-import
invariant-loop-import l = map import_in l.lines.items ≡ map import_of (take l.import-index l.import-items)
