use Rattle.std.proofs.Common.{◌≡◌, ◌*◌, ◌^◌, ◌≤◌, take}
use Rattle.std.specs.Prelude.{sum_by}
use Rattle.macho_model.specs.HeadCommands.{path_command_size}
use Rattle.macho_linkedit.proofs.counting.paths_size.Given as goal

-- the sizes of the first paths, each of which is small
abbrev pub invariant-loop-path : goal.invariant-loop-path
invariant-loop-path l = record {
  is : l.size ≡ sum_by (λ p. path_command_size l.front p.items) (take l.path-index l.paths);
  small : l.size ≤ 2 ^ 33 * l.path-index;
}
