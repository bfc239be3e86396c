-- The names so far are copied.
use Rattle.std.proofs.Common.{◌≡◌, map, take}
use Rattle.macho_inspect.proofs.inspecting.library_names.Given as goal

abbrev pub invariant-loop-library : goal.invariant-loop-library
invariant-loop-library l = map (λ name. name.items) l.names.items ≡ map (λ n. n.now) (take l.library-index l.library-items)
