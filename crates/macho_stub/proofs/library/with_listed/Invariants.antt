use Rattle.std.proofs.Common.{◌≡◌, ◌||◌, ℕ, List, drop}
use Rattle.std.specs.List.{list_any}
use Rattle.std.specs.Str.{bytes_eq}
use Rattle.macho_stub_lines.specs.Lists.{texts}
use Rattle.macho_stub.specs.steps.Checks.{holds}
use Rattle.macho_stub.proofs.library.with_listed.Given as goal

abbrev pub invariant-loop-name : goal.invariant-loop-name
invariant-loop-name l = (name : List ℕ) → (holds l.listed name || list_any (λ other. bytes_eq other name) (drop l.name-index (texts
    l.names)))
    ≡ (holds l.initial.listed name || list_any (λ other. bytes_eq other name) (texts l.names))
