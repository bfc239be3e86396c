-- The rows so far have other names.
use Rattle.std.proofs.Common.{◌≡◌, map, drop}
use Rattle.std.specs.Map.{lookup}
use Rattle.std.specs.Str.{bytes_eq}
use Rattle.macho_args.specs.steps.Options.{plain_row}
use Rattle.macho_args.proofs.options.named.Given as goal

abbrev pub invariant-loop-row : goal.invariant-loop-row
invariant-loop-row l =
    lookup (λ name. bytes_eq name l.word) (map plain_row (drop l.row-index l.rows))
    ≡ lookup (λ name. bytes_eq name l.word) (map plain_row l.rows)
