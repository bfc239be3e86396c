-- The texts so far are others.
use Rattle.std.proofs.Common.{◌≡◌, map, drop}
use Rattle.std.specs.List.{list_any}
use Rattle.std.specs.Str.{bytes_eq}
use Rattle.std.specs.String.{string_bytes}
use Rattle.macho_args.proofs.words.contains_text.Given as goal

abbrev pub invariant-loop-one : goal.invariant-loop-one
invariant-loop-one l =
    list_any (λ one. bytes_eq one l.text) (map string_bytes (drop l.one-index l.texts))
    ≡ list_any (λ one. bytes_eq one l.text) (map string_bytes l.texts)
