-- Where not all are kept, the set is asked.
use Rattle.std.proofs.Common.{ℕ, List, Bor, sym, ◌∙◌}
use Rattle.std.specs.Str.{bytes_eq}
use Rattle.macho_inputs.proofs.libraries.is_kept.Goals as goal
use Rattle.macho_bytes.proofs.Maps.{any_map}

pub returns-else-not-dead_strip_dylibs : goal.returns-else-not-dead_strip_dylibs
returns-else-not-dead_strip_dylibs c =
    rw c.if-not-dead_strip_dylibs.false
    (c.contains.ensures ∙ sym (any_map (bytes_eq c.args.name.now) (λ (y : Bor (List ℕ)). y.now) c.args.asked.now.keys))
