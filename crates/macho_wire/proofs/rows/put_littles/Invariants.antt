use Rattle.std.proofs.Common.{◌≡◌, ◌+◌, ◌*◌, take, map}
use Rattle.macho_bytes.specs.Numbers.{little, row_bytes, AllBelow}
use Rattle.macho_bytes.specs.Texts.{put}
use Rattle.macho_wire.proofs.rows.put_littles.Given as goal

-- the numbers so far are put
abbrev pub invariant-loop-number : goal.invariant-loop-number
invariant-loop-number g l =
    (l.place ≡ l.at + g.N.Number.WIDTH * l.number-index)
    × (l.out ≡ put l.at (row_bytes little g.N.Number.WIDTH (take l.number-index (map g.N.Number.value l.numbers))) l.initial.out)
    × AllBelow g.N.Number.WIDTH (take l.number-index (map g.N.Number.value l.numbers))
