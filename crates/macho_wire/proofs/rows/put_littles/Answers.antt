use Rattle.std.proofs.Common.{◌≡◌, ℕ, List, subst, arith}
use Rattle.macho_bytes.specs.Numbers.{little, row_bytes, AllBelow}
use Rattle.macho_bytes.specs.Texts.{put}
use Rattle.macho_bytes.proofs.Numbers.{little_is_sound}
use Rattle.macho_wire.proofs.ValueRows.{values_begin, values_go_on, values_end, values_fit}
use Rattle.macho_wire.proofs.rows.put_littles.Goals as goal

pub loop-number-init : goal.loop-number-init
loop-number-init g c = values_begin little g.N.Number.WIDTH c.args.at c.args.out.now (omega (arith, c.requires))

pub loop-number-preserved : goal.loop-number-preserved
loop-number-preserved g c =
    values_go_on g.N.Number.value little little_is_sound g.N.Number.WIDTH c.WIDTH-place.result c.args.at c.loop-number.place
    c.loop-number.number-index
    c.args.numbers.now c.number-item.result c.args.out.now c.loop-number.out c.write_little.new.out c.WIDTH-place.ensures
    c.loop-number-test.true
    c.requires c.number-item.is c.loop-number.invariant c.write_little.ensures.written c.write_little.ensures.fits

pub returns-clause-written : goal.returns-clause-written
returns-clause-written g c =
    subst (λ (ns : List ℕ). c.loop-number.out ≡ put c.args.at (row_bytes little g.N.Number.WIDTH ns) c.args.out.now)
    (g.met.N.Number.each c.args.numbers.now)
    (values_end g.N.Number.value little g.N.Number.WIDTH c.args.at c.loop-number.number-index c.args.numbers.now c.args.out.now
    c.loop-number.out
    c.loop-number-test.false c.loop-number.invariant.1)

pub returns-clause-fits : goal.returns-clause-fits
returns-clause-fits g c =
    subst (AllBelow g.N.Number.WIDTH) (g.met.N.Number.each c.args.numbers.now)
    (values_fit g.N.Number.value g.N.Number.WIDTH c.loop-number.number-index c.args.numbers.now c.loop-number-test.false
    c.loop-number.invariant.2)
