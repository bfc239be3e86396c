-- The block of stubs is put where the first one stands.
use Rattle.std.proofs.Common.{ap, subst, length, arith, ◌≡◌, ◌*◌, ◌≤◌, ◌∙◌}
use Rattle.std.proofs.lemmas.Bool.Decides.{nat_tests}
use Rattle.macho_model.specs.declared.placed.Stub.{Stub}
use Rattle.macho_model.specs.Addresses.{offset_in_file}
use Rattle.macho_layout.specs.Placements.{placed_of}
use Rattle.macho_fields.specs.Through.{StubsAreSet}
use Rattle.macho_contents.proofs.Stubs.{block_filled}
use Rattle.macho_contents.proofs.contents.set_stubs.Goals as goal
use Rattle.macho_bytes.proofs.Comparing.{on_ok_one}

pub returns-clause-done : goal.returns-clause-done
returns-clause-done g c tells found =
    let p = placed_of c.args.placement.now in
    let some : 1 ≤ length c.args.placement.now.stubs.items = grind (arith, nat_tests, c.is_empty.ensures, c.if-is_empty.false) in
    let ends = c.requires.fit.ends c.index.result.now some in
    let offset = ap (λ (s : Stub). offset_in_file p s.address) c.index.ensures in
    let at = c.file_offset-at.ensures.low p c.deref.ensures.value (omega (arith, ends, offset)) in
    let wide : length c.fill_stubs.new.out ≡ 12 * c.len-size.result = omega (arith, c.fill_stubs.auto.out) in
    on_ok_one c.fill_stubs.result
    (λ set. block_filled p c.file_offset-at.result _ c.index.result.now c.fill_stubs.new.out c.args.out.now c.requires.fit some
    (at ∙ offset)
    (omega (arith, wide)) (omega (arith, wide, c.len-size.ensures)) (subst
    (λ ss. StubsAreSet p ss c.fill_stubs.new.out) c.deref-2.ensures.value set))
    (c.fill_stubs.ensures.done p tells found c.deref-2.ensures.value)

pub returns-clause-why : goal.returns-clause-why
returns-clause-why g c l tells found = c.fill_stubs.ensures.why l (placed_of c.args.placement.now) tells found c.deref-2.ensures.value
