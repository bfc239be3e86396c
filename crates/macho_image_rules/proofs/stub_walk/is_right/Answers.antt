-- The file has the stub's 12 bytes, and the slot's address is looked up.
use Rattle.std.proofs.Common.{◌≡◌, length, sym, arith}
use Rattle.std.proofs.lemmas.Bool.{OnTrue_at, OnTrue_from}
use Rattle.macho_layout.specs.Placements.{placed_of}
use Rattle.macho_verify_laws.specs.InFile.{StubSays}
use Rattle.macho_image_rules.specs.StubWalk.{words_in}
use Rattle.macho_image_rules.proofs.Plainly.{AreBytesAt}
use Rattle.macho_image_rules.proofs.Stubbed.{stub_is_right, stub_goes, goes_alike}
use Rattle.macho_image_rules.proofs.stub_walk.is_right.Goals as goal

pub returns-clause-found : goal.returns-clause-found
returns-clause-found g c = λ tells found here.
    let p = placed_of c.args.placement.now in
    let bytes = c.filed_bytes.result.now in
    let look = g.P.Places.look c.args.places.now in
    let long : length bytes ≡ 12 = c.filed_bytes.ensures.whole (c.requires.lies.filed c.args.segment c.requires.one c.requires.named) in
    let are : AreBytesAt c.args.image.now c.args.stub.address bytes =
    record {
      each = λ i low. c.filed_bytes.ensures.each i (omega (arith, low, long));
      only = λ i v low. c.filed_bytes.ensures.only i v (omega (arith, low, long));
    } in
    OnTrue_from c.stub_says.result (StubSays c.args.image.now p c.args.stub) (λ is.
    stub_is_right c.args.image.now p look c.args.stub bytes tells found here are long
    (goes_alike c.args.stub.address c.slot-slot.result _ c.words_of-words.result (words_in bytes) c.slot-slot.ensures
    c.words_of-words.ensures (OnTrue_at is c.stub_says.ensures.found)))

pub returns-clause-only : goal.returns-clause-only
returns-clause-only g c = λ tells found here says.
    let p = placed_of c.args.placement.now in
    let bytes = c.filed_bytes.result.now in
    let look = g.P.Places.look c.args.places.now in
    let long : length bytes ≡ 12 = c.filed_bytes.ensures.whole (c.requires.lies.filed c.args.segment c.requires.one c.requires.named) in
    let are : AreBytesAt c.args.image.now c.args.stub.address bytes =
    record {
      each = λ i low. c.filed_bytes.ensures.each i (omega (arith, low, long));
      only = λ i v low. c.filed_bytes.ensures.only i v (omega (arith, low, long));
    } in
    c.stub_says.ensures.only
    (goes_alike c.args.stub.address _ c.slot-slot.result (words_in bytes) c.words_of-words.result (sym c.slot-slot.ensures)
    (sym c.words_of-words.ensures)
    (stub_goes c.args.image.now p look c.args.stub bytes tells found are long says))
