-- The image is a copy of the bytes that was written into.
use Rattle.std.proofs.Common.{◌∙◌, length, ap, arith}
use Rattle.macho_retool.proofs.Writes.{image_written, length-changed}
use Rattle.macho_retool.proofs.rewriting.rewritten.Goals as goal

pub write_image-requires-clause-room : goal.write_image-requires-clause-room
write_image-requires-clause-room c =
    let long = ap length (c.deref.ensures.value ∙ c.in_ok-text.ensures)
    ∙ length-changed c.args.change.now c.args.bytes.now c.args.place.now c.args.form c.requires in
    let whole = ap length (c.deref_mut.ensures.value ∙ c.in_ok-image.ensures.items_if_clones_equal (λ x y e. e)) in
    let h1 = c.requires.inside in
    let h2 = c.requires.old_signed in
    let h3 = c.requires.new_signed in
    let h4 = c.requires.digests in
    omega (arith, long, whole, h1, h2, h3, h4)

pub returns : goal.returns
returns c =
    image_written c.args.change.now c.args.bytes.now c.args.place.now c.args.form c.in_ok-image.image.len c.in_ok-image.image.items
    c.deref_mut.result.now c.deref.result.now c.write_image.new.image c.deref_mut.ensures.value
    (c.in_ok-image.ensures.items_if_clones_equal (λ x y e. e)) (omega arith) (c.deref.ensures.value ∙ c.in_ok-text.ensures)
    c.write_image.ensures c.write_image.auto.image
