-- The offsets fill their range.
use Rattle.std.proofs.Common.{length, ap, sym, subst, ◌∙◌, arith, All}
use Rattle.macho_linking.specs.declared.fault.Unwritten.TheVariants.{Unmade}
use Rattle.macho_linking.specs.steps.Planned.{placement_of, counts_of}
use Rattle.macho_linking.specs.steps.Unwritten.{UnwrittenStands}
use Rattle.macho_linking.proofs.Ready.{planned_to_make}
use Rattle.macho_linking.proofs.Filling.{refused}
use Rattle.macho_linking.proofs.Making.{ranges_fit, rows_fill, offsets_put}
use Rattle.macho_linking.proofs.contents.write_offsets.Goals as goal

pub overflow_add-at : goal.overflow_add-at
overflow_add-at g c =
    let some = c.requires.link in
    let p = placement_of c.args.b.now in
    let fits = ranges_fit some.0 c.args.b.now some.1.planned in
    let rows = rows_fill some.0 c.args.b.now some.1.planned in
    let at = c.file_offset-at.ensures.low p c.deref.ensures.value (omega (arith, fits.offsets_end, c.requires.long)) in
    omega (arith, at, fits.offsets_end, rows, c.requires.long, c.len.ensures, ap length c.deref-2.ensures.value)

pub slice_bounds-write_initializers-end : goal.slice_bounds-write_initializers-end
slice_bounds-write_initializers-end g c =
    let some = c.requires.link in
    let p = placement_of c.args.b.now in
    let fits = ranges_fit some.0 c.args.b.now some.1.planned in
    let rows = rows_fill some.0 c.args.b.now some.1.planned in
    let at = c.file_offset-at.ensures.low p c.deref.ensures.value (omega (arith, fits.offsets_end, c.requires.long)) in
    omega (arith, at, fits.offsets_end, rows, c.requires.long, c.len.ensures, ap length c.deref-2.ensures.value)

pub write_initializers-requires-clause-symbols : goal.write_initializers-requires-clause-symbols
write_initializers-requires-clause-symbols g c =
    let some = c.requires.link in
    subst (All (λ row. g.P.Places.has_symbol c.args.places.now row.file row.relocation.r_symbolnum)) (sym c.deref-2.ensures.value)
    (λ k d lt. c.requires.known _ _ (some.1.planned.known.initializers k d lt))

pub returns-in_err-write_initializers-clause-why : goal.returns-in_err-write_initializers-clause-why
returns-in_err-write_initializers-clause-why g c = λ l h.
    let b = c.args.b.now in
    refused c.from_residual.result (UnwrittenStands l (placement_of b)) (Unmade c.in_err-write_initializers.field-0.0)
    c.from_residual.ensures.1
    (c.in_err-write_initializers.ensures.why l (counts_of b) (placement_of b) (planned_to_make l b h.planned) h.tells
    (c.deref-2.ensures.value ∙ h.planned.read.initializers))

pub returns-clause-done : goal.returns-clause-done
returns-clause-done g c = λ l h.
    let b = c.args.b.now in
    let fits = ranges_fit l b h.planned in
    let at = c.file_offset-at.ensures.low (placement_of b) c.deref.ensures.value (omega (arith, fits.offsets_end, c.requires.long)) in
    offsets_put l b c.file_offset-at.result _ c.write_initializers.new.out c.args.out.now h.planned c.requires.long at
    (omega (arith, c.write_initializers.ensures.length))
    (c.in_ok-write_initializers.ensures.done l (counts_of b) (placement_of b) (planned_to_make l b h.planned) h.tells
    (c.deref-2.ensures.value ∙ h.planned.read.initializers))
