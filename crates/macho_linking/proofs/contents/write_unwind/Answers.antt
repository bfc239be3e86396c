-- The unwind information has room in its range, which ends in the file. So it is put at the front of the range.
use Rattle.std.proofs.Common.{List, refl, sym, subst, ◌∙◌, arith, All}
use Rattle.std.specs.Prelude.{map}
use Rattle.macho_promise_laws.specs.UnwindEntry.{UnwindEntry}
use Rattle.macho_promise_laws.specs.Entries.{resolved_row, MayBeBuilt, KnowsPersonality}
use Rattle.macho_linking.specs.declared.fault.Unwritten.TheVariants.{Unmade}
use Rattle.macho_linking.specs.steps.Planned.{placement_of, counts_of}
use Rattle.macho_linking.specs.steps.Unwritten.{UnwrittenStands}
use Rattle.macho_linking.proofs.Ready.{planned_to_make}
use Rattle.macho_linking.proofs.Filling.{refused}
use Rattle.macho_linking.proofs.Making.{ranges_fit, entries_known, entries_sound, unwind_put}
use Rattle.macho_linking.proofs.contents.write_unwind.Goals as goal

pub unwind_section-requires-clause-symbols : goal.unwind_section-requires-clause-symbols
unwind_section-requires-clause-symbols g c =
    let some = c.requires.link in
    let has_symbol = g.P.Places.has_symbol c.args.places.now in
    subst (All (KnowsPersonality has_symbol)) (sym c.deref-2.ensures.value)
    (entries_known some.0 c.args.b.now has_symbol some.1.planned c.requires.known)

pub unwind_section-requires-clause-sound : goal.unwind_section-requires-clause-sound
unwind_section-requires-clause-sound g c =
    let some = c.requires.link in
    let look = g.P.Places.look c.args.places.now in
    subst (λ (es : List UnwindEntry). MayBeBuilt look.base (map (resolved_row look c.args.b.now.read.now.needs.tables.slots) es))
    (sym c.deref-2.ensures.value) (entries_sound some.0 c.args.b.now look some.1)

pub returns-in_err-section-clause-why : goal.returns-in_err-section-clause-why
returns-in_err-section-clause-why g c = λ l h.
    let b = c.args.b.now in
    refused c.from_residual.result (UnwrittenStands l (placement_of b)) (Unmade c.in_err-section.field-0.0) c.from_residual.ensures.1
    (c.in_err-section.ensures.why l (counts_of b) (placement_of b) (planned_to_make l b h.planned) h.tells h.planned.read.needs.slots
    (c.deref-2.ensures.value ∙ h.planned.read.entries))

pub slice_bounds-write-count : goal.slice_bounds-write-count
slice_bounds-write-count g c =
    let some = c.requires.link in
    let b = c.args.b.now in
    let fits = ranges_fit some.0 b some.1.planned in
    let at = c.file_offset-at.ensures.low (placement_of b) c.deref.ensures.value (omega (arith, fits.unwind_end, c.requires.long)) in
    omega (arith, at, fits.unwind_end, c.requires.long)

pub slice_bounds-write-start : goal.slice_bounds-write-start
slice_bounds-write-start g c =
    let some = c.requires.link in
    let b = c.args.b.now in
    let fits = ranges_fit some.0 b some.1.planned in
    let at = c.file_offset-at.ensures.low (placement_of b) c.deref.ensures.value (omega (arith, fits.unwind_end, c.requires.long)) in
    omega (arith, at, fits.unwind_end, c.requires.long)

pub write-requires : goal.write-requires
write-requires g c =
    let some = c.requires.link in
    let h = some.1.planned in
    let b = c.args.b.now in
    let fits = ranges_fit some.0 b h in
    let at = c.file_offset-at.ensures.low (placement_of b) c.deref.ensures.value (omega (arith, fits.unwind_end, c.requires.long)) in
    let made =
    c.in_ok-section.ensures.done some.0 (counts_of b) (placement_of b) (planned_to_make some.0 b h) some.1.tells h.read.needs.slots
    (c.deref-2.ensures.value ∙ h.read.entries) in
    record { room = omega (arith, at, fits.unwind_end, fits.unwind c.in_ok-section.section made, c.requires.long) }

pub returns-clause-done : goal.returns-clause-done
returns-clause-done g c = λ l h.
    let b = c.args.b.now in
    let fits = ranges_fit l b h.planned in
    let at = c.file_offset-at.ensures.low (placement_of b) c.deref.ensures.value (omega (arith, fits.unwind_end, c.requires.long)) in
    unwind_put l b c.file_offset-at.result _ c.in_ok-section.section c.write.new.out c.args.out.now h.planned c.requires.long at refl
    c.write.ensures
    (c.in_ok-section.ensures.done l (counts_of b) (placement_of b) (planned_to_make l b h.planned) h.tells h.planned.read.needs.slots
    (c.deref-2.ensures.value ∙ h.planned.read.entries))
