-- The segments with their output sections: what they need is below the sum.
use Rattle.std.proofs.Common.{◌≤◌, List, All, length, sum_by, sym, ap, ◌∙◌, subst, arith}
use Rattle.macho_records.specs.declared.segments.SegmentName.{SegmentName}
use Rattle.macho_stack.specs.declared.members.Extent.{Extent}
use Rattle.macho_stack.specs.declared.place.Cell.{Cell}
use Rattle.macho_stack.specs.Ranks.{cell_cost}
use Rattle.macho_layout.specs.declared.spec.SectionSpec.{SectionSpec}
use Rattle.macho_layout.specs.declared.spec.CommonSpec.{CommonSpec}
use Rattle.macho_layout.specs.Plans.{Planning}
use Rattle.macho_layout.specs.Members.{members_of, first_flags}
use Rattle.macho_layout.specs.Cells.{cells_of}
use Rattle.macho_layout.proofs.Costs.{members-cost-is}
use Rattle.macho_layout.proofs.Rooms.{members_small, flags_many, extents_small, cells_small}
use Rattle.macho_layout.proofs.TableRooms.{rows_room}
use Rattle.macho_layout.proofs.plan.Plan.rows.Goals as goal

pub cells-requires-clause-many : goal.cells-requires-clause-many
cells-requires-clause-many c =
    omega (
      arith,
      ap (λ (es : List Extent). length es) c.deref.ensures.value,
      c.requires.stacked.many,
      flags_many c.args.self.now,
      c.requires.fits.sections,
    )

pub place_rows-requires-clause-small : goal.place_rows-requires-clause-small
place_rows-requires-clause-small c =
    let sections = subst (λ (p : Planning). All (λ (s : SectionSpec). s.align ≤ 14) p.sections) c.self.view_is
    c.self.invariant.1.sections_small in
    let commons = subst (λ (p : Planning). All (λ (x : CommonSpec). x.align ≤ 14) p.commons) c.self.view_is
    c.self.invariant.1.commons_small in
    let small = members_small c.args.self.now sections commons in
    let extents = c.args.stacked.now.extents.items in
    subst (λ (cs : List Cell). All (λ (x : Cell). x.exponent ≤ 14) cs) (sym (c.deref-2.ensures.value ∙ c.in_ok-cells.ensures))
    (subst (λ (es : List Extent). All (λ (x : Cell). x.exponent ≤ 14) (cells_of c.args.self.now c.args.counts.now c.args.names.now es))
    (sym c.deref.ensures.value)
    (cells_small c.args.self.now c.args.counts.now c.args.names.now c.args.stacked.now.extents.items
    (λ n low. extents_small (first_flags c.args.self.now) (members_of c.args.self.now) c.args.stacked.now.extents.items
    c.args.stacked.now.placed.items n c.requires.stacked small (omega (arith, c.requires.stacked.many)))))

pub place_rows-requires-clause-room : goal.place_rows-requires-clause-room
place_rows-requires-clause-room c =
    let same = ap (sum_by cell_cost) (c.deref-2.ensures.value ∙ c.in_ok-cells.ensures
    ∙ ap (λ (es : List Extent). cells_of c.args.self.now c.args.counts.now c.args.names.now es) c.deref.ensures.value
    ∙ ap (λ (ns : List SegmentName). cells_of c.args.self.now c.args.counts.now ns c.args.stacked.now.extents.items) c.requires.names) in
    let names = ap (λ (ns : List SegmentName). length ns) c.requires.names in
    let room = rows_room c.args.self.now c.args.counts.now c.args.stacked.now.extents.items c.requires.fits
    (omega (arith, c.requires.stacked.within, members-cost-is c.args.self.now)) in
    omega (arith, same, names, room, c.base-base.ensures, c.head_size-head.ensures)
