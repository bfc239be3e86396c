-- The placement of rows, with the tables behind them.
--
-- The numbers of the placed output sections are those of the cells. The tables end below 2^64, since what they cost is below the sum.
-- Each part of the placement is what its call answers.
use Rattle.std.proofs.Common.{◌≡◌, ℕ, ◌+◌, ◌-◌, ◌*◌, ◌^◌, ◌<◌, [], ◌∷◌, ◌++◌, List, Bool, All, length, refl, sym, ap, ◌∙◌, subst, arith}
use Rattle.macho_model.specs.declared.placed.PlacedSegment.{PlacedSegment}
use Rattle.macho_stack.specs.declared.place.PlacedCell.{PlacedCell}
use Rattle.macho_layout.specs.Names.{mapped_names}
use Rattle.macho_bytes.specs.Numbers.{rounded_up}
use Rattle.macho_model.specs.declared.placed.Linkedit.{Linkedit}
use Rattle.macho_model.specs.Segments.{SEGMENT_PAGE, LINKEDIT, one_if, list_if}
use Rattle.std.proofs.lemmas.List.{length-map}
use Rattle.macho_stack.specs.Ranks.{HasStarts}
use Rattle.macho_layout.specs.declared.spec.CommonSpec.{CommonSpec}
use Rattle.macho_layout.specs.declared.spec.Planned.{Planned}
use Rattle.macho_layout.specs.Keys.{padded, specs_of}
use Rattle.macho_layout.specs.Plans.{Planning, MayStand}
use Rattle.macho_layout.specs.Laid.{made_start, zero_page, tables_segment}
use Rattle.macho_layout.proofs.Tests.{one_is}
use Rattle.macho_layout.specs.Places.{row_pages, number_at, range_at, template_range, placed_commons, placed_slots, placed_stubs}
use Rattle.macho_stack.specs.Tables.{tables_cost, tables_at}
use Rattle.macho_layout.proofs.Costs.{members-cost-is}
use Rattle.macho_layout.proofs.Rooms.{placed_numbered}
use Rattle.macho_stack.proofs.RowSteps.{paged, paged-near}
use Rattle.macho_layout.proofs.TableRooms.{tables_room, tables_end_low, rows_many}
use Rattle.macho_layout.proofs.plan.Plan.placement.Goals as goal

pub starts-requires : goal.starts-requires
starts-requires c =
    let many : c.len-merged.result ≡ length c.args.stacked.now.extents.items = omega
    (arith, c.len-merged.ensures, c.args.stacked.now.extents.ok.0) in
    subst (λ (n : ℕ). All (λ (q : PlacedCell). q.cell.number < n + 4) c.deref.result.now) (sym many)
    (subst (λ (qs : List PlacedCell). All (λ (q : PlacedCell). q.cell.number < length c.args.stacked.now.extents.items + 4) qs)
    (sym c.deref.ensures.value)
    (placed_numbered c.args.self.now c.args.counts.now (mapped_names c.args.self.now) c.args.stacked.now.extents.items
    c.args.rows.placed.items _ c.requires.rows.same))

pub pointer_pages-requires : goal.pointer_pages-requires
pointer_pages-requires c =
    let many = rows_many _ _ _ _ _ c.args.rows.segments.items c.args.rows.placed.items c.args.rows.address c.args.rows.offset
    c.requires.rows in
    let same = ap (λ (ss : List PlacedSegment). length ss) c.deref-2.ensures.value in
    omega (arith, many, same, c.requires.fits.segments)

pub tables-linkedit-requires : goal.tables-linkedit-requires
tables-linkedit-requires c =
    let room = tables_room c.args.self.now c.args.counts.now c.args.stacked.now.extents.items c.args.rows.segments.items
    c.args.rows.placed.items c.args.rows.address c.args.rows.offset
    c.requires.fits (omega (arith, c.requires.stacked.within, members-cost-is c.args.self.now)) c.requires.rows in
    let pages : c.pointer_pages.result ≡ row_pages c.args.rows.segments.items = c.pointer_pages.ensures
    ∙ ap row_pages c.deref-2.ensures.value in
    subst (λ (n : ℕ). tables_cost c.args.counts.now c.args.rows.offset n < 2 ^ 64) (sym pages) (omega (arith, room))

pub tables_segment-last-requires-clause-ordered : goal.tables_segment-last-requires-clause-ordered
tables_segment-last-requires-clause-ordered c =
    let end : c.tables-linkedit.result.signature.end ≡ (tables_at c.args.counts.now c.args.rows.offset c.pointer_pages.result).signature.end
    = ap (λ (t : Linkedit). t.signature.end) c.tables-linkedit.ensures in
    omega (arith, end, (tables_end_low c.args.counts.now c.args.rows.offset c.pointer_pages.result).0)

pub tables_segment-last-requires-clause-room : goal.tables_segment-last-requires-clause-room
tables_segment-last-requires-clause-room c =
    let room = tables_room c.args.self.now c.args.counts.now c.args.stacked.now.extents.items c.args.rows.segments.items
    c.args.rows.placed.items c.args.rows.address c.args.rows.offset
    c.requires.fits (omega (arith, c.requires.stacked.within, members-cost-is c.args.self.now)) c.requires.rows in
    let pages : c.pointer_pages.result ≡ row_pages c.args.rows.segments.items = c.pointer_pages.ensures
    ∙ ap row_pages c.deref-2.ensures.value in
    let end : c.tables-linkedit.result.signature.end ≡ (tables_at c.args.counts.now c.args.rows.offset c.pointer_pages.result).signature.end
    = ap (λ (t : Linkedit). t.signature.end) c.tables-linkedit.ensures in
    let low = tables_end_low c.args.counts.now c.args.rows.offset c.pointer_pages.result in
    let cost = ap (λ (n : ℕ). tables_cost c.args.counts.now c.args.rows.offset n) pages in
    omega (arith, room, end, low.1, cost)

pub returns : goal.returns
returns c =
    let p = c.args.self.now in
    let merged : c.len-merged.result ≡ length c.args.stacked.now.extents.items = omega
    (arith, c.len-merged.ensures, c.args.stacked.now.extents.ok.0) in
    let executable : c.self.inside.executable ≡ (c.args.self.now).executable = ap (λ (p : Planning). p.executable) c.self.view_is in
    let before : c.from-before.result ≡ one_if (c.args.self.now).executable = c.from-before.ensures ∙ one_is c.self.inside.executable ∙ ap
    (λ (b : Bool). one_if b) executable in
    let inside : c.len-count.result ≡ length (specs_of c.self.inside.sections.items)
    = omega (arith, c.len-count.ensures, c.self.inside.sections.ok.0, length-map c.self.inside.sections.items (λ (s : Planned). s.spec)) in
    let many : c.len-count.result ≡ length (c.args.self.now).sections = inside ∙ ap (λ (p : Planning). length p.sections) c.self.view_is in
    let first : c.start_of-init_offsets.result ≡ made_start c.args.stacked.now.extents.items c.in_ok-starts.starts.items 0
    = c.start_of-init_offsets.ensures ∙ ap (λ (xs : List ℕ). number_at xs (c.len-merged.result + 0)) c.deref-3.ensures.value
    ∙ ap (λ (n : ℕ). number_at c.in_ok-starts.starts.items (n + 0)) merged in
    let second : c.start_of-unwind.result ≡ made_start c.args.stacked.now.extents.items c.in_ok-starts.starts.items 1
    = c.start_of-unwind.ensures ∙ ap (λ (xs : List ℕ). number_at xs (c.len-merged.result + 1)) c.deref-4.ensures.value
    ∙ ap (λ (n : ℕ). number_at c.in_ok-starts.starts.items (n + 1)) merged in
    let third : c.start_of-stubs.result ≡ made_start c.args.stacked.now.extents.items c.in_ok-starts.starts.items 2
    = c.start_of-stubs.ensures ∙ ap (λ (xs : List ℕ). number_at xs (c.len-merged.result + 2)) c.deref-5.ensures.value
    ∙ ap (λ (n : ℕ). number_at c.in_ok-starts.starts.items (n + 2)) merged in
    let fourth : c.start_of-slots.result ≡ made_start c.args.stacked.now.extents.items c.in_ok-starts.starts.items 3
    = c.start_of-slots.ensures ∙ ap (λ (xs : List ℕ). number_at xs (c.len-merged.result + 3)) c.deref-6.ensures.value
    ∙ ap (λ (n : ℕ). number_at c.in_ok-starts.starts.items (n + 3)) merged in
    let pages : c.pointer_pages.result ≡ row_pages c.args.rows.segments.items = c.pointer_pages.ensures
    ∙ ap row_pages c.deref-2.ensures.value in
    let tables : c.tables-linkedit.result ≡ tables_at c.args.counts.now c.args.rows.offset (row_pages c.args.rows.segments.items)
    = c.tables-linkedit.ensures ∙ ap (λ (n : ℕ). tables_at c.args.counts.now c.args.rows.offset n) pages in
    let last : c.tables_segment-last.result ≡ tables_segment c.args.rows.address c.args.rows.offset
    (tables_at c.args.counts.now c.args.rows.offset (row_pages c.args.rows.segments.items))
    = c.tables_segment-last.ensures ∙ ap (λ (t : Linkedit). tables_segment c.args.rows.address c.args.rows.offset t) tables in
    record {
      planned = c.self.inside.sections.items;
      extents = c.args.stacked.now.extents.items;
      members = c.args.stacked.now.placed.items;
      segments = c.args.rows.segments.items;
      cells = c.args.rows.placed.items;
      starts = c.in_ok-starts.starts.items;
      address = c.args.rows.address;
      offset = c.args.rows.offset;
      planned_are = ap (λ (p : Planning). p.sections) c.self.view_is;
      stacked = c.requires.stacked;
      rows = c.requires.rows;
      have = subst (λ (n : ℕ). HasStarts n c.args.rows.placed.items c.in_ok-starts.starts.items) (ap (λ (n : ℕ). n + 4) merged)
          (subst (λ (qs : List PlacedCell). HasStarts (c.len-merged.result + 4) qs c.in_ok-starts.starts.items) c.deref.ensures.value
          c.in_ok-starts.ensures);
      from_them = record {
        base = c.base.ensures;
        segments = c.in_ok-all_segments.ensures
            ∙ ap (λ (b : Bool). list_if b (zero_page ∷ []) ++ c.deref-17.result.now ++ c.tables_segment-last.result ∷ []) executable
            ∙ ap (λ (ss : List PlacedSegment). list_if (c.args.self.now).executable (zero_page ∷ []) ++ ss
            ++ c.tables_segment-last.result ∷ []) c.deref-17.ensures.value
            ∙ ap (λ (t : PlacedSegment). list_if (c.args.self.now).executable (zero_page ∷ []) ++ c.args.rows.segments.items
            ++ t ∷ []) last;
        sections = rw (
          c.in_ok-placed_sections.ensures,
          c.deref-7.ensures.value,
          c.deref-members.ensures.value,
          c.deref-8.ensures.value,
          c.requires.names,
          before,
        ) refl;
        commons = rw (c.in_ok-placed_commons.ensures, c.deref-9.ensures.value, c.deref-members.ensures.value, c.deref-10.ensures.value) (
            ap (λ (n : ℕ). placed_commons n c.args.stacked.now.placed.items c.in_ok-starts.starts.items c.self.inside.commons.items) many
            ∙ ap (λ (cs : List CommonSpec). placed_commons (length (c.args.self.now).sections) c.args.stacked.now.placed.items
            c.in_ok-starts.starts.items cs) (ap (λ (p : Planning). p.commons) c.self.view_is));
        slots = rw (c.in_ok-placed_slots.ensures, c.deref-11.ensures.value) (ap (λ (n : ℕ). placed_slots n c.self.inside.slots.items) fourth
            ∙ ap (λ (p : Planning). placed_slots (made_start c.args.stacked.now.extents.items c.in_ok-starts.starts.items 3) p.slots)
            c.self.view_is);
        stubs = rw (c.in_ok-placed_stubs.ensures, c.deref-12.ensures.value) (ap (λ (n : ℕ). placed_stubs n c.self.inside.stubs.items) third
            ∙ ap (λ (p : Planning). placed_stubs (made_start c.args.stacked.now.extents.items c.in_ok-starts.starts.items 2) p.stubs)
            c.self.view_is);
        output_sections = rw (c.in_ok-headers.ensures, c.deref-13.ensures.value, c.deref-14.ensures.value, c.deref-15.ensures.value) refl;
        init_offsets = c.range_at.ensures ∙ ap (λ (n : ℕ). range_at n (4 * c.args.counts.now.initializers)) first;
        unwind = c.range_at-2.ensures ∙ ap (λ (n : ℕ). range_at n c.args.counts.now.unwind) second;
        template = c.template_range.ensures ∙ ap template_range c.deref-16.ensures.value;
        linkedit = tables;
      };
      places = subst (λ (p : Planning). All MayStand p.sections) c.self.view_is c.self.invariant.1.places;
    }
