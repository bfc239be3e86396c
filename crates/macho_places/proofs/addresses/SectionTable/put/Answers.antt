-- The address of a section is put into the row of its file, or by its key where there is no row for it.
use Rattle.std.proofs.Common.{◌≤◌, ◌⊎◌, inl, inr, length, subst, length-set, arith}
use Rattle.macho_places.specs.Lookups.{rows_of}
use Rattle.macho_places.specs.steps.Puts.{PutsInRow}
use Rattle.macho_places.proofs.Tables.{rows_set, row_at, row_put, other_put}
use Rattle.macho_places.proofs.addresses.SectionTable.put.Goals as goal
use Rattle.macho_places.proofs.addresses.SectionTable.put.Goals.{else-file-len-via-then-file-len+else-section-lt-ROW, else-file-len-via-else-file-len}

pub returns-then-section-lt-ROW : goal.returns-then-section-lt-ROW
returns-then-section-lt-ROW c =
    λ f s.
    let rows = c.args.self.now.rows in
    let row = c.put_in_row.new.row in
    let low = c.if-file-len.true in
    let same = row_at rows.items c.args.file c.index_mut.result.now (omega (arith, low)) c.index_mut.ensures.value in
    row_put (rows_of rows.items) _ row.items _ (length rows.items) c.args.file c.args.section c.args.address f s _
    (length-set rows.items c.args.file row) (omega (arith, low))
    c.if-section-lt-ROW.true (rows_set rows.items c.args.file f row (omega (arith, low)))
    (subst (λ r. PutsInRow r row.items c.args.section c.args.address) same c.in_ok-put_in_row.ensures)

pub returns : goal.returns
returns c =
    λ f s.
    let rows = c.args.self.now.rows in
    let past : (length rows.items ≤ c.args.file) ⊎ (256 ≤ c.args.section) =
    elim c.else-file-len.branch [
      | else-file-len-via-then-file-len+else-section-lt-ROW w ↦ inr (omega (arith, w.if-section-lt-ROW.false))
      | else-file-len-via-else-file-len w ↦ inl (omega (arith, w.if-file-len.false))
    ] in
    other_put (length rows.items) c.args.file c.args.section c.args.address f s _ _ _ past
    (c.in_ok-insert.ensures.updates.0 (record { file = f; section = s }))
