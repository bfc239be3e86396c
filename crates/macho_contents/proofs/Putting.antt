-- The table, and zeros behind it, are put into the range.
use Rattle.std.proofs.Common.{◌≡◌, ℕ, ◌≤◌, List, length, sym, ap, subst, ◌∙◌, arith}
use Rattle.std.specs.Prelude.{replicate}
use borrow.Rule.Slice.PartMut.{put_mid}
use Rattle.std.proofs.lemmas.List.{length-replicate}
use Rattle.macho_bytes.specs.Texts.{put}
use Rattle.macho_bytes.proofs.Puts.{length-put}
use Rattle.macho_bytes.proofs.Writes.{put_mid-whole}
use Rattle.macho_model.specs.Placement.{Placed}
use Rattle.macho_model.specs.Head.{range_size}
use Rattle.macho_fixups.specs.declared.run.Fixup.{Fixup}
use Rattle.macho_fixups.specs.declared.run.FixupSegment.{FixupSegment}
use Rattle.macho_fixups.specs.declared.imports.ImportEntry.{ImportEntry}
use Rattle.macho_fixups.specs.Tables.{table_text}
use Rattle.macho_fixups.specs.Readings.{TableReadsBack}
use Rattle.macho_promise.specs.FixupsSay.{fixup_segments}
use Rattle.macho_linkedit.specs.declared.imports.ImportTable.{ImportTable}
use Rattle.macho_contents.specs.Writing.{FitsRange, text_of_table, text_of_range, TableIsPut}

-- What the writer of a table hands on, of a part of a file.
pub record IsTableIn (p : Placed) (run : List Fixup) (t : ImportTable) (segments : List FixupSegment) (entries : List ImportEntry)
    (names part : List ℕ) : Type 0 where
  pub segments_are : segments ≡ fixup_segments p
  pub entries_are : entries ≡ t.entries.items
  pub names_are : names ≡ t.names.items
  pub written : part ≡ put 0 (table_text p.base run segments t.format entries names) (replicate (range_size p.linkedit.fixups) 0)
  pub long : length (table_text p.base run segments t.format entries names) ≤ range_size p.linkedit.fixups
  pub reads : TableReadsBack p.base run segments t.format entries names

pub table_put : (p : Placed) (run : List Fixup) (t : ImportTable) (segments : List FixupSegment) (entries : List ImportEntry)
    (names out part : List ℕ)
    → FitsRange p run t (length out) → IsTableIn p run t segments entries names part
    → TableIsPut p run t out (put_mid p.linkedit.fixups.start (range_size p.linkedit.fixups) out part)
unfolding text_of_range
table_put p run t segments entries names out part fits is = record {
  put_is =
      put_mid-whole p.linkedit.fixups.start (range_size p.linkedit.fixups) out (text_of_range p run t) part (sym whole)
      (omega (arith, whole, fits.room, fits.inside))
      (is.written ∙ ap (λ (text : List ℕ). put 0 text zeros) same);
  long = whole;
  within = within;
  reads =
      subst (λ (ns : List ℕ). TableReadsBack p.base run (fixup_segments p) t.format t.entries.items ns) is.names_are
      (subst (λ (es : List ImportEntry). TableReadsBack p.base run (fixup_segments p) t.format es names) is.entries_are
      (subst (λ (ss : List FixupSegment). TableReadsBack p.base run ss t.format entries names) is.segments_are is.reads));
}
  where
    zeros : List ℕ
    zeros = replicate (range_size p.linkedit.fixups) 0

    same : table_text p.base run segments t.format entries names ≡ text_of_table p run t
    same =
        ap (λ (ss : List FixupSegment). table_text p.base run ss t.format entries names) is.segments_are
        ∙ ap (λ (es : List ImportEntry). table_text p.base run (fixup_segments p) t.format es names) is.entries_are
        ∙ ap (λ (ns : List ℕ). table_text p.base run (fixup_segments p) t.format t.entries.items ns) is.names_are

    within : length (text_of_table p run t) ≤ range_size p.linkedit.fixups
    within = omega (arith, is.long, ap (λ (text : List ℕ). length text) same)

    whole : length (text_of_range p run t) ≡ range_size p.linkedit.fixups
    whole =
        omega (
          arith,
          length-put 0 (text_of_table p run t) zeros (omega (arith, within, length-replicate {A = ℕ} (range_size p.linkedit.fixups) 0)),
          length-replicate {A = ℕ} (range_size p.linkedit.fixups) 0,
        )
