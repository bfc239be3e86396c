-- The range is written as a whole.
use Rattle.std.proofs.Common.{◌≡◌, ℕ, ◌-◌, length, take, drop, ap, ◌∙◌, arith}
use Rattle.std.specs.Prelude.{replicate}
use Rattle.std.proofs.lemmas.List.{length-take, length-drop}
use Rattle.macho_bytes.specs.Texts.{put}
use Rattle.macho_fixups.specs.Tables.{table_text}
use Rattle.macho_layout.specs.Placements.{placed_of}
use Rattle.macho_contents.proofs.Putting.{table_put}
use Rattle.macho_contents.proofs.table.write_fixup_table.Goals as goal

pub returns : goal.returns
returns c = record {
  kept = tt;
  done =
      table_put (placed_of c.args.placement.now) c.args.run.now c.args.table.now c.deref.result.now c.deref-2.result.now
      c.deref-3.result.now
      c.args.out.now c.write_chained_fixup_table.new.out c.requires.fits
      (record {
        segments_are = c.deref.ensures.value ∙ c.in_ok-segments.ensures;
        entries_are = c.deref-2.ensures.value;
        names_are = c.deref-3.ensures.value;
        written =
            c.write_chained_fixup_table.ensures.written
            ∙ ap (λ (n : ℕ). put 0 (table_text c.args.placement.now.base c.args.run.now c.deref.result.now c.args.table.now.format
            c.deref-2.result.now c.deref-3.result.now) (replicate n 0)) part;
        long = omega (arith, c.write_chained_fixup_table.ensures.long, part);
        reads = c.write_chained_fixup_table.ensures.read;
      });
}
  where
    start : ℕ
    start = c.args.placement.now.linkedit.fixups.start

    size : ℕ
    size = c.args.placement.now.linkedit.fixups.end - c.args.placement.now.linkedit.fixups.start

    part : length (take size (drop start c.args.out.now)) ≡ size
    part =
        omega (
          arith,
          length-take size (drop start c.args.out.now),
          length-drop start c.args.out.now,
          c.requires.fits.inside,
          c.requires.fits.room,
        )
