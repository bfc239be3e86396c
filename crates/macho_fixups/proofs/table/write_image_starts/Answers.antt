use Rattle.std.proofs.Common.{ℕ, List, ◌++◌, ◌*◌, length, ◌+◌, arith, ap, ◌∙◌}
use Rattle.std.specs.List.{flat_map}
use Rattle.macho_bytes.specs.Numbers.{le_bytes}
use Rattle.macho_bytes.specs.Texts.{put}
use Rattle.macho_bytes.proofs.Puts.{put-put}
use Rattle.macho_fixups.specs.Tables.{image_starts_size, image_starts_text, offsets_text, segment_text}
use Rattle.macho_fixups.proofs.table.write_image_starts.Goals as goal

pub returns-clause-written : goal.returns-clause-written
unfolding image_starts_size image_starts_text
returns-clause-written c =
    let n = length c.args.segments.now in
    let rest = offsets_text (4 + 4 * n) c.args.fixups.now c.args.segments.now
    ++ flat_map (segment_text c.args.base c.args.fixups.now) c.args.segments.now in
    c.write_segments.ensures.written ∙ ap (λ (o : List ℕ). put (c.args.at + 4) rest o) c.put_little.ensures.written
    ∙ put-put c.args.at (c.args.at + 4) (le_bytes 4 n) rest c.args.out.now (omega (arith, c.put_little.ensures.long))
    (omega (arith, c.write_segments.ensures.long, c.requires.room))
