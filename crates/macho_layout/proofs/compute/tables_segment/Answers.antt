-- The segment of the tables: its size is that of the tables, rounded up to pages. It fits, since the tables end a page below 2^64.
use Rattle.std.proofs.Common.{◌≡◌, ◌-◌, ℕ, ap, ◌∙◌, arith}
use Rattle.macho_model.specs.declared.placed.PlacedSegment.{PlacedSegment}
use Rattle.macho_model.specs.Segments.{LINKEDIT}
use Rattle.macho_layout.specs.Keys.{padded}
use Rattle.macho_stack.proofs.RowSteps.{paged, paged-near}
use Rattle.macho_layout.proofs.compute.tables_segment.Goals as goal

pub next_multiple_of-requires-clause-fits : goal.next_multiple_of-requires-clause-fits
next_multiple_of-requires-clause-fits c =
    omega (
      arith,
      c.requires.room,
      paged (c.args.tables.now.signature.end - c.args.offset),
      paged-near
          (c.args.tables.now.signature.end - c.args.offset),
    )

pub returns : goal.returns
returns c =
    let sized : ℕ → PlacedSegment = λ n. record {
      name = padded LINKEDIT;
      address = c.args.address;
      size = n;
      file_offset = c.args.offset;
      file_size = c.args.tables.now.signature.end - c.args.offset;
    } in
    ap sized (c.next_multiple_of.ensures.value ∙ paged (c.args.tables.now.signature.end - c.args.offset))
