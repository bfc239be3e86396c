-- The bytes that the file has of a part of memory.
--
-- The file has the segment's file bytes. A byte of the part lies in the segment as far behind its start as the part does and the byte's
-- number more; there the segment has one byte, which is that of the list.
use Rattle.std.proofs.Common.{◌+◌, ◌-◌, sym, ◌∙◌, arith}
use Rattle.macho_image_rules.proofs.Mapped.{mapped_inside, byte_is_one}
use Rattle.macho_image_rules.proofs.bytes.filed_bytes.Goals as goal

pub cut-requires : goal.cut-requires
cut-requires c = record {
  inside = λ some. mapped_inside c.args.image.now c.args.segment c.requires.accepted (c.requires.mapped some);
}

pub returns-clause-only : goal.returns-clause-only
returns-clause-only c = λ i v low byte.
    byte_is_one c.args.image.now c.args.segment (c.args.address + i) (c.args.address - c.args.segment.address + i) v c.requires.accepted
    (c.requires.mapped (omega (arith, low)))
    (omega (arith, c.requires.from)) (omega (arith, low, c.requires.from, c.requires.to)) byte
    ∙ sym (c.cut.ensures.each i low)
