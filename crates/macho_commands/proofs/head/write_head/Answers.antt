use Rattle.std.proofs.Common.{ap, subst, ◌∙◌}
use Rattle.macho_bytes.specs.Texts.{put}
use Rattle.macho_records.specs.declared.header.MachHeader.{MachHeader}
use Rattle.macho_commands.proofs.HeadTexts.{head_put, length-head, head_readable}
use Rattle.macho_commands.proofs.head.write_head.Goals as goal
use Rattle.macho_bytes.specs.Spellings.{spelling, ReadsBack}
use Rattle.macho_records.specs.Spellings.{mach_header_rows}

pub returns-clause-done : goal.returns-clause-done
returns-clause-done c =
    head_put c.args.kind c.args.commands.now c.args.out.now c.write.new.out c.write_commands.new.out
    (subst (ReadsBack mach_header_rows) c.header_for-header.ensures c.write.ensures.back) c.write_commands.ensures.long c.requires.room
    (c.write.ensures.written ∙ ap (λ (h : MachHeader). put 0 (spelling mach_header_rows h) c.args.out.now) c.header_for-header.ensures)
    c.write_commands.ensures.written

pub returns-clause-length : goal.returns-clause-length
returns-clause-length c =
    length-head c.args.kind c.args.commands.now (subst (ReadsBack mach_header_rows) c.header_for-header.ensures c.write.ensures.back)
    c.write_commands.ensures.long

pub returns-clause-found : goal.returns-clause-found
returns-clause-found c =
    head_readable c.args.kind c.args.commands.now (subst (ReadsBack mach_header_rows) c.header_for-header.ensures c.write.ensures.back)
    c.write_commands.ensures.readable
