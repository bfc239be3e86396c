-- The command is written, and the section headers behind it: two texts side by side are one. The name in the record is
-- that of the segment.
use Rattle.std.proofs.Common.{arith, refl, ap, subst, ◌∙◌, ◌≡◌, ◌++◌, ◌+◌, List, ℕ, length}
use Rattle.std.specs.List.{flat_map}
use Rattle.macho_bytes.specs.Texts.{put}
use Rattle.std.proofs.lemmas.List.{length-append}
use Rattle.macho_bytes.proofs.Puts.{put-put}
use Rattle.macho_records.specs.declared.header.SegmentCommand.{SegmentCommand}
use Rattle.macho_commands.proofs.Readable.{no_header, segment_readable}
use Rattle.macho_commands.specs.Commands.{segment_record}
use Rattle.macho_commands.specs.Texts.{text_said}
use Rattle.macho_commands.proofs.segment.write_segment.Goals as goal
use Rattle.macho_bytes.specs.Spellings.{spelling, ReadsBack}
use Rattle.macho_records.specs.Spellings.{segment_command_rows, section_header_rows}

pub returns-clause-written : goal.returns-clause-written
unfolding text_said
returns-clause-written c =
    let told : List ℕ → SegmentCommand =
    λ name. record (segment_record c.args.segment.now c.args.protection c.args.flags (length c.args.headers.now)) { segname = name } in
    let front = spelling segment_command_rows (told c.into_bytes.result) in
    let behind = flat_map (spelling section_header_rows) c.args.headers.now in
    subst (λ (name : List ℕ). c.write_headers.new.out ≡ put c.args.at (spelling segment_command_rows (told name) ++ behind) c.args.out.now)
    c.into_bytes.ensures
    (c.write_headers.ensures.written
    ∙ ap (λ (o : List ℕ). put (c.args.at + 72) behind o) c.write.ensures.written
    ∙ put-put c.args.at (c.args.at + 72) front behind c.args.out.now (omega (arith, c.write.ensures.back.long))
    (omega (arith, c.write_headers.ensures.long)))

pub returns-clause-long : goal.returns-clause-long
unfolding text_said
returns-clause-long c =
    let told : List ℕ → SegmentCommand =
    λ name. record (segment_record c.args.segment.now c.args.protection c.args.flags (length c.args.headers.now)) { segname = name } in
    let back : ReadsBack segment_command_rows (told c.args.segment.now.name.0) =
    subst (λ (name : List ℕ). ReadsBack segment_command_rows (told name)) c.into_bytes.ensures c.write.ensures.back in
    length-append (spelling segment_command_rows (told c.args.segment.now.name.0))
    (flat_map (spelling section_header_rows) c.args.headers.now)
    ∙ ap (λ (n : ℕ). n + length (flat_map (spelling section_header_rows) c.args.headers.now)) back.long
    ∙ ap (λ (n : ℕ). 72 + n) c.write_headers.ensures.long

pub returns-clause-readable : goal.returns-clause-readable
returns-clause-readable c =
    let told : List ℕ → SegmentCommand =
    λ name. record (segment_record c.args.segment.now c.args.protection c.args.flags (length c.args.headers.now)) { segname = name } in
    segment_readable (told c.args.segment.now.name.0) c.args.headers.now no_header refl refl
    (subst (λ (name : List ℕ). ReadsBack segment_command_rows (told name)) c.into_bytes.ensures c.write.ensures.back)
    c.write_headers.ensures.back
