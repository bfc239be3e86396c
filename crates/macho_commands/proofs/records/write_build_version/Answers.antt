use Rattle.std.proofs.Common.{arith, ap, sym, ◌∙◌, ◌+◌, ◌++◌, List, ℕ}
use Rattle.std.proofs.lemmas.List.{append-nil}
use Rattle.macho_bytes.specs.Texts.{put}
use Rattle.macho_bytes.proofs.Puts.{put-put}
use Rattle.macho_wire.specs.declared.commands.BuildVersionCommand.{BuildVersionCommand}
use Rattle.macho_wire.specs.declared.commands.BuildToolVersion.{BuildToolVersion}
use Rattle.macho_records.specs.declared.constants.TheConstants.{LC_BUILD_VERSION}
use Rattle.macho_model.specs.HeadCommands.{PLATFORM_MACOS, THIS_TOOL, THIS_VERSION}
use Rattle.macho_commands.specs.Texts.{text_said}
use Rattle.macho_commands.proofs.records.write_build_version.Goals as goal
use Rattle.macho_bytes.specs.Spellings.{spelling}
use Rattle.macho_wire.specs.Spellings.{build_version_command_rows, build_tool_version_rows}

pub returns-clause-written : goal.returns-clause-written
unfolding text_said
returns-clause-written c =
    let r : BuildVersionCommand = record {
      cmd = LC_BUILD_VERSION;
      cmdsize = 32;
      platform = PLATFORM_MACOS;
      minos = c.args.minimum;
      sdk = c.args.sdk;
      ntools = 1;
    } in
    let tool : BuildToolVersion = record { tool = THIS_TOOL; version = THIS_VERSION } in
    c.write-2.ensures.written
    ∙ ap (put (c.args.at + 24) (spelling build_tool_version_rows tool)) c.write.ensures.written
    ∙ put-put c.args.at (c.args.at + 24) (spelling build_version_command_rows r) (spelling build_tool_version_rows tool) c.args.out.now
    (omega (arith, c.write.ensures.back.long)) (omega (arith, c.write-2.ensures.back.long, c.requires))
    ∙ ap (λ (t : List ℕ). put c.args.at (spelling build_version_command_rows r ++ t) c.args.out.now)
    (sym (append-nil (spelling build_tool_version_rows tool)))
