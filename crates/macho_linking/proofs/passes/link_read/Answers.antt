-- What is made is answered, and its refusal is the link's.
use Rattle.macho_linking.proofs.Closing.{fine_link, refused_with}
use Rattle.macho_linking.proofs.passes.link_read.Goals as goal

pub returns-in_err-made-clause-why : goal.returns-in_err-made-clause-why
returns-in_err-made-clause-why c =
    refused_with c.args.viewed.now.linker.now c.from_residual.result c.in_err-made.field-0.0
    (fine_link c.args.viewed.now.linker.now c.requires.held c.requires.bytes) c.from_residual.ensures.1 c.in_err-made.ensures.why

pub returns-clause-done : goal.returns-clause-done
returns-clause-done c =
    let l = c.args.viewed.now.linker.now in
    c.answer.ensures l c.args.uuid (record {
      made = c.in_ok-made.ensures.done;
      read_is = c.requires.read_is.read_is.0;
      libraries_are = c.requires.read_is.libraries_are;
      single = c.requires.single;
      name = c.requires.held.names;
    }) c.in_ok-made.ensures.told
