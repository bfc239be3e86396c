-- What is read of a viewed link is handed on, and its refusal is the link's.
use Rattle.std.proofs.Common.{sym}
use Rattle.macho_answer.specs.declared.fault.LinkError.TheVariants as error
use Rattle.macho_refusal_laws.proofs.Inputs.{inputs_are_read, inputs_are_plain}
use Rattle.macho_linking.proofs.Given.{views_few}
use Rattle.macho_linking.proofs.Closing.{fine_link, refused_with}
use Rattle.macho_linking.proofs.passes.link_viewed.Goals as goal

pub returns-in_err-read-clause-why : goal.returns-in_err-read-clause-why
returns-in_err-read-clause-why c =
    refused_with c.args.viewed.now.linker.now c.from_residual.result c.in_err-read.field-0.0
    (fine_link c.args.viewed.now.linker.now c.requires.held c.requires.bytes) c.from_residual.ensures.1 c.in_err-read.ensures.why

pub returns-in_err-libraries-clause-why : goal.returns-in_err-libraries-clause-why
returns-in_err-libraries-clause-why c =
    refused_with c.args.viewed.now.linker.now c.from_residual-in_err-libraries.result error.OutOfMemory
    (fine_link c.args.viewed.now.linker.now c.requires.held c.requires.bytes) c.from_residual-in_err-libraries.ensures.1 (λ counts are. tt)

pub link_read-requires-clause-read_is : goal.link_read-requires-clause-read_is
link_read-requires-clause-read_is c =
    let l = c.args.viewed.now.linker.now in
    record {
      views_are = (c.requires.views.0, c.requires.views.1, views_few l c.args.viewed.now.views.now c.requires.held c.requires.views.0);
      objects_are = c.requires.objects;
      lists_are = c.requires.lists;
      read_is = (c.in_ok-read.ensures.done, c.in_ok-read.ensures.known);
      libraries_are = c.in_ok-libraries.ensures l (sym c.dead_strip_dylibs.ensures) c.in_ok-read.ensures.done.resolved;
      rules = (inputs_are_read l c.requires.held.inputs, inputs_are_plain l c.requires.held.inputs);
    }
