use Rattle.std.proofs.Common.{refl, ap, ◌∙◌, arith}
use Rattle.macho_model.specs.Faults.{last_part}
use Rattle.macho_linking.proofs.Signed.{signer_of, says_of, signature_owed, signature_put}
use Rattle.macho_linking.proofs.sealing.sign.Goals as goal

pub sign_file-requires-clause-limit : goal.sign_file-requires-clause-limit
sign_file-requires-clause-limit c =
    let signer = signer_of c.last_part.result c.text_size.result c.is_executable.result in
    let says = says_of c.args.b.now signer c.deref.result.now
    (c.last_part.ensures ∙ ap last_part c.output.ensures) c.is_executable.ensures refl c.deref.ensures.value
    c.text_size.ensures in
    (signature_owed c.requires.link.0 c.args.b.now signer c.requires.link.1 says).limit

pub sign_file-requires-clause-small : goal.sign_file-requires-clause-small
sign_file-requires-clause-small c =
    let signer = signer_of c.last_part.result c.text_size.result c.is_executable.result in
    let says = says_of c.args.b.now signer c.deref.result.now
    (c.last_part.ensures ∙ ap last_part c.output.ensures) c.is_executable.ensures refl c.deref.ensures.value
    c.text_size.ensures in
    (signature_owed c.requires.link.0 c.args.b.now signer c.requires.link.1 says).small

pub sign_file-requires-clause-room : goal.sign_file-requires-clause-room
sign_file-requires-clause-room c =
    let signer = signer_of c.last_part.result c.text_size.result c.is_executable.result in
    let says = says_of c.args.b.now signer c.deref.result.now
    (c.last_part.ensures ∙ ap last_part c.output.ensures) c.is_executable.ensures refl c.deref.ensures.value
    c.text_size.ensures in
    let owed = signature_owed c.requires.link.0 c.args.b.now signer c.requires.link.1 says in
    omega (arith, owed.ends, c.requires.long)

pub returns : goal.returns
returns c l planned =
    let signer = signer_of c.last_part.result c.text_size.result c.is_executable.result in
    let says = says_of c.args.b.now signer c.deref.result.now
    (c.last_part.ensures ∙ ap last_part c.output.ensures) c.is_executable.ensures refl c.deref.ensures.value
    c.text_size.ensures in
    signature_put l c.args.b.now signer c.args.out.now c.sign_file.new.file planned says c.requires.long c.sign_file.ensures.done
