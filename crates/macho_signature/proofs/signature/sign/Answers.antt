use Rattle.std.proofs.Common.{arith, refl, length, ap, subst, ◌∙◌}
use Rattle.macho_bytes.specs.Texts.{put}
use Rattle.macho_wire.specs.declared.signature.CodeDirectory.{CodeDirectory}
use Rattle.macho_signature.proofs.Texts.{signature_put, length-signature}
use Rattle.macho_signature.specs.Pages.{digests_of}
use Rattle.macho_signature.specs.Sizes.{signed_by, directory_for}
use Rattle.macho_signature.proofs.signature.sign.Goals as goal
use Rattle.macho_bytes.specs.Spellings.{spelling, ReadsBack}
use Rattle.macho_wire.specs.Spellings.{code_directory_rows}

pub returns-clause-done : goal.returns-clause-done
returns-clause-done c =
    let back : ReadsBack code_directory_rows (directory_for (signed_by c.args.signer.now (length c.args.signed.now))) =
    subst (ReadsBack code_directory_rows) c.directory_of.ensures c.write.ensures.back in
    signature_put (signed_by c.args.signer.now (length c.args.signed.now)) c.args.signed.now c.signature_size-size.result
    c.digests_offset.result
    (digests_of c.args.signed.now) c.args.signature.now c.write_super_blob.new.out c.write.new.out c.write_identifier.new.out
    c.sign_again.new.signature back.long
    c.signature_size-size.ensures c.digests_offset.ensures (omega (arith, c.requires.room, c.signature_size-size.ensures)) refl
    c.write_super_blob.ensures
    (c.write.ensures.written ∙ ap (λ (r : CodeDirectory). put 20 (spelling code_directory_rows r) c.write_super_blob.new.out)
    c.directory_of.ensures) c.write_identifier.ensures c.sign_again.ensures.done

pub returns-clause-length : goal.returns-clause-length
returns-clause-length c =
    let back : ReadsBack code_directory_rows (directory_for (signed_by c.args.signer.now (length c.args.signed.now))) =
    subst (ReadsBack code_directory_rows) c.directory_of.ensures c.write.ensures.back in
    length-signature (signed_by c.args.signer.now (length c.args.signed.now)) c.args.signed.now back.long
