use Rattle.std.proofs.Common.{arith, sym, subst, ◌∙◌, ◌+◌, ◌-◌, ◌*◌, ◌≡◌, ℕ, List}
use Rattle.macho_bytes.specs.Texts.{put}
use Rattle.macho_bytes.proofs.Writes.{put_mid-whole}
use Rattle.macho_model.specs.Signature.{uuid_written}
use Rattle.macho_signature.specs.Pages.{digests_of, first_page, last_page, digests_from}
use Rattle.macho_signature.proofs.Anew.{signed_anew}
use Rattle.macho_signature.proofs.uuid.write_uuid.Goals as goal
use Rattle.macho_model.proofs.Sections.{length-uuid}

pub returns-clause-done : goal.returns-clause-done
returns-clause-done c =
    put_mid-whole c.args.uuid_offset _ c.args.signed.now (uuid_written c.args.uuid) c.copy_from_slice.new.self
    (omega (arith, length-uuid c.args.uuid)) (omega (arith, length-uuid c.args.uuid))
    (c.copy_from_slice.ensures.after ∙ c.stamped_uuid.ensures)

pub returns-clause-anew : goal.returns-clause-anew
returns-clause-anew c =
    λ right.
    let Anew : List ℕ → Type 0 = λ now. put (c.args.hashes_offset + 32 * first_page c.args.uuid_offset)
    (digests_from now (first_page c.args.uuid_offset) (last_page c.args.uuid_offset + 1 - first_page c.args.uuid_offset))
    c.args.signature.now
    ≡ put c.args.hashes_offset (digests_of now) c.args.signature.now in
    c.sign_pages.ensures
    ∙ subst Anew (sym (returns-clause-done c))
    (signed_anew c.args.signed.now (uuid_written c.args.uuid) c.args.signature.now c.args.hashes_offset c.args.uuid_offset
    (length-uuid c.args.uuid) (omega arith) right)
