use Rattle.std.proofs.Common.{arith, ◌∙◌, ◌+◌, ◌*◌, List, ℕ, length}
use Rattle.macho_bytes.proofs.Writes.{put_mid-whole}
use Rattle.macho_model.specs.Signature.{page_digest}
use Rattle.macho_signature.proofs.Pages.{length-page_digest}
use Rattle.macho_signature.proofs.digests.sign_page.Goals as goal

pub returns : goal.returns
returns c =
    let digest : List ℕ = page_digest c.args.signed.now c.args.page (length c.args.signed.now) in
    let long = length-page_digest c.args.signed.now c.args.page (length c.args.signed.now) in
    put_mid-whole (c.args.hashes_offset + 32 * c.args.page) _ c.args.signature.now digest c.copy_from_slice.new.self (omega (arith, long))
    (omega (arith, long, c.requires.room)) (c.copy_from_slice.ensures.after ∙ c.page_digest.ensures)
