use Rattle.std.proofs.Common.{length, sym, ap, ◌+◌, ◌-◌, ◌≡◌, ◌∙◌, List, ℕ, arith}
use Rattle.macho_bytes.specs.Texts.{put}
use Rattle.macho_model.specs.Signature.{page_count}
use Rattle.macho_signature.specs.Pages.{digests_from}
use Rattle.macho_signature.proofs.Pages.{length-digests, digests_all}
use Rattle.macho_signature.proofs.digests.sign_again.Goals as goal

pub returns-clause-done : goal.returns-clause-done
returns-clause-done c =
    let place : c.args.hashes_offset + 0 ≡ c.args.hashes_offset = omega arith in
    let count : c.page_count.result - 0 ≡ page_count (length c.args.signed.now) = omega (arith, c.page_count.ensures) in
    c.sign_pages.ensures
    ∙ ap (λ (k : ℕ). put k (digests_from c.args.signed.now 0 (c.page_count.result - 0)) c.args.signature.now) place
    ∙ ap (λ (k : ℕ). put c.args.hashes_offset (digests_from c.args.signed.now 0 k) c.args.signature.now) count
    ∙ ap (λ (t : List ℕ). put c.args.hashes_offset t c.args.signature.now) (digests_all c.args.signed.now)

pub returns-clause-length : goal.returns-clause-length
returns-clause-length c = sym (ap length (digests_all c.args.signed.now))
    ∙ length-digests c.args.signed.now 0 (page_count (length c.args.signed.now))
