use Rattle.std.proofs.Common.{arith, ap, subst, ◌≡◌, ◌++◌, ◌∙◌, List, ℕ, length}
use Rattle.macho_bytes.specs.Texts.{put}
use Rattle.macho_model.specs.Signature.{signature_text}
use Rattle.macho_signature.specs.Sizes.{signed_by, directory_for}
use Rattle.macho_signature.proofs.Texts.{length-signature}
use Rattle.macho_signature.proofs.Files.{file_signed, signed_stands}
use Rattle.macho_signature.proofs.signature.sign_file.Goals as goal
use Rattle.macho_bytes.specs.Spellings.{spelling}
use Rattle.macho_wire.specs.Spellings.{code_directory_rows}

pub returns-clause-done : goal.returns-clause-done
returns-clause-done c =
    let front : List ℕ = c.split_at_mut-signed.result.0.now in
    let rest : List ℕ = c.split_at_mut-signed.result.1.now in
    let same : length front ≡ c.args.limit = c.split_at_mut-signed.ensures.front_len in
    ap (λ (t : List ℕ). front ++ t) c.sign.ensures.done
    ∙ ap (λ (n : ℕ). front ++ put 0 (signature_text (signed_by c.args.signer.now n) front) rest) same
    ∙ file_signed (signed_by c.args.signer.now c.args.limit) front rest c.args.file.now (omega (arith, same))
    c.split_at_mut-signed.ensures.value

pub returns-clause-stands : goal.returns-clause-stands
returns-clause-stands c =
    let front : List ℕ = c.split_at_mut-signed.result.0.now in
    let same : length front ≡ c.args.limit = c.split_at_mut-signed.ensures.front_len in
    let Long : ℕ → Type 0 = λ n. length (spelling code_directory_rows (directory_for (signed_by c.args.signer.now n))) ≡ 88 in
    let long = length-signature (signed_by c.args.signer.now c.args.limit) c.args.file.now (subst Long same c.sign.ensures.back.long) in
    signed_stands (signed_by c.args.signer.now c.args.limit) c.args.file.now (front ++ c.sign.new.signature)
    (omega (arith, long, c.requires.room))
    (returns-clause-done c)
