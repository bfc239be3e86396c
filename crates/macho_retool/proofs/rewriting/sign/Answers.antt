-- The digests of the bytes in front of the signature are those of the image.
use Rattle.macho_retool.proofs.Writes.{signed_whole}
use Rattle.macho_retool.proofs.rewriting.sign.Goals as goal

pub returns : goal.returns
returns c =
    signed_whole c.args.form c.args.image.now c.split_at_mut-signed.result.0.now c.split_at_mut-signed.result.1.now
    c.sign_again.new.signature
    c.split_at_mut-signed.ensures.value c.split_at_mut-signed.ensures.front_len c.requires c.sign_again.ensures.length
    c.sign_again.ensures.done
