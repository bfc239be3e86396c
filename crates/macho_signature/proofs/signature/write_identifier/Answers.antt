use Rattle.std.proofs.Common.{arith, ap, ◌≡◌, ◌∙◌, ◌+◌, ◌-◌, ◌++◌, List, ℕ, length, replicate}
use Rattle.macho_bytes.specs.Texts.{put}
use Rattle.macho_bytes.proofs.Fills.{put_mid-filled}
use Rattle.macho_signature.specs.Sizes.{identifier_size}
use Rattle.macho_signature.proofs.signature.write_identifier.Goals as goal

pub returns : goal.returns
returns c =
    let m : ℕ = 108 + c.identifier_size.result - (108 + length c.args.name.now) in
    let gap : m ≡ identifier_size (length c.args.name.now) - length c.args.name.now = omega (arith, c.identifier_size.ensures) in
    put_mid-filled 108 _ m c.args.name.now c.args.out.now c.copy_from_slice.new.self c.fill.new.self (omega arith)
    (omega (arith, gap, c.requires.room))
    c.copy_from_slice.ensures.after (c.fill.ensures.after (λ y e. e))
    ∙ ap (λ (n : ℕ). put 108 (c.args.name.now ++ replicate n 0) c.args.out.now) gap
