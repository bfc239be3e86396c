use Rattle.std.proofs.Common.{arith, ap, ◌≡◌, ◌∙◌, ◌+◌, ◌-◌, ◌++◌, ℕ, length, replicate}
use Rattle.macho_bytes.specs.Texts.{put}
use Rattle.macho_bytes.proofs.Fills.{put_mid-filled}
use Rattle.macho_model.specs.HeadCommands.{path_command_size}
use Rattle.macho_commands.proofs.paths.put_path.Goals as goal

pub returns : goal.returns
returns c =
    let size : ℕ = path_command_size c.args.front c.args.path.now in
    let m : ℕ = c.args.at + c.path_command_size.result - (c.args.at + c.args.front + length c.args.path.now) in
    let gap : m ≡ size - c.args.front - length c.args.path.now = omega (arith, c.path_command_size.ensures) in
    put_mid-filled (c.args.at + c.args.front) _ m c.args.path.now c.args.out.now c.copy_from_slice.new.self c.fill.new.self (omega arith)
    (omega (arith, gap, c.requires.room)) c.copy_from_slice.ensures.after (c.fill.ensures.after (λ y e. e))
    ∙ ap (λ (n : ℕ). put (c.args.at + c.args.front) (c.args.path.now ++ replicate n 0) c.args.out.now) gap
