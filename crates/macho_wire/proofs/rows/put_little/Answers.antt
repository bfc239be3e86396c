use Rattle.std.proofs.Common.{ℕ, List, ap, ◌∙◌, arith}
use Rattle.macho_bytes.specs.Numbers.{little, le_at, le_bytes}
use Rattle.macho_bytes.specs.Texts.{put}
use Rattle.macho_bytes.proofs.Numbers.{little_is_sound, number-stands}
use Rattle.macho_bytes.proofs.Puts.{put_stands}
use Rattle.macho_wire.proofs.rows.put_little.Goals as goal

pub returns-clause-long : goal.returns-clause-long
returns-clause-long g c = little_is_sound.long g.N.Number.WIDTH (g.N.Number.value c.args.number)

pub returns-clause-read : goal.returns-clause-read
returns-clause-read g c =
    let n = g.N.Number.value c.args.number in
    ap (λ (t : List ℕ). le_at g.N.Number.WIDTH t c.args.at) c.write_little.ensures.written
    ∙ number-stands little little_is_sound g.N.Number.WIDTH n (put c.args.at (le_bytes g.N.Number.WIDTH n) c.args.out.now) c.args.at
    c.write_little.ensures.fits
    (put_stands c.args.at (le_bytes g.N.Number.WIDTH n) c.args.out.now
    (omega (arith, c.requires, little_is_sound.long g.N.Number.WIDTH n)))
