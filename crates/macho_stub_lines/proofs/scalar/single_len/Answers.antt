use Rattle.std.proofs.Common.{refl, sym, ◌∙◌}
use Rattle.memchr.specs.Find.{is_byte}
use Rattle.macho_stub_lines.specs.Bytes.{single_quote}
use Rattle.macho_stub_lines.specs.Scalars.{in_single}
use Rattle.macho_stub_lines.proofs.Found.{front_len}
use Rattle.macho_stub_lines.proofs.scalar.single_len.Goals as goal

pub returns : goal.returns
returns c = c.unwrap_or.ensures
    ∙ sym (front_len (is_byte single_quote) in_single (λ b. refl) c.args.bytes.now c.memchr.result c.memchr.ensures)
