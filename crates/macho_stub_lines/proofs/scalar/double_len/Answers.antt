use Rattle.std.proofs.Common.{◌==◌, sym, ◌∙◌}
use Rattle.memchr.specs.Find.{is_byte2}
use Rattle.macho_stub_lines.specs.Bytes.{double_quote, backslash}
use Rattle.macho_stub_lines.specs.Scalars.{in_double}
use Rattle.macho_stub_lines.proofs.Found.{front_len, neither}
use Rattle.macho_stub_lines.proofs.scalar.double_len.Goals as goal

pub returns : goal.returns
returns c = c.unwrap_or.ensures
    ∙ sym (front_len (is_byte2 double_quote backslash) in_double (λ b. neither (b == double_quote) (b == backslash)) c.args.bytes.now
    c.memchr2.result c.memchr2.ensures)
