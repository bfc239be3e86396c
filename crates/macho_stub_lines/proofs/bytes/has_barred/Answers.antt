use Rattle.std.proofs.Common.{◌∙◌}
use Rattle.macho_stub_lines.specs.Bytes.{has_barred}
use Rattle.macho_stub_lines.specs.steps.Bytes.{is_barred}
use Rattle.macho_stub_lines.proofs.Found.{any_found}
use Rattle.macho_stub_lines.proofs.bytes.has_barred.Goals as goal

pub returns : goal.returns
unfolding has_barred
returns c = c.is_some.ensures ∙ any_found is_barred c.args.bytes.now c.memchr2.result c.memchr2.ensures
