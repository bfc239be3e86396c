use Rattle.macho_stub_lines.proofs.NoNuls.{unbarred}
use Rattle.macho_stub_lines.proofs.laws.lines_hold_no_nul.Goals as goal

pub returns : goal.returns
returns c = unbarred
