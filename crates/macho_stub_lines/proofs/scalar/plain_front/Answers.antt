use Rattle.macho_stub_lines.proofs.Cuts.{plain_cut}
use Rattle.macho_stub_lines.proofs.scalar.plain_front.Goals as goal

pub split_at-requires : goal.split_at-requires
split_at-requires c = rw (c.plain_len-width.ensures, c.as_bytes.ensures.value) (plain_cut c.args.text.now)

pub returns-clause-cut : goal.returns-clause-cut
returns-clause-cut c = rw (c.plain_len-width.ensures, c.as_bytes.ensures.value) (plain_cut c.args.text.now)
