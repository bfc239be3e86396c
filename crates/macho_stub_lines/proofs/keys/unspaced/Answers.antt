use Rattle.macho_stub_lines.specs.Bytes.{indent}
use Rattle.macho_stub_lines.specs.steps.Bytes.{is_space}
use Rattle.macho_stub_lines.proofs.Cuts.{run_cut, space_ascii}
use Rattle.macho_stub_lines.proofs.keys.unspaced.Goals as goal

pub after-requires : goal.after-requires
unfolding indent
after-requires c = rw (c.indent.ensures.count, c.as_bytes.ensures.value) (run_cut is_space space_ascii c.args.text.now c.utf8.text)
