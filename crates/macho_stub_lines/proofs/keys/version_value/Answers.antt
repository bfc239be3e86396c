use Rattle.std.specs.Char.{is_ascii_digit}
use Rattle.macho_stub_lines.specs.Keys.{is_zero}
use Rattle.macho_stub_lines.proofs.Cuts.{run_cut, digit_ascii, zero_ascii}
use Rattle.macho_stub_lines.proofs.keys.version_value.Goals as goal

pub split_at-requires : goal.split_at-requires
split_at-requires c = rw (c.digits_len-len.ensures, c.as_bytes.ensures.value)
    (run_cut is_ascii_digit digit_ascii c.args.value.now c.utf8.value)

pub after-requires : goal.after-requires
after-requires c = rw (c.zeros_len.ensures, ← c.as_bytes-3.ensures.value)
    (run_cut is_zero zero_ascii c.as_bytes-3.result.now c.as_bytes-3.ensures.utf8)
