use Rattle.std.proofs.Common.{◌≡◌, ℕ, ◌*◌, ◌-◌, ◌<◌, ◌≤◌, length, get_or}
use Rattle.macho_symbol_names.specs.Notes.{end_at}
use Rattle.macho_symbol_names.proofs.ends.block_ends.Given as goal

abbrev pub invariant-loop-block : goal.invariant-loop-block
invariant-loop-block l =
    record {
      long : length l.ends.items ≡ l.block;
      each : (k : ℕ) → k < length l.ends.items → get_or l.ends.items k 0 ≡ end_at l.strings (k * 256);
      within : l.end ≤ length l.strings;
      last : l.end ≡ end_at l.strings ((l.block - 1) * 256);
    }
