use Rattle.std.proofs.Common.{ℕ, arith}
use Rattle.std.proofs.lemmas.List.{length-take}
use Rattle.macho_symbol_names.proofs.hashing.hash.Goals as goal

pub slice_bounds-hash_behind-end : goal.slice_bounds-hash_behind-end
slice_bounds-hash_behind-end c = omega (arith, c.if-name.false, length-take {A = ℕ} 2048 c.args.name.now)
