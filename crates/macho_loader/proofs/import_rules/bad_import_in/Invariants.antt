-- The imports so far fit.
use Rattle.std.proofs.Common.{◌≡◌, ℕ, ◌<◌, true}
use Rattle.macho_model.specs.LoadRules.{import_fits}
use Rattle.macho_image_walks.specs.Readings.{table_there}
use Rattle.macho_loader.proofs.import_rules.bad_import_in.Given as goal

abbrev pub invariant-loop-number : goal.invariant-loop-number
invariant-loop-number l = (k : ℕ) → k < l.number → import_fits l.bytes (table_there l.bytes l.table) k ≡ true
