use Rattle.std.proofs.Common.{◌∙◌, refl}
use Rattle.macho_symbols.proofs.AskedFor.{taken_back, imports_count}
use Rattle.macho_symbols.proofs.solved.Solved.note_names.Goals as goal

pub returns-in-Err-clause-kept : goal.returns-in-Err-clause-kept
returns-in-Err-clause-kept c =
    taken_back c.args.self.now c.note_each.new.self _ c.len-count.result c.in-Err.ensures.grown
    (imports_count c.args.self.now c.len-count.result c.len-count.ensures) refl refl refl refl refl c.truncate.ensures.items
    (c.in_ok-numbers.ensures.items ∙ c.deref.ensures.value)
