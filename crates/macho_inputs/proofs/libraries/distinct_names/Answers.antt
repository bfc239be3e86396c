-- A name more is put into the set.
use Rattle.std.proofs.Common.{ℕ, List, [], get_or, Bor}
use Rattle.std.proofs.lemmas.List.{get_or_default}
use Rattle.macho_inputs.proofs.Naming.{distinct_more}
use Rattle.macho_inputs.proofs.libraries.distinct_names.Goals as goal

pub loop-name-preserved : goal.loop-name-preserved
loop-name-preserved c =
    let xs = c.args.names.now in
    let i = c.loop-name.name-index in
    let none : Bor (List ℕ) = record { ref_ptr = (0, 0); now = [] } in
    let x : Bor (List ℕ) = get_or xs i none in
    distinct_more xs i x c.loop-name.set.keys c.insert.new.self.keys c.loop-name-test.true
    (get_or_default xs i none x c.loop-name-test.true)
    c.loop-name.invariant c.in_ok-insert.ensures.keys
