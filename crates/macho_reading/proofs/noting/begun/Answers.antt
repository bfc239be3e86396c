-- Of no use nothing is noted.
use Rattle.std.proofs.Common.{ap}
use Rattle.std.proofs.lemmas.List.Elements.{All-nil}
use Rattle.macho_promise.specs.Noted.{imports_in, slots_in, stubs_in}
use Rattle.macho_needs.specs.Tables.{Numbered}
use Rattle.macho_needs.specs.Noted.{own_in, IsFound}
use Rattle.macho_reading.proofs.noting.begun.Goals as goal

pub returns-clause-noted : goal.returns-clause-noted
unfolding imports_in slots_in stubs_in own_in
returns-clause-noted c l resolved = record {
  imports = resolved;
  slots = ap (λ (t : Numbered). t.slots) c.new.ensures;
  stubs = ap (λ (t : Numbered). t.stubs) c.new.ensures;
  own = ap (λ (t : Numbered). t.own) c.new.ensures;
  found = All-nil (IsFound l);
}
