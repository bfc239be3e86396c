-- The section comes from its object.
use Rattle.std.proofs.Common.{ℕ, ◌<◌}
use Rattle.macho_model.specs.Objects.{num_symbols}
use Rattle.macho_fields.specs.Faults.{FillStands}
use Rattle.macho_fields.specs.Filling.{IsToFill}
use Rattle.macho_fields.proofs.Sourced.{of_source, to_source}
use Rattle.macho_fields.proofs.least.section_fault.Goals as goal

pub relocations_fault-requires-clause-symbols : goal.relocations_fault-requires-clause-symbols
relocations_fault-requires-clause-symbols g c =
    to_source (λ q b. (n : ℕ) → n < num_symbols b → g.P.Places.has_symbol c.args.places.now q.file n) c.source_of-source.result
    c.args.place c.args.file.now.bytes c.source_of-source.ensures.place c.source_of-source.ensures.bytes c.requires.symbols

pub returns : goal.returns
returns g c = record {
  why = λ l p. of_source
      (λ q b. IsToFill l p q (g.P.Places.look c.args.places.now) b → FillStands l p c.args.told → FillStands l p c.relocations_fault.result)
      c.source_of-source.result c.args.place c.args.file.now.bytes c.source_of-source.ensures.place c.source_of-source.ensures.bytes
      (c.relocations_fault.ensures l p);
}
