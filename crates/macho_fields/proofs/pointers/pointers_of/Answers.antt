-- The section comes from its object, and behind its last relocation all pointers are told.
use Rattle.std.proofs.Common.{◌≡◌, ℕ, ◌<◌, ◌++◌}
use Rattle.std.specs.Prelude.{OnOk}
use Rattle.std.proofs.lemmas.Result.{on_ok_weaker}
use Rattle.macho_model.specs.Objects.{num_symbols}
use Rattle.macho_fields.specs.Filling.{IsToFill}
use Rattle.macho_fields.specs.Pointers.{pointers_in}
use Rattle.macho_fields.proofs.Pointed.{pointed_all}
use Rattle.macho_fields.proofs.Sourced.{of_source, to_source}
use Rattle.macho_fields.proofs.pointers.pointers_of.Goals as goal

pub push_all-requires-clause-symbols : goal.push_all-requires-clause-symbols
push_all-requires-clause-symbols g c =
    to_source (λ q b. (n : ℕ) → n < num_symbols b → g.P.Places.has_symbol c.args.places.now q.file n) c.source_of-source.result
    c.args.place c.args.file.now.bytes c.source_of-source.ensures.place c.source_of-source.ensures.bytes c.requires.symbols

pub returns : goal.returns
returns g c = record {
  done =
      let s = c.source_of-source.result in
      λ l p. of_source
      (λ q b. IsToFill l p q (g.P.Places.look c.args.places.now) b
      → OnOk c.push_all.result (c.push_all.new.run.items ≡ c.args.run.now.items ++ pointers_in l q))
      s c.args.place c.args.file.now.bytes c.source_of-source.ensures.place c.source_of-source.ensures.bytes
      (λ fill. on_ok_weaker c.push_all.result
      (pointed_all l s.place s.file.now.bytes c.args.run.now.items c.push_all.new.run.items fill.object)
      (c.push_all.ensures.done l p fill));
}
