-- The section comes from its object.
use Rattle.std.proofs.Common.{◌≡◌, ℕ, ◌<◌, length, sym, ◌∙◌}
use Rattle.std.specs.Prelude.{IfNone, IfSome}
use Rattle.macho_model.specs.Objects.{num_symbols, section_at}
use Rattle.macho_fields.specs.Filling.{IsToFill}
use Rattle.macho_fields.specs.Reads.{PlainFieldsRead, IsFirstWrong}
use Rattle.macho_fields.proofs.Sourced.{of_source, to_source}
use Rattle.macho_fields.proofs.wrong.first_wrong_field.Goals as goal

pub first_wrong-requires-clause-symbols : goal.first_wrong-requires-clause-symbols
first_wrong-requires-clause-symbols g c =
    to_source (λ q b. (n : ℕ) → n < num_symbols b → g.P.Places.has_symbol c.args.places.now q.file n) c.source_of-source.result
    c.args.place c.args.file.now.bytes c.source_of-source.ensures.place c.source_of-source.ensures.bytes c.requires.symbols

pub first_wrong-requires-clause-long : goal.first_wrong-requires-clause-long
first_wrong-requires-clause-long g c =
    let s = c.source_of-source.result in
    c.requires.long
    ∙ sym (of_source (λ q b. length s.bytes.now ≡ (section_at b q.section).size) s c.args.place c.args.file.now.bytes
    c.source_of-source.ensures.place c.source_of-source.ensures.bytes c.source_of-source.ensures.source.long)

pub returns-clause-found : goal.returns-clause-found
returns-clause-found g c =
    λ l p. of_source
    (λ q b. IsToFill l p q (g.P.Places.look c.args.places.now) b → IfNone c.first_wrong.result (PlainFieldsRead l p q c.args.bytes.now))
    c.source_of-source.result c.args.place c.args.file.now.bytes c.source_of-source.ensures.place c.source_of-source.ensures.bytes
    (c.first_wrong.ensures.found l p)

pub returns-clause-why : goal.returns-clause-why
returns-clause-why g c =
    λ l p. of_source
    (λ q b. IsToFill l p q (g.P.Places.look c.args.places.now) b → IfSome c.first_wrong.result (IsFirstWrong l p q c.args.bytes.now))
    c.source_of-source.result c.args.place c.args.file.now.bytes c.source_of-source.ensures.place c.source_of-source.ensures.bytes
    (c.first_wrong.ensures.why l p)
