use Rattle.std.proofs.Common.{◌≡◌, ℕ, ◌<◌, ◌++◌, length, sym, ◌∙◌}
use Rattle.std.specs.Prelude.{OnOk, IfErr}
use Rattle.std.proofs.lemmas.Result.{on_ok_weaker}
use Rattle.macho_model.specs.Objects.{num_symbols, section_at}
use Rattle.macho_promise.specs.Asked.{fixups_in}
use Rattle.macho_promise.specs.Filled.{IsFilled}
use Rattle.macho_fields.specs.Faults.{FillStands, NoneStandsIn}
use Rattle.macho_fields.specs.Filling.{IsToFill}
use Rattle.macho_fields.proofs.Nexts.{behind_last}
use Rattle.macho_fields.proofs.Ends.{is_filled, is_asked, none_stand}
use Rattle.macho_fields.proofs.Sourced.{of_source, to_source}
use Rattle.macho_fields.proofs.section.fill_section.Goals as goal

pub copy_from_slice-requires : goal.copy_from_slice-requires
copy_from_slice-requires g c =
    let s = c.source_of-source.result in
    c.requires.room
    ∙ sym (of_source (λ q b. length s.bytes.now ≡ (section_at b q.section).size) s c.args.place c.args.file.now.bytes
    c.source_of-source.ensures.place c.source_of-source.ensures.bytes c.source_of-source.ensures.source.long)

pub fill_fields-requires-clause-symbols : goal.fill_fields-requires-clause-symbols
fill_fields-requires-clause-symbols g c =
    to_source (λ q b. (n : ℕ) → n < num_symbols b → g.P.Places.has_symbol c.args.places.now q.file n) c.source_of-source.result
    c.args.place c.args.file.now.bytes c.source_of-source.ensures.place c.source_of-source.ensures.bytes c.requires.symbols

pub returns-clause-done : goal.returns-clause-done
returns-clause-done g c =
    let s = c.source_of-source.result in
    λ l p. of_source
    (λ q b. IsToFill l p q (g.P.Places.look c.args.places.now) b → OnOk c.fill_fields.result (IsFilled l p q c.fill_fields.new.out))
    s c.args.place c.args.file.now.bytes c.source_of-source.ensures.place c.source_of-source.ensures.bytes
    (λ fill. on_ok_weaker c.fill_fields.result
    (λ filled. is_filled l p s.place c.args.run.now.items c.fill_fields.new.out c.fill_fields.new.run.items
    (behind_last l p s.place s.file.now.bytes c.args.run.now.items c.fill_fields.new.out c.fill_fields.new.run.items
    fill.object filled))
    (c.fill_fields.ensures.done l p fill))

pub returns-clause-asked : goal.returns-clause-asked
returns-clause-asked g c =
    let s = c.source_of-source.result in
    λ l p. of_source
    (λ q b. IsToFill l p q (g.P.Places.look c.args.places.now) b
    → OnOk c.fill_fields.result (c.fill_fields.new.run.items ≡ c.args.run.now.items ++ fixups_in l p q))
    s c.args.place c.args.file.now.bytes c.source_of-source.ensures.place c.source_of-source.ensures.bytes
    (λ fill. on_ok_weaker c.fill_fields.result
    (λ filled. is_asked l p s.place c.args.run.now.items c.fill_fields.new.out c.fill_fields.new.run.items
    (behind_last l p s.place s.file.now.bytes c.args.run.now.items c.fill_fields.new.out c.fill_fields.new.run.items
    fill.object filled))
    (c.fill_fields.ensures.done l p fill))

pub returns-clause-only : goal.returns-clause-only
returns-clause-only g c =
    let s = c.source_of-source.result in
    λ l p. of_source
    (λ q b. IsToFill l p q (g.P.Places.look c.args.places.now) b → OnOk c.fill_fields.result (NoneStandsIn l p q))
    s c.args.place c.args.file.now.bytes c.source_of-source.ensures.place c.source_of-source.ensures.bytes
    (λ fill. on_ok_weaker c.fill_fields.result
    (λ filled. none_stand l p s.place c.args.run.now.items c.fill_fields.new.out c.fill_fields.new.run.items fill.found.once fill.here
    (behind_last l p s.place s.file.now.bytes c.args.run.now.items c.fill_fields.new.out c.fill_fields.new.run.items
    fill.object filled))
    (c.fill_fields.ensures.done l p fill))

pub returns-clause-why : goal.returns-clause-why
returns-clause-why g c =
    λ l p. of_source
    (λ q b. IsToFill l p q (g.P.Places.look c.args.places.now) b → IfErr c.fill_fields.result (FillStands l p))
    c.source_of-source.result c.args.place c.args.file.now.bytes c.source_of-source.ensures.place c.source_of-source.ensures.bytes
    (c.fill_fields.ensures.why l p)
