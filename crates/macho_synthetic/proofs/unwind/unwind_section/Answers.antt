use Rattle.std.proofs.Common.{ap, ◌∙◌}
use Rattle.std.specs.Prelude.{map}
use Rattle.std.proofs.lemmas.Result.{IfOk-weaker, IfErr-weaker}
use Rattle.macho_synthetic.specs.Entries.{resolved_row}
use Rattle.macho_synthetic.proofs.Resolved.{starts_low, lsdas_low}
use Rattle.macho_synthetic.proofs.Resolving.{rows_resolved}
use Rattle.macho_synthetic.proofs.Passing.{built_made, not_built}
use Rattle.macho_synthetic.proofs.unwind.unwind_section.Goals as goal

pub resolve_all-requires-clause-starts : goal.resolve_all-requires-clause-starts
resolve_all-requires-clause-starts g c = starts_low (g.P.Places.look c.args.places.now) c.args.tables.now.slots c.args.entries.now
    c.requires.sound

pub resolve_all-requires-clause-data : goal.resolve_all-requires-clause-data
resolve_all-requires-clause-data g c = lsdas_low (g.P.Places.look c.args.places.now) c.args.tables.now.slots c.args.entries.now
    c.requires.sound

pub returns-clause-done : goal.returns-clause-done
returns-clause-done g c = λ l counts p make tells slots same.
    let look = g.P.Places.look c.args.places.now in
    let row = resolved_row look c.args.tables.now.slots in
    IfOk-weaker c.section.result _ _
    (λ v. built_made l counts p c.base.result c.as_slice.result.now v make (c.base.ensures ∙ tells.addresses.base)
    (c.as_slice.ensures.value ∙ c.in_ok-resolved.ensures ∙ ap (map row) same ∙ rows_resolved l counts p look c.args.tables.now.slots make
    tells slots))
    c.section.ensures.done

pub returns-clause-why : goal.returns-clause-why
returns-clause-why g c = λ l counts p make tells slots same.
    let look = g.P.Places.look c.args.places.now in
    let row = resolved_row look c.args.tables.now.slots in
    IfErr-weaker c.section.result _ _
    (λ fault. not_built l counts p c.base.result c.as_slice.result.now fault make (c.base.ensures ∙ tells.addresses.base)
    (c.as_slice.ensures.value ∙ c.in_ok-resolved.ensures ∙ ap (map row) same ∙ rows_resolved l counts p look c.args.tables.now.slots make
    tells slots))
    c.section.ensures.why
