-- Sections and stubs are filled, then words are written over them.
use Rattle.std.proofs.Common.{length, sym, ap, subst, ◌∙◌, arith}
use Rattle.macho_promise_laws.specs.Fitting.{SectionsFit, StubsFit}
use Rattle.macho_linking.specs.declared.fault.Unwritten.TheVariants.{Unfilled}
use Rattle.macho_linking.specs.steps.Planned.{placement_of, counts_of}
use Rattle.macho_linking.specs.steps.Unwritten.{UnwrittenStands}
use Rattle.macho_linking.proofs.Ready.{planned_to_fill, planned_sections, planned_stubs, planned_symbols}
use Rattle.macho_linking.proofs.Filling.{refused, zeros_long, in_place, to_chain, contents}
use Rattle.macho_linking.proofs.contents.write_contents.Goals as goal

pub fill_contents-requires-clause-sections : goal.fill_contents-requires-clause-sections
fill_contents-requires-clause-sections g c =
    let some = c.requires.link in
    let b = c.args.b.now in
    subst (SectionsFit b.views.now (placement_of b)) (sym (zeros_long _ c.args.out.now c.requires.zeros))
    (planned_sections some.0 b some.1.planned)

pub fill_contents-requires-clause-symbols : goal.fill_contents-requires-clause-symbols
fill_contents-requires-clause-symbols g c =
    let some = c.requires.link in
    planned_symbols some.0 c.args.b.now (g.P.Places.has_symbol c.args.places.now) some.1.planned c.requires.known

pub fill_contents-requires-clause-stubs : goal.fill_contents-requires-clause-stubs
fill_contents-requires-clause-stubs g c =
    let some = c.requires.link in
    let b = c.args.b.now in
    subst (StubsFit (placement_of b)) (sym (zeros_long _ c.args.out.now c.requires.zeros)) (planned_stubs some.0 b some.1.planned)

pub returns-in_err-fill_contents-clause-why : goal.returns-in_err-fill_contents-clause-why
returns-in_err-fill_contents-clause-why g c = λ l h.
    let b = c.args.b.now in
    refused c.from_residual.result (UnwrittenStands l (placement_of b)) (Unfilled c.in_err-fill_contents.field-0.0)
    c.from_residual.ensures.1
    (c.in_err-fill_contents.ensures.why l (planned_to_fill l b (g.P.Places.look c.args.places.now) h))

pub write_words-requires : goal.write_words-requires
write_words-requires g c =
    let some = c.requires.link in
    let b = c.args.b.now in
    let fill = planned_to_fill some.0 b (g.P.Places.look c.args.places.now) some.1 in
    record {
      link = (
        some.0,
        counts_of b,
        to_chain some.0 b c.deref_mut.result.now c.fill_contents.new.run.items c.new-run.result.items (length c.fill_contents.new.out)
            some.1.planned
            (c.in_ok-fill_contents.ensures.only some.0 fill) c.new-run.ensures.items
            (c.in_ok-fill_contents.ensures.asked some.0 fill) c.deref_mut.ensures.value
            (omega (arith, c.fill_contents.auto.out, zeros_long _ c.args.out.now c.requires.zeros)),
      );
    }

pub returns-clause-done : goal.returns-clause-done
returns-clause-done g c = λ l h.
    let b = c.args.b.now in
    let fill = planned_to_fill l b (g.P.Places.look c.args.places.now) h in
    let chain =
    to_chain l b c.deref_mut.result.now c.fill_contents.new.run.items c.new-run.result.items (length c.fill_contents.new.out) h.planned
    (c.in_ok-fill_contents.ensures.only l fill) c.new-run.ensures.items
    (c.in_ok-fill_contents.ensures.asked l fill) c.deref_mut.ensures.value
    (omega (arith, c.fill_contents.auto.out, zeros_long _ c.args.out.now c.requires.zeros)) in
    contents l b _ c.write_words.new.run c.args.out.now c.fill_contents.new.out c.write_words.new.out c.requires.zeros
    (c.in_ok-fill_contents.ensures.done l fill) (c.in_ok-write_words.ensures.done l (counts_of b) chain)
    (in_place c.fill_contents.new.run.len c.fill_contents.new.run.items c.write_words.new.run c.fill_contents.new.run.ok.0
    (c.write_words.auto.run ∙ ap length c.deref_mut.ensures.value))

pub returns-clause-good : goal.returns-clause-good
returns-clause-good g c = λ l h. c.in_ok-fill_contents.ensures.only l (planned_to_fill l c.args.b.now (g.P.Places.look c.args.places.now) h)
