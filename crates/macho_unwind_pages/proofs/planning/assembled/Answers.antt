-- The parts of a plan are made from a run that is ready for it.
--
-- The functions are those of the run, so there is one, they start in order, and the code of each is ranked. So they can be
-- put on pages beside the first ranks. With the slots and the data of the run these are the parts of a plan.
use Rattle.std.proofs.Common.{◌≡◌, ◌==◌, ◌<◌, List, length, map, true, refl, sym, ap, subst, ◌∙◌, arith, rules}
use Rattle.std.specs.List.{All, AllPairs, list_any}
use Rattle.std.proofs.lemmas.List.{length-map}
use Rattle.std.proofs.lemmas.List.Elements.{All-map}
use Rattle.macho_unwind_pages.specs.Bounds.{globals_of}
use Rattle.macho_unwind_pages.specs.Plans.{Row, page_list}
use Rattle.macho_unwind_pages.specs.steps.Paging.{ArePages}
use Rattle.macho_unwind_pages.proofs.Gathered.{rows_rise}
use Rattle.macho_unwind_pages.specs.steps.Ranks.{ranked}
use Rattle.macho_unwind_pages.proofs.Planned.{assembled_of, is_plan}
use Rattle.macho_unwind_pages.proofs.planning.assembled.Goals as goal
use Rattle.macho_unwind_pages.specs.steps.Plans.{row_from}

pub globals_and_pages-requires-clause-some : goal.globals_and_pages-requires-clause-some
globals_and_pages-requires-clause-some c =
    omega (
      arith,
      ap length (c.as_slice.ensures.value ∙ c.in_ok-rows.ensures),
      length-map c.args.run.now (row_from c.args.text_start c.args.ids.now),
      c.requires.some,
    )

pub globals_and_pages-requires-clause-rising : goal.globals_and_pages-requires-clause-rising
globals_and_pages-requires-clause-rising c =
    subst (AllPairs (λ r s. r.start < s.start)) (sym (c.as_slice.ensures.value ∙ c.in_ok-rows.ensures))
    (rows_rise c.args.text_start c.args.ids.now c.args.run.now c.requires.behind c.requires.rising)

pub globals_and_pages-requires-clause-ranked : goal.globals_and_pages-requires-clause-ranked
globals_and_pages-requires-clause-ranked c =
    let IsRanked : Row → Type 0 = λ r. list_any (λ other. r.code == other) (ranked c.args.codes.now) ≡ true in
    subst (All IsRanked) (sym (c.as_slice.ensures.value ∙ c.in_ok-rows.ensures))
    (All-map IsRanked (row_from c.args.text_start c.args.ids.now) c.args.run.now c.requires.ranked)

pub returns-clause-done : goal.returns-clause-done
returns-clause-done c =
    assembled_of c.args.text_start c.args.ids.now c.args.codes.now c.args.run.now c.in_ok-rows.rows.items
    (ranked c.args.codes.now) _ c.requires refl c.in_ok-rows.ensures
    (subst (λ (rs : List Row). ArePages (globals_of c.args.codes.now) rs (map page_list c.in_ok-globals.pages.items))
    c.as_slice.ensures.value c.in_ok-globals.ensures.pages)
    c.in_ok-globals.ensures.globals c.in_ok-personalities.ensures.length c.in_ok-personalities.ensures.done
    c.in_ok-lsdas.ensures c.in_ok-personalities.ensures.short

pub returns-clause-formed : goal.returns-clause-formed
returns-clause-formed c =
    is_plan c.args.text_start c.args.ids.now c.args.codes.now c.args.run.now _ c.requires (returns-clause-done c) (search rules)
