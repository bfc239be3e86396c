-- The word is read where the page holds it; its import is asked where it binds one.
use Rattle.std.proofs.Common.{◌≡◌, ◌+◌, ◌<◌, true, refl, sym, subst, ◌∙◌, arith}
use Rattle.macho_model.specs.Images.{tables_of}
use Rattle.macho_model.specs.Loader.{is_bind, ordinal_of}
use Rattle.macho_image_walks.specs.Readings.{HasWord, segment_there}
use Rattle.macho_image_walks.specs.Tests.{page_holds}
use Rattle.macho_image_walks.specs.steps.WordTests.{address_in}
use Rattle.macho_image_walks.proofs.WordWalk.{some_is}
use Rattle.macho_image_walks.proofs.RuleWalk.{import_count_found}
use Rattle.macho_loader.specs.steps.Words.{IsFittingWord}
use Rattle.macho_loader.proofs.ChainWalks.{fits_here, import_is_there}
use Rattle.macho_loader.proofs.word_rules.fitting_word.Goals as goal
use Rattle.macho_loader.proofs.word_rules.fitting_word.Goals.{else-binds-via-then-binds+else-ordinal-table_at, else-binds-via-else-binds}
use Rattle.macho_model.specs.steps.Loader.{import_count}
use Rattle.macho_bytes.proofs.Bools.{true_or_false}

pub returns-then-ordinal-table_at-clause-only : goal.returns-then-ordinal-table_at-clause-only
returns-then-ordinal-table_at-clause-only c _ fits =
    let b = c.args.bytes.now in
    let s = c.args.segment in
    let w = c.in_ok-word.word in
    let has = subst (λ a. HasWord b (segment_there b s.place) (a + c.args.offset) w) c.segment_at.ensures.address
    (c.in_ok-word.ensures.found w refl) in
    let below = import_is_there b s.number s.place s.table c.args.page (address_in b s.place c.args.offset) w c.requires.chained.table
    c.requires.chained.nth has fits (sym c.binds.ensures ∙ c.if-binds.true) in
    let read = c.ordinal.ensures in
    let count = c.table_at.ensures.imports_count in
    let past = c.if-ordinal-table_at.true in
    omega (arith, below, read, count, past)

pub returns-clause-found : goal.returns-clause-found
returns-clause-found c w is =
    let b = c.args.bytes.now in
    let s = c.args.segment in
    let word = c.in_ok-word.word in
    let a = address_in b s.place c.args.offset in
    let has : HasWord b (segment_there b s.place) a word = subst (λ x. HasWord b (segment_there b s.place) (x + c.args.offset) word)
    c.segment_at.ensures.address (c.in_ok-word.ensures.found word refl) in
    let holds : page_holds (segment_there b s.place) c.args.page a ≡ true =
    subst (λ x. page_holds (segment_there b s.place) c.args.page (x + c.args.offset) ≡ true) c.segment_at.ensures.address
    (sym c.page_has.ensures ∙ c.if-not-page_has.false) in
    let import : is_bind word ≡ true → ordinal_of word < import_count b (tables_of b) = λ yes. elim c.else-binds.branch [
      | else-binds-via-then-binds+else-ordinal-table_at v ↦
          let read = v.ordinal.ensures in
          let count = v.table_at.ensures.imports_count in
          let below = v.if-ordinal-table_at.false in
          omega (arith, read, count, below, import_count_found b s.table c.requires.chained.table)
      | else-binds-via-else-binds v ↦ absurd (true_or_false (is_bind word) yes (sym c.binds.ensures ∙ v.if-binds.false))
    ] in
    subst (λ x. IsFittingWord b s.place c.args.page a x) (some_is word w is)
    (record { fits = fits_here b s.number s.place c.args.page a word c.requires.apart c.requires.chained.nth holds has import; has = has })
