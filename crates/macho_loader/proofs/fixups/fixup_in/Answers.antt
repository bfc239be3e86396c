-- What is found is the word of the chain; where none is found, there is no table, no word, or none on the chain.
use Rattle.std.proofs.Common.{◌+◌, ◌*◌, ◌^◌, ◌%◌, Some, refl, sym, ap, subst, ◌∙◌}
use Rattle.macho_model.specs.Memory.{rebase_target, rebase_high}
use Rattle.macho_model.specs.ReadBack.{IsLoadedFixup}
use Rattle.macho_image_walks.specs.Readings.{table_there}
use Rattle.macho_image_walks.proofs.NumberedWalk.{segment_has_word}
use Rattle.macho_image_walks.proofs.ListedLaws.{table_contains}
use Rattle.macho_loader.specs.Fixups.{found_of}
use Rattle.macho_loader.proofs.ChainLookups.{off_without_table, stands_on_page, import_among}
use Rattle.macho_loader.proofs.fixups.fixup_in.Goals as goal

pub returns-in_err-table : goal.returns-in_err-table
returns-in_err-table c =
    subst (λ r. IsLoadedFixup c.args.bytes.now c.args.address (found_of r)) (sym c.from_residual.ensures)
    (λ on. off_without_table c.args.bytes.now c.args.address c.requires.accepted (c.in_err-table.ensures.only refl) on)

pub returns-in_err-held : goal.returns-in_err-held
returns-in_err-held c =
    subst (λ r. IsLoadedFixup c.args.bytes.now c.args.address (found_of r)) (sym c.from_residual-in_err-held.ensures)
    (λ on. let s = stands_on_page c.args.bytes.now c.args.address c.requires.accepted on in
    c.in_err-held.ensures.only refl s.number s.place _ s.nth s.has)

pub is_on_chain-requires-clause-chained : goal.is_on_chain-requires-clause-chained
is_on_chain-requires-clause-chained c =
    record {
      table = c.in_ok-table.ensures.found c.in_ok-table.table refl;
      nth = (c.in_ok-held.ensures.found c.in_ok-held.held refl).nth;
    }

pub returns-then-binds : goal.returns-then-binds
returns-then-binds c =
    let b = c.args.bytes.now in
    let h = c.in_ok-held.held in
    let held = c.in_ok-held.ensures.found h refl in
    let first = c.in_ok-table.ensures.found c.in_ok-table.table refl in
    let on = c.is_on_chain.ensures.found c.if-not-is_on_chain.false in
    let yes = sym c.binds.ensures ∙ c.if-binds.true in
    subst (λ f. IsLoadedFixup b c.args.address (Some f)) (sym c.bound.ensures) (record {
      on = on;
      word = h.word;
      stands = segment_has_word b h.number h.place c.args.address h.word held.nth held.has;
      binds = yes;
      table = table_there b c.in_ok-table.table;
      one = table_contains b 0 c.in_ok-table.table first;
      import = import_among b h.number h.place c.in_ok-table.table c.args.address h.word c.requires.accepted first held.nth held.has on yes;
      library_is = refl;
      name_is = refl;
      addend_is = refl;
    })

pub returns : goal.returns
returns c =
    let b = c.args.bytes.now in
    let h = c.in_ok-held.held in
    let held = c.in_ok-held.ensures.found h refl in
    record {
      on = c.is_on_chain.ensures.found c.if-not-is_on_chain.false;
      word = h.word;
      stands = segment_has_word b h.number h.place c.args.address h.word held.nth held.has;
      rebases = sym c.binds.ensures ∙ c.if-binds.false;
      is = c.rebased.ensures ∙ ap (λ x. (rebase_target h.word + rebase_high h.word * 2 ^ 56 + x) % 2 ^ 64) c.requires.base;
    }
