use Rattle.std.proofs.Common.{arith, ap, sym, ◌∙◌}
use Rattle.macho_export_lists.specs.Entries.{texts_of}
use Rattle.macho_export_lists.specs.steps.Indexed.{is_match_from}
use Rattle.macho_export_lists.proofs.Indexed.{tried_under, none_under}
use Rattle.macho_export_lists.proofs.parts.PartTable.matches_under.Goals as goal

pub returns-then-matches_from : goal.returns-then-matches_from
returns-then-matches_from c =
    let patterns = texts_of c.args.patterns.now in
    let first = sym c.first_place-first.ensures in
    sym (tried_under c.args.self.now patterns c.args.name.now c.args.count c.loop-at.at (omega arith) (omega (arith, first))
    (omega (arith, c.last_place-last.ensures))
    (ap (λ f. is_match_from c.args.self.now patterns c.args.name.now c.args.count f c.loop-at.at) first ∙ sym c.if-matches_from.ensures))

pub returns : goal.returns
returns c =
    let patterns = texts_of c.args.patterns.now in
    let first = sym c.first_place-first.ensures in
    sym (none_under c.args.self.now patterns c.args.name.now c.args.count (omega arith)
    (λ k low high. ap (λ f. is_match_from c.args.self.now patterns c.args.name.now c.args.count f k) first
    ∙ c.loop-at.invariant k (omega (arith, low, first)) (omega (arith, high, c.last_place-last.ensures))))
