-- The record is among those that are kept, or it has no start and is kept in place of the oldest one.
use Rattle.std.proofs.Common.{arith}
use Rattle.std.proofs.lemmas.List.Elements.{All-set}
use Rattle.macho_loader.specs.steps.Blank.{IsBlank}
use Rattle.macho_loader.proofs.BlankRecords.{blank_place}
use Rattle.macho_loader.proofs.blank.Blank.holds.Goals as goal

pub returns-then-pages_in-gt0-clause-blank : goal.returns-then-pages_in-gt0-clause-blank
returns-then-pages_in-gt0-clause-blank c =
    let b = c.args.bytes.now in
    let s = c.args.segment in
    let at = c.place_of_segment-at.result in
    let some = c.if-pages_in-gt0.true in
    let pages = c.pages_in.ensures in
    record {
      each = All-set (IsBlank b s.table) c.args.self.now.places c.args.self.now.next at
          (blank_place b s.table s.number at c.requires.table c.place_of_segment-at.ensures.value (omega (arith, some, pages))
          (c.has_no_start.ensures c.if-not-has_no_start.false))
          c.requires.blank.each;
      among = omega arith;
    }
