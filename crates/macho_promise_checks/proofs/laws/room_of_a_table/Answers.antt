use Rattle.std.proofs.Common.{◌+◌, [], length, arith}
use Rattle.macho_promise_checks.proofs.laws.room_of_a_table.Goals as goal

pub returns-clause-pages : goal.returns-clause-pages
returns-clause-pages c = c.pages_are_bounded.ensures c.args.segment c.args.fixups.now c.requires

pub returns-clause-none : goal.returns-clause-none
returns-clause-none c = c.no_fixup_no_pages.ensures c.args.segment [] (λ k d lt. absurd (omega arith))

pub returns-clause-room : goal.returns-clause-room
returns-clause-room c =
    c.room_grows.ensures c.args.size c.args.entries (c.args.entries + 1) c.args.names (c.args.names + length c.args.name.now) c.args.pages
    (c.args.pages + 1) (omega arith) (omega arith) (omega arith)
