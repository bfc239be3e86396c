-- The code of one entry more goes behind the codes of those before it.
use Rattle.std.proofs.Common.{sym}
use Rattle.std.proofs.lemmas.List.{map_more}
use Rattle.macho_unwind_pages.specs.Entries.{code_in}
use Rattle.macho_unwind_pages.proofs.numbering.codes.Goals as goal

pub loop-entry-preserved : goal.loop-entry-preserved
loop-entry-preserved c =
    rw (c.in_ok-push.ensures.items, c.loop-entry.invariant, c.code.ensures)
    (sym (map_more (code_in c.args.ids.now) c.args.entries.now _ _ c.loop-entry-test.true))
