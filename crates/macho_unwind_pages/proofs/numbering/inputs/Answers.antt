-- One entry more goes behind those before it.
use Rattle.std.proofs.Common.{sym}
use Rattle.std.proofs.lemmas.List.{map_more}
use Rattle.macho_unwind_pages.specs.Entries.{input_of}
use Rattle.macho_unwind_pages.proofs.numbering.inputs.Goals as goal

pub loop-entry-preserved : goal.loop-entry-preserved
loop-entry-preserved c =
    rw (c.in_ok-push.ensures.items, c.loop-entry.invariant, c.input.ensures)
    (sym (map_more input_of c.args.entries.now _ _ c.loop-entry-test.true))
