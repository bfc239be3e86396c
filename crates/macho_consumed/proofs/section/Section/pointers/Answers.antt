use Rattle.std.proofs.Common.{arith, refl}
use Rattle.macho_consumed.specs.declared.places.Cell.TheVariants.{Empty}
use Rattle.macho_consumed.proofs.InEntries.{cell_tells}
use Rattle.macho_consumed.proofs.UnfitEntries.{some_at_eight}
use Rattle.macho_consumed.proofs.section.Section.pointers.Goals as goal

pub returns-then-not-is_empty-clause-why : goal.returns-then-not-is_empty-clause-why
returns-then-not-is_empty-clause-why c =
    some_at_eight _ _ c.args.entry _ (cell_tells _ _ _ 1 _ _ c.requires.table c.requires.within (omega arith) refl)
    (c.is_empty.ensures.some c.if-not-is_empty.true)

pub returns-clause-done : goal.returns-clause-done
returns-clause-done c = record {
  start_at = c.in_ok-pointer.ensures.done;
  between_at = cell_tells _ _ c.args.entry 1 _ Empty c.requires.table c.requires.within (omega arith)
      (c.is_empty.ensures.empty c.if-not-is_empty.false);
  personality_at = c.in_ok-pointer-2.ensures.done;
  lsda_at = c.in_ok-pointer-3.ensures.done;
}
