use Rattle.std.proofs.Common.{◌*◌, ◌∙◌, sym, ap, arith}
use Rattle.macho_model.specs.Consumed.{is_plain_pointer}
use Rattle.macho_consumed.specs.declared.places.Cell.TheVariants.{Empty, One, Several}
use Rattle.macho_consumed.proofs.InEntries.{small_address, cell_tells, cell_inside}
use Rattle.macho_consumed.proofs.UnfitEntries.{unfit_at, several_at}
use Rattle.macho_consumed.proofs.section.Section.pointer.Goals as goal

pub relocation-requires : goal.relocation-requires
relocation-requires c = cell_inside _ _ c.args.entry c.args.at _ _ c.requires.table c.requires.within (small_address _ c.requires.address)
    c.in-One.is

pub returns-then-not-is_plain_pointer-clause-why : goal.returns-then-not-is_plain_pointer-clause-why
returns-then-not-is_plain_pointer-clause-why c =
    let small = small_address _ c.requires.address in
    unfit_at _ _ c.args.entry (8 * c.args.at) _ (cell_tells _ _ _ c.args.at _ _ c.requires.table c.requires.within small c.in-One.is)
    (omega (arith, small)) (sym (c.if-not-is_plain_pointer.ensures ∙ ap is_plain_pointer c.relocation.ensures.is))

pub returns-in-Empty-clause-done : goal.returns-in-Empty-clause-done
returns-in-Empty-clause-done c = record {
  list = cell_tells _ _ _ c.args.at _ Empty c.requires.table c.requires.within (small_address _ c.requires.address) c.in-Empty.is;
  pointer = tt;
}

pub returns-else-not-is_plain_pointer-clause-done : goal.returns-else-not-is_plain_pointer-clause-done
returns-else-not-is_plain_pointer-clause-done c =
    let small = small_address _ c.requires.address in
    record {
      list = cell_tells _ _ _ c.args.at _ (One c.in-One.number) c.requires.table c.requires.within small c.in-One.is;
      pointer = (
        cell_inside _ _ c.args.entry c.args.at _ _ c.requires.table c.requires.within small c.in-One.is,
        sym (c.if-not-is_plain_pointer.ensures ∙ ap is_plain_pointer c.relocation.ensures.is),
      );
    }

pub returns-in-Several-clause-why : goal.returns-in-Several-clause-why
returns-in-Several-clause-why c =
    several_at _ _ c.args.entry (8 * c.args.at) c.requires.address
    (cell_tells _ _ _ c.args.at _ Several c.requires.table c.requires.within (small_address _ c.requires.address) c.in-Several.is)
