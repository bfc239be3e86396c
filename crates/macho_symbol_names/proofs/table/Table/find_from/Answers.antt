use Rattle.std.proofs.Common.{◌∙◌, ◌<◌, ◌-◌, length, sym, ap, refl, arith}
use Rattle.macho_symbol_names.specs.Tables.{entry_name}
use Rattle.macho_symbol_names.proofs.Chains.{ahead_next, name_of_entry, next_smaller}
use Rattle.macho_symbol_names.proofs.table.Table.find_from.Goals as goal

pub returns-then-is_named-clause-found : goal.returns-then-is_named-clause-found
returns-then-is_named-clause-found c =
    let within : c.loop-at.at - 1 < length c.args.self.now.entries.items = omega (arith, c.loop-at.invariant.within) in (
      within,
      name_of_entry _ _ _ _ within ∙ ap (entry_name c.args.files.now) (sym c.index-entry.ensures) ∙ c.if-is_named.ensures.yes refl,
    )

pub loop-at-smaller : goal.loop-at-smaller
loop-at-smaller c = next_smaller _ _ _ _ _ _ _ c.requires.table c.loop-at.invariant (omega arith) c.index-entry.ensures

pub loop-at-preserved : goal.loop-at-preserved
loop-at-preserved c =
    ahead_next _ _ _ _ _ _ _ c.requires.table c.loop-at.invariant (omega arith) c.index-entry.ensures (c.if-is_named.ensures.no refl)
