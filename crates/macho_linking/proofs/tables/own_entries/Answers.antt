use Rattle.std.proofs.Common.{sym, ap, ◌∙◌, arith}
use Rattle.std.specs.Option.{option_map}
use Rattle.macho_symbols.specs.Entries.{entry_of}
use Rattle.macho_linking.proofs.OwnEntries.{own_more, none_lacks}
use Rattle.macho_linking.proofs.tables.own_entries.Goals as goal
use Rattle.macho_linking.proofs.tables.own_entries.Goals.{in-Some+in_ok-push, in_default}

pub loop-number-preserved : goal.loop-number-preserved
loop-number-preserved c =
    elim c.match-own_entry.branch [
      | in-Some+in_ok-push w ↦
          own_more
          c.loop-number.own.items
          c.match-own_entry.own.items
          w.in-Some.entry
          c.args.tables.now.own
          c.loop-number.number
          c.loop-number.invariant
          (sym c.own_entry.ensures ∙ ap (option_map entry_of) w.in-Some.is)
          (ap (λ v. v.items) w.own-is ∙ w.in_ok-push.ensures.items)
      | in_default w ↦
          absurd
          (none_lacks c.args.tables.now.own c.loop-number.number
          (omega (arith, c.loop-number-test.true, c.num_own-number-end.ensures))
          (ap (option_map entry_of) (sym w.in_default.is) ∙ c.own_entry.ensures))
    ]
