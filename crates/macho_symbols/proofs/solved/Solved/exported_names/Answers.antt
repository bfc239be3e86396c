use Rattle.std.proofs.Common.{sym, ◌∙◌, subst, arith, ◌+◌}
use Rattle.std.specs.Option.{option_copied}
use Rattle.std.proofs.lemmas.List.Sorted.{All-permutation}
use Rattle.macho_symbol_names.specs.Tables.{heads_of}
use Rattle.macho_symbols.specs.steps.Exporting.{AreFound, IsPairIn, is_exported_in}
use Rattle.macho_symbols.specs.Kept.{noted_of}
use Rattle.macho_symbols.proofs.InOrder.{found_none, found_more, found_same, in_order}
use Rattle.macho_symbols.proofs.OpenNames.{nowhere_closed}
use Rattle.macho_symbols.proofs.solved.Solved.exported_names.Goals as goal

pub loop-number-init : goal.loop-number-init
loop-number-init c =
    let s = c.args.self.now in
    let test = is_exported_in s.files.items (noted_of s.imports.items) (option_copied c.args.list) in
    subst (AreFound s.files.items s.table.entries.items test 0) (sym c.new-names.ensures.items)
    (found_none s.files.items s.table.entries.items test)

pub loop-number-preserved : goal.loop-number-preserved
loop-number-preserved c =
    let s = c.args.self.now in
    let test = is_exported_in s.files.items (noted_of s.imports.items) (option_copied c.args.list) in
    subst (AreFound s.files.items s.table.entries.items test (c.loop-number.number + 1)) (sym c.in_ok-push.ensures.items)
    (found_more s.files.items s.table.entries.items test c.loop-number.number c.loop-number.names.items c.entry_name-name.result
    c.loop-number.invariant
    (omega arith) c.entry_name-name.ensures (sym c.is_exported.ensures ∙ c.if-not-is_exported.false))

pub loop-number-preserved-then-not-is_exported : goal.loop-number-preserved-then-not-is_exported
loop-number-preserved-then-not-is_exported c =
    let s = c.args.self.now in
    found_same s.files.items s.table.entries.items
    (is_exported_in s.files.items (noted_of s.imports.items) (option_copied c.args.list)) c.loop-number.number
    c.loop-number.names.items c.loop-number.invariant (omega arith) (sym c.is_exported.ensures ∙ c.if-not-is_exported.true)

pub returns-clause-each : goal.returns-clause-each
returns-clause-each c =
    let s = c.args.self.now in
    All-permutation
    (IsPairIn s.files.items s.table.entries.items) c.loop-number.names.items c.sort.new.self.items c.sort.ensures.permutation
    c.loop-number.invariant.each

pub returns-clause-order : goal.returns-clause-order
returns-clause-order c =
    let s = c.args.self.now in
    let test = is_exported_in s.files.items (noted_of s.imports.items) (option_copied c.args.list) in
    in_order s.files.items (heads_of s.table) s.table.entries.items test c.loop-number.number c.loop-number.names.items
    c.sort.new.self.items
    c.requires.known.table (λ name. nowhere_closed s (option_copied c.args.list) name c.requires) (omega arith) c.loop-number.invariant
    c.in_ok-sort.ensures.permutation c.in_ok-sort.ensures.sorted
