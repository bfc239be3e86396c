-- One symbol more is skipped, or added with the bytes of its name.
use Rattle.std.proofs.Common.{◌≡◌, ℕ, ◌+◌, List, sym, ap, subst, ◌∙◌, arith}
use Rattle.macho_model.specs.Objects.{num_symbols}
use Rattle.macho_linkedit.specs.declared.listing.TableSymbols.{TableSymbols}
use Rattle.macho_linkedit.specs.steps.Names.{AreNames}
use Rattle.macho_linkedit.specs.steps.Listing.{symbols_in, Lists}
use Rattle.macho_linkedit.proofs.Listed.{lists_none, lists_skip, lists_add}
use Rattle.macho_linkedit.proofs.listing.list_object.Goals as goal
use Rattle.macho_linkedit.proofs.listing.list_object.Goals.{in-Some+in_ok-push, in_default}

pub listed_name-requires-clause-known : goal.listed_name-requires-clause-known
listed_name-requires-clause-known c =
    c.requires.known c.loop-symbol.symbol (omega (arith, c.loop-symbol-test.true, c.num_symbols-symbol-end.ensures))

pub loop-symbol-init : goal.loop-symbol-init
loop-symbol-init c = record {
  done = λ l noted resolved is. lists_none l c.args.object.now.number c.args.object.now.file.bytes c.args.table.now;
  names = subst (λ (xs : List ℕ). AreNames xs c.new-names.result) c.strings.ensures c.new-names.ensures;
  room = omega arith;
}

pub loop-symbol-preserved : goal.loop-symbol-preserved
loop-symbol-preserved c =
    elim c.match-listed.branch [
      | in-Some+in_ok-push w ↦ record {
        done = λ l noted resolved is.
            lists_add l c.args.object.now.number c.loop-symbol.symbol w.in-Some.length c.args.object.now.file.bytes c.args.table.now
            c.loop-symbol.table
            c.match-listed.table (c.loop-symbol.invariant.done l noted resolved is)
            (sym w.in-Some.is ∙ c.in_ok-listed.ensures.is l noted resolved is)
            (ap (λ (t : TableSymbols). t.symbols.items) w.table-is ∙ w.in_ok-push.ensures.items)
            (omega (arith, ap (λ (t : TableSymbols). t.strings) w.table-is, w.from.ensures));
        names = c.in_ok-listed.ensures.kept;
        room =
            omega (arith, ap (λ (t : TableSymbols). t.strings) w.table-is, w.from.ensures, c.loop-symbol.invariant.room);
      }
      | in_default w ↦ record {
        done = λ l noted resolved is.
            subst (λ (t : TableSymbols). Lists l
            (symbols_in c.args.object.now.number c.args.object.now.file.bytes (c.loop-symbol.symbol + 1)) c.args.table.now t)
            (sym w.table-is)
            (lists_skip l c.args.object.now.number c.loop-symbol.symbol c.args.object.now.file.bytes c.args.table.now c.loop-symbol.table
            (c.loop-symbol.invariant.done l noted resolved is) (sym w.in_default.is ∙ c.in_ok-listed.ensures.is l noted resolved is));
        names = c.in_ok-listed.ensures.kept;
        room = omega (arith, ap (λ (t : TableSymbols). t.strings) w.table-is, c.loop-symbol.invariant.room);
      }
    ]

pub returns-clause-done : goal.returns-clause-done
returns-clause-done c l noted resolved is =
    let end : c.loop-symbol.symbol ≡ num_symbols c.args.object.now.file.bytes
    = omega (arith, c.loop-symbol-test.false, c.num_symbols-symbol-end.ensures, c.loop-symbol.auto.symbol-end) in
    subst (λ (n : ℕ). Lists l (symbols_in c.args.object.now.number c.args.object.now.file.bytes n) c.args.table.now c.loop-symbol.table) end
    (c.loop-symbol.invariant.done l noted resolved is)
