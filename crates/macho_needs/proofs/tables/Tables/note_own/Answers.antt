use Rattle.std.proofs.Common.{◌≡◌, ℕ, ◌≤◌, true, false, Some, None, ◌∙◌, ap, sym, map, nat_lt, arith, if◌then◌else◌}
use Rattle.std.proofs.lemmas.Bool.Decides.{nat_tests}
use Rattle.indexmap.specs.IndexSet.{insert_key}
use Rattle.macho_model.specs.declared.targets.Target.{Target}
use Rattle.macho_model.specs.declared.targets.Target.TheVariants as target
use Rattle.macho_model.specs.Fixups.{EntryOfImport, same_entry, own_entry}
use Rattle.macho_needs.specs.Tables.{Numbered, target_of, with_some}
use Rattle.macho_symbols.specs.Entries.{entry_of}
use Rattle.macho_needs.proofs.Mapped.{own_put}
use Rattle.macho_needs.proofs.tables.Tables.note_own.Goals as goal

needed : (t : Target) (id addend : ℕ) → 256 ≤ addend → t ≡ target.Import id
    → own_entry true t addend ≡ Some (record { import = id; addend = addend })
needed t id addend much import =
    let test : nat_lt addend 256 ≡ false = grind (arith, nat_tests) in
    ap (λ u. own_entry true u addend) import ∙ ap (λ b. if b then None else Some (record { import = id; addend = addend })) test

pub returns-in_ok-insert : goal.returns-in_ok-insert
returns-in_ok-insert c =
    let entry : EntryOfImport = record { import = c.in-Import.id; addend = c.args.addend } in
    let put = ap (map entry_of) c.in_ok-insert.ensures.keys
    ∙ own_put c.self.inside.own.keys (record { import = c.in-Import.id; addend = c.args.addend }) in
    let same = needed c.args.target c.in-Import.id c.args.addend c.if-addend-lt256.false c.in-Import.is in
    ap (λ own. record { slots = map target_of c.self.inside.slots.keys; stubs = map target.Import c.self.inside.stubs.keys; own = own }) put
    ∙ ap (λ (t : Numbered). record t { own = insert_key same_entry t.own entry }) c.self.view_is
    ∙ ap (λ o. record c.args.self.now { own = with_some same_entry c.args.self.now.own o }) (sym same)
