use Rattle.std.proofs.Common.{◌≡◌, ℕ, Some, ◌∙◌, ap, sym, map, refl}
use Rattle.indexmap.specs.IndexSet.{insert_key}
use Rattle.macho_records.specs.declared.constants.TheConstants.{ARM64_RELOC_BRANCH26}
use Rattle.macho_model.specs.declared.targets.Target.{Target}
use Rattle.macho_model.specs.declared.targets.Target.TheVariants as target
use Rattle.macho_model.specs.Targets.{same_target}
use Rattle.macho_model.specs.Uses.{stub_of_relocation}
use Rattle.macho_needs.specs.Tables.{Numbered, target_of, with_some}
use Rattle.macho_symbols.specs.Entries.{entry_of}
use Rattle.macho_needs.proofs.Mapped.{stub_put}
use Rattle.macho_needs.proofs.tables.Tables.note_stub.Goals as goal

needed : (kind : ℕ) (t : Target) (id : ℕ) → kind ≡ ARM64_RELOC_BRANCH26 → t ≡ target.Import id
    → stub_of_relocation kind t ≡ Some (target.Import id)
needed kind t id branch import = rw (branch, import) refl

pub returns-in_ok-insert : goal.returns-in_ok-insert
returns-in_ok-insert c =
    let put = ap (map target.Import) c.in_ok-insert.ensures.keys ∙ stub_put c.self.inside.stubs.keys c.in-Import.id in
    let same = needed c.args.kind c.args.target c.in-Import.id c.if-kind-ne-ARM64_RELOC_BRANCH26.false c.in-Import.is in
    ap (λ stubs. record { slots = map target_of c.self.inside.slots.keys; stubs = stubs; own = map entry_of c.self.inside.own.keys }) put
    ∙ ap (λ (t : Numbered). record t { stubs = insert_key same_target t.stubs (target.Import c.in-Import.id) }) c.self.view_is
    ∙ ap (λ o. record c.args.self.now { stubs = with_some same_target c.args.self.now.stubs o }) (sym same)
