use Rattle.std.proofs.Common.{◌∙◌, ap, map}
use Rattle.indexmap.specs.IndexSet.{insert_key}
use Rattle.macho_model.specs.declared.targets.Target.TheVariants as target
use Rattle.macho_model.specs.Targets.{same_target}
use Rattle.macho_needs.specs.Tables.{Numbered, target_of}
use Rattle.macho_symbols.specs.Entries.{entry_of}
use Rattle.macho_needs.proofs.Mapped.{slot_put}
use Rattle.macho_needs.proofs.tables.Tables.add_slot.Goals as goal

pub returns : goal.returns
returns c =
    let put = ap (map target_of) c.in_ok-insert.ensures.keys ∙ slot_put c.self.inside.slots.keys c.key.result
    ∙ ap (insert_key same_target (map target_of c.self.inside.slots.keys)) c.key.ensures in
    ap (λ slots. record {
      slots = slots;
      stubs = map target.Import c.self.inside.stubs.keys;
      own = map entry_of c.self.inside.own.keys;
    }) put
    ∙ ap (λ (t : Numbered). record t { slots = insert_key same_target t.slots c.args.target }) c.self.view_is
