use Rattle.std.proofs.Common.{[], ◌∷◌, ◌∙◌, sym, append-nil}
use Rattle.macho_export_lists.proofs.Tables.{put_there, put_keeps}
use Rattle.macho_export_lists.proofs.parts.put_number.Goals as goal

pub returns-in_err-push-clause-kept : goal.returns-in_err-push-clause-kept
returns-in_err-push-clause-kept c =
    put_keeps c.args.groups.now.items c.args.group c.index_mut.result.now c.push.new.self [] c.requires c.index_mut.ensures.value
    (c.in_err-push.ensures.items ∙ sym (append-nil c.index_mut.result.now.items))

pub returns-clause-put : goal.returns-clause-put
returns-clause-put c =
    put_there c.args.groups.now.items c.args.group c.args.number c.index_mut.result.now c.push.new.self c.requires
    c.in_ok-push.ensures.items

pub returns-clause-kept : goal.returns-clause-kept
returns-clause-kept c =
    put_keeps c.args.groups.now.items c.args.group c.index_mut.result.now c.push.new.self (c.args.number ∷ []) c.requires
    c.index_mut.ensures.value c.in_ok-push.ensures.items
