-- Where something is offered, the lines of both lists stand under the targets.
use Rattle.std.proofs.Common.{◌++◌, sym, ap, ◌∙◌}
use Rattle.std.proofs.lemmas.List.{append-nil}
use Rattle.std.specs.String.{string_bytes}
use Rattle.macho_tbd.proofs.Writing.{nothing_pushed, exports_pushed}
use Rattle.macho_tbd.proofs.text.push_exports.Goals as goal

pub returns-then-offers_nothing : goal.returns-then-offers_nothing
returns-then-offers_nothing c =
    let names = c.args.library.now.names.items in
    let weak_names = c.args.library.now.weak_names.items in
    sym (ap (λ xs. string_bytes c.args.text.now ++ xs)
    (nothing_pushed names weak_names (sym c.offers_nothing.ensures ∙ c.if-offers_nothing.true)) ∙ append-nil (string_bytes c.args.text.now))

pub returns : goal.returns
returns c =
    exports_pushed c.args.library.now.names.items c.args.library.now.weak_names.items c.deref.result.now c.deref-2.result.now
    (string_bytes c.args.text.now) _ _ _ (sym c.offers_nothing.ensures ∙ c.if-offers_nothing.false) c.deref.ensures.value
    c.deref-2.ensures.value c.in_ok-push_str.ensures.bytes c.in_ok-push_line.ensures c.in_ok-push_line-2.ensures
