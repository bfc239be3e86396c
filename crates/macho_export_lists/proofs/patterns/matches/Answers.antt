use Rattle.std.proofs.Common.{◌≡◌, ◌+◌, ◌&&◌, ap, sym, ◌∙◌, arith, true, drop, take, length}
use Rattle.std.proofs.lemmas.Bool.{and_left}
use Rattle.std.specs.Str.{bytes_eq}
use Rattle.macho_export_lists.specs.steps.Matching.{matches_behind}
use Rattle.macho_export_lists.proofs.Matching.{whole, plain_entry, plain_from}
use Rattle.macho_export_lists.proofs.patterns.matches.Goals as goal

pub returns-in_default : goal.returns-in_default
returns-in_default c = c.eq.ensures ∙ sym (plain_entry c.args.entry.now c.args.name.now (plain_from c.args.entry.now c.in_default.ensures))

pub returns-then-not-starts_with : goal.returns-then-not-starts_with
returns-then-not-starts_with c =
    let other = sym c.starts_with.ensures.value ∙ c.if-not-starts_with.true in
    sym (whole c.args.entry.now c.args.name.now c.in-Some.star c.in-Some.ensures.0 c.in-Some.ensures.1 ∙ and_left _ _ other)

pub returns : goal.returns
returns c =
    let begins : bytes_eq (take c.in-Some.star c.args.entry.now) (take (length (take c.in-Some.star c.args.entry.now)) c.args.name.now)
    ≡ true =
    sym c.starts_with.ensures.value ∙ c.if-not-starts_with.false in
    c.matches_behind.ensures ∙ ap (λ e. matches_behind e c.behind-2.result.now) c.behind.ensures
    ∙ ap (matches_behind (drop (c.in-Some.star + 1) c.args.entry.now))
    (c.behind-2.ensures ∙ ap (λ n. drop n c.args.name.now) (omega arith))
    ∙ ap (λ t. t && matches_behind (drop (c.in-Some.star + 1) c.args.entry.now) (drop c.in-Some.star c.args.name.now)) (sym begins)
    ∙ sym (whole c.args.entry.now c.args.name.now c.in-Some.star c.in-Some.ensures.0 c.in-Some.ensures.1)
