use Rattle.std.proofs.Common.{◌≡◌, ap, ◌∙◌, refl, Option, Some, None, is_some, Bor}
use Rattle.std.specs.Option.{option_copied}
use Rattle.macho_symbols.specs.steps.Exporting.{is_listed_in}
use Rattle.macho_symbols.specs.Kept.{noted_of}
use Rattle.macho_symbols.proofs.OpenNames.{exported_then, exported_else}
use Rattle.macho_symbols.proofs.solved.Solved.is_exported.Goals as goal

copied : {X : Type 0} (o : Option (Bor X)) → is_some o ≡ is_some (option_copied o)
copied None = refl
copied (Some x) = refl

pub returns-then-is_open : goal.returns-then-is_open
returns-then-is_open c =
    let s = c.args.self.now in
    c.is_listed.ensures ∙ ap (is_listed_in (option_copied c.args.list)) c.entry_name.ensures
    ∙ exported_then s.files.items (noted_of s.imports.items) (option_copied c.args.list) _ c.is_some.result c.is_open.result
    (c.is_some.ensures ∙ copied c.args.list) c.is_open.ensures c.if-is_open.true

pub returns-else-is_open : goal.returns-else-is_open
returns-else-is_open c =
    let s = c.args.self.now in
    exported_else s.files.items (noted_of s.imports.items) (option_copied c.args.list) _ c.is_some.result c.is_open.result
    (c.is_some.ensures ∙ copied c.args.list) c.is_open.ensures c.if-is_open.false
