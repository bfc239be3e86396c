-- The imports are the entries of the one table; without a table there are none.
use Rattle.std.proofs.Common.{◌≡◌, IfOk, map, refl, ap, subst, ◌∙◌}
use Rattle.macho_loader.specs.Lists.{import_of}
use Rattle.macho_loader.proofs.CommandLists.{imports_found, imports_missing}
use Rattle.macho_loader.proofs.imports.imports_of.Goals as goal

pub returns-in-Some : goal.returns-in-Some
returns-in-Some c =
    subst (λ xs. IfOk c.list_imports.result (λ v. map import_of v.items ≡ xs))
    (imports_found c.args.bytes.now c.in-Some.table c.requires (c.in-Some.ensures.found c.in-Some.table refl)) c.list_imports.ensures

pub returns-in-None : goal.returns-in-None
returns-in-None c =
    ap (λ xs. map import_of xs) c.new.ensures.items ∙ imports_missing c.args.bytes.now (c.in-None.ensures.only refl)
