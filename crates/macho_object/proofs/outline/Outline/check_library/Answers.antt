use Rattle.std.proofs.Common.{◌≡◌, [], ◌∷◌}
use Rattle.macho_model.specs.Commands.{command_at, numbered}
use Rattle.macho_model.specs.Objects.{install_name_of}
use Rattle.macho_model.specs.ObjectRules.{path_ends}
use Rattle.macho_object.proofs.Options.{some_if, none_if}
use Rattle.macho_object.proofs.Breaks.{whole_library}
use Rattle.macho_object.proofs.Libraries.{is_library, path_breaks}
use Rattle.macho_object.proofs.outline.Outline.check_library.Goals as goal

pub returns-in_default-clause-why : goal.returns-in_default-clause-why
returns-in_default-clause-why c =
    let b = c.args.self.now.input.now in
    let main = c.args.self.now.places.main in
    let only : numbered 13 b ≡ command_at b main ∷ [] = rw c.requires.library at c.requires.outlined.commands.main_only in
    path_breaks b main only (none_if (path_ends b (command_at b main)) (install_name_of b) c.in_default.ensures)
    (whole_library b c.args.self.now.places c.args.self.now.is_dynamic c.requires.outlined.commands c.requires.library)

pub returns-clause-ok : goal.returns-clause-ok
returns-clause-ok c =
    let b = c.args.self.now.input.now in
    let main = c.args.self.now.places.main in
    is_library c.args.self.now c.requires.outlined c.requires.library
    (some_if (path_ends b (command_at b main)) _ (install_name_of b) c.in-Some.ensures).0 c.in_ok-check_names.ensures.ok
