-- The bytes of load commands as they are summed up.
use Rattle.std.specs.Prelude.{ℕ, ◌+◌, ◌*◌, if◌then◌else◌, length, sum_by}
use Rattle.macho_model.specs.HeadCommands.{DYLINKER, path_command_size}
use Rattle.macho_linkedit.specs.declared.counting.SizesAsked.{SizesAsked}

abbrev pub own_asked : SizesAsked → ℕ
own_asked a = if a.arguments.executable then 24 + path_command_size 12 DYLINKER else path_command_size 24 a.arguments.install_name.now

abbrev pub versions_asked : SizesAsked → ℕ
versions_asked a = if a.arguments.has_versions then 24 + 8 else 0

abbrev pub commands_asked : SizesAsked → ℕ
commands_asked a =
    own_asked a + 24 + versions_asked a + sum_by (λ p. path_command_size 24 p.items) a.libraries.now + sum_by
    (λ p. path_command_size 12 p.items) a.arguments.rpaths.now
    + 3 * 16 + 24

abbrev pub padding_asked : SizesAsked → ℕ
padding_asked a =
    if a.arguments.headerpad
    then (if a.arguments.executable then 1024 * (length a.libraries.now + length a.arguments.rpaths.now) else 1024 *
    (length a.libraries.now + length a.arguments.rpaths.now + 1))
    else 0
