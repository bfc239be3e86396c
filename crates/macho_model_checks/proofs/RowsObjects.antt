-- What the definitions of objects say of small inputs, by computing.
use Rattle.std.proofs.Common.{◌≡◌, [], ◌∷◌, refl}
use Rattle.std.specs.Prelude.{codes}
use Rattle.macho_bytes.specs.Numbers.{le_at, le_bytes, row_bytes}
use Rattle.macho_bytes.specs.Layouts.{reading}
use Rattle.macho_model.specs.Commands.{header_of, commands_from, commands_of}
use Rattle.macho_model.specs.Objects.{section_place, section_at, section_bytes, symtab_of, symbol_place, symbol_at, strings_of, symbol_name}
use Rattle.macho_model_checks.proofs.Examples.{words8, words, name16, object_a}

-- the commands, by place, number and size
commands_of_object : commands_of object_a ≡ record { at = 32; number = 0x19; size = 152 } ∷ record { at = 184; number = 2; size = 24 } ∷ []
unfolding commands_of commands_from header_of reading le_at row_bytes le_bytes words8 words name16 object_a
commands_of_object = refl

-- the symbol's name
name_of_symbol : symbol_name object_a 0 ≡ codes "_main"
unfolding symbol_name symbol_at symbol_place strings_of symtab_of commands_of commands_from header_of reading le_at row_bytes le_bytes
    words8 words name16 object_a
name_of_symbol = refl
