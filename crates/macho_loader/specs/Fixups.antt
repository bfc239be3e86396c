-- What the loader's view says of a word on a chain, in the words of the definitions.
use Rattle.std.specs.Prelude.{Option, Some, None}
use Rattle.std.specs.Int.{w64, cast_unsigned}
use Rattle.macho_model.specs.ReadBack as model
use Rattle.macho_loader.specs.declared.fixups.LoadedFixup.{LoadedFixup}
use Rattle.macho_loader.specs.declared.fixups.LoadedFixup.TheVariants as answer

-- an answer of the view: its addend is signed, and stands for a number modulo 2 ^ 64
abbrev pub fixup_of : LoadedFixup → model.LoadedFixup
fixup_of (answer.Rebase value) = model.LoadedFixup.Rebase value
fixup_of (answer.Bind library name addend) = model.LoadedFixup.Bind library name.now (cast_unsigned w64 addend)

abbrev pub found_of : Option LoadedFixup → Option model.LoadedFixup
found_of None = None
found_of (Some f) = Some (fixup_of f)
