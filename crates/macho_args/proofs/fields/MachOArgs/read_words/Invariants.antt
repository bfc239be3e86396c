-- What is left of the words, read from the fields so far, is what all words say.
use Rattle.std.proofs.Common.{◌≡◌, map, drop}
use Rattle.std.specs.String.{string_bytes}
use Rattle.macho_args.specs.steps.KeptRoot.{keep_root}
use Rattle.macho_args.specs.Settings.{settings_of}
use Rattle.macho_args.specs.Words.{read_from}
use Rattle.macho_args.proofs.fields.MachOArgs.read_words.Given as goal

abbrev pub invariant-loop-i : goal.invariant-loop-i
invariant-loop-i l =
    read_from keep_root l.values l.i (map string_bytes (drop l.i l.words)) (settings_of l.self)
    ≡ read_from keep_root 0 0 (map string_bytes l.words) (settings_of l.fn.self)
