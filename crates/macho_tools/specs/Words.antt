-- Programs whose words can't be had.
use Rattle.std.specs.Prelude.{ℕ}
use Rattle.macho_tools.specs.declared.words.BadWords.{BadWords}
use Rattle.macho_tools.specs.declared.words.BadWords.TheVariants.{NotUtf8, TooMany, OutOfMemory}

-- the status that such a program ends with
abbrev pub status_of_bad : BadWords → ℕ
status_of_bad OutOfMemory = 5
status_of_bad TooMany = 6
status_of_bad (NotUtf8 word) = 6
