-- The paths so far are words below the folder.
use Rattle.std.proofs.Common.{◌≡◌, map, take}
use Rattle.std.specs.String.{string_bytes}
use Rattle.ld64_words.specs.Files.{below}
use Rattle.ld64_words.specs.Words.{input_word}
use Rattle.ld64_words.proofs.files.all_inputs.Given as goal

abbrev pub invariant-loop-path : goal.invariant-loop-path
invariant-loop-path l =
    map string_bytes l.words.items
    ≡ map (λ path. input_word (below l.folder path)) (map (λ path. path.items) (take l.path-index l.paths))
