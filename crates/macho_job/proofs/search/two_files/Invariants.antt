use Rattle.std.proofs.Common.{◌≡◌, [], ◌∷◌, map, take}
use Rattle.std.specs.List.{flat_map}
use Rattle.std.specs.String.{string_bytes}
use Rattle.macho_args.specs.Effects.{joined}
use Rattle.macho_job.proofs.search.two_files.Given as goal

-- the folders so far have their two files
abbrev pub invariant-loop-folder : goal.invariant-loop-folder
invariant-loop-folder l =
    map string_bytes l.paths.items
    ≡ flat_map (λ folder. joined folder l.first ∷ joined folder l.second ∷ []) (map string_bytes (take l.folder-index l.folders))
