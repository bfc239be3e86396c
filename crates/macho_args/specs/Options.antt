-- The options of the command line, by name. The manual page ld(1) of Apple's linker says what
-- they mean there.
use Rattle.std.specs.Prelude.{ℕ, List, [], ◌∷◌, ◌++◌, map, codes, Option, Some, None, nat_eq, if◌then◌else◌}
use Rattle.std.specs.List.{starts_with}
use Rattle.std.specs.Map.{lookup}
use Rattle.std.specs.Str.{bytes_eq}
use Rattle.macho_args.specs.declared.options.LinkOption.{LinkOption}
use Rattle.macho_args.specs.declared.options.LinkOption.TheVariants.{Sets, Takes, PlatformVersion, Ignored, Refused}
use Rattle.macho_args.specs.declared.options.Flag.TheVariants.{Dylib, DeadStripDylibs, HeaderpadMaxInstallNames, Map}
use Rattle.macho_args.specs.declared.options.Valued.{Valued}
use Rattle.macho_args.specs.declared.options.Valued.TheVariants.{Output, Entry, InstallName, LtoLibrary, ExportedSymbolsList, Rpath, LibraryPath, FrameworkPath, Root, Library, Framework, Arch, Mllvm, Uuid, Generate}

-- the names, and the option that each stands for
abbrev pub option_rows : List (List ℕ × LinkOption)
option_rows =
    (codes "-dylib", Sets Dylib)
    ∷ (codes "-dead_strip_dylibs", Sets DeadStripDylibs)
    ∷ (codes "-headerpad_max_install_names", Sets HeaderpadMaxInstallNames)
    ∷ (codes "-map", Sets Map)
    ∷ (codes "-o", Takes Output)
    ∷ (codes "-output", Takes Output)
    ∷ (codes "-e", Takes Entry)
    ∷ (codes "-install_name", Takes InstallName)
    ∷ (codes "-lto_library", Takes LtoLibrary)
    ∷ (codes "-exported_symbols_list", Takes ExportedSymbolsList)
    ∷ (codes "-rpath", Takes Rpath)
    ∷ (codes "-L", Takes LibraryPath)
    ∷ (codes "-F", Takes FrameworkPath)
    ∷ (codes "-syslibroot", Takes Root)
    ∷ (codes "-l", Takes Library)
    ∷ (codes "-framework", Takes Framework)
    ∷ (codes "-arch", Takes Arch)
    ∷ (codes "-mllvm", Takes Mllvm)
    ∷ (codes "-uuid", Takes Uuid)
    ∷ (codes "-generate", Takes Generate)
    ∷ (codes "-platform_version", PlatformVersion)
    ∷ map (λ name. (name, Ignored))
    (codes "-no_deduplicate" ∷ codes "-search_paths_first" ∷ codes "-no_warn_duplicate_libraries" ∷ codes "-demangle" ∷ codes "-dynamic"
    ∷ codes "-init_offsets" ∷ codes "-dead_strip" ∷ codes "-export_dynamic" ∷ codes "-O0" ∷ codes "-O1" ∷ codes "-O2" ∷ codes "-O3" ∷ [])
    ++ map (λ name. (name, Refused)) (codes "-sectcreate" ∷ codes "-help" ∷ codes "-version" ∷ [])

-- the option whose name is the word
unfoldable pub option_named : List ℕ → Option LinkOption
option_named word = lookup (λ name. bytes_eq name word) option_rows

-- The option whose value stands in the same word, behind its two letters. A word that is a name of the
-- table isn't read so.
unfoldable pub joined_option : List ℕ → Option Valued
joined_option word =
    if starts_with nat_eq word (codes "-F") then Some FrameworkPath
    else if starts_with nat_eq word (codes "-L") then Some LibraryPath
    else if starts_with nat_eq word (codes "-l") then Some Library
    else None
