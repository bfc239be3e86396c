-- What each option does to the settings, and which values it takes.
use Rattle.std.specs.Prelude.{ℕ, ◌+◌, ◌==◌, List, [], ◌∷◌, ◌++◌, codes, true, nat_eq, if◌then◌else◌, Option, Some, None, option_and_then, Result, Ok, Err}
use Rattle.std.specs.List.{starts_with, ends_with, list_any}
use Rattle.std.specs.Option.{ok_or, unwrap_or}
use Rattle.std.specs.Result.{result_ok}
use Rattle.std.specs.Str.{bytes_eq}
use Rattle.hex.specs.Hex.{decode_sized}
use Rattle.macho_args.specs.declared.fault.ArgsFault.{ArgsFault}
use Rattle.macho_args.specs.declared.fault.ArgsFault.TheVariants.{Unsupported, BadVersion, BadPlatform, BadArch, BadUuid, BadNumber}
use Rattle.macho_args.specs.declared.options.Flag.{Flag}
use Rattle.macho_args.specs.declared.options.Flag.TheVariants.{Dylib, DeadStripDylibs, HeaderpadMaxInstallNames, Map}
use Rattle.macho_args.specs.declared.options.Valued.{Valued}
use Rattle.macho_args.specs.declared.options.Valued.TheVariants.{Output, Entry, InstallName, LtoLibrary, ExportedSymbolsList, Rpath, LibraryPath, FrameworkPath, Root, Library, Framework, Arch, Mllvm, Uuid, Generate}
use Rattle.macho_args.specs.Numbers.{number_up_to}
use Rattle.macho_args.specs.Settings.{Settings, library, framework}
use Rattle.macho_args.specs.Version.{version_of}

-- `r >>= f` is `?` of Rust: what f makes of the value, or the fault
infixl 10 ◌>>=◌
abbrev pub ◌>>=◌ : {A B : Type 0} → Result A ArgsFault → (A → Result B ArgsFault) → Result B ArgsFault
Ok x >>= f = f x
Err fault >>= f = Err fault

-- a flag is set
abbrev pub with_flag : Flag → Settings → Settings
with_flag Dylib s = record s { dylib = true }
with_flag DeadStripDylibs s = record s { dead_strip_dylibs = true }
with_flag HeaderpadMaxInstallNames s = record s { headerpad_max_install_names = true }
with_flag Map s = record s { map_lines = true }

-- a path below a root: one `/` stands between, and none is added where the root ends with it
unfoldable pub joined : List ℕ → List ℕ → List ℕ
joined root path = if ends_with nat_eq root (codes "/") then root ++ path else root ++ (codes "/" ++ path)

-- The root is the canonical path of a path, else that itself, and the library paths become its `usr/lib` alone.
abbrev pub at_root : (List ℕ → Option (List ℕ)) → List ℕ → Settings → Settings
at_root canonical path s =
    let root = unwrap_or (canonical path) path in
    record s { sysroot = Some root; lib_search_path = joined root (codes "usr/lib") ∷ [] }

-- The value of an option, which stands in the word i. `set_root` is what the path of `-syslibroot` does.
unfoldable pub with_value : (List ℕ → Settings → Settings) → Valued → ℕ → List ℕ → Settings → Result Settings ArgsFault
with_value set_root Output i v s = Ok (record s { output = v })
with_value set_root Entry i v s = Ok (record s { entry = v })
with_value set_root InstallName i v s = Ok (record s { install_name = Some v })
with_value set_root LtoLibrary i v s = Ok (record s { plugin_path = Some v })
with_value set_root ExportedSymbolsList i v s = Ok (record s { export_list_paths = s.export_list_paths ++ (i, v) ∷ [] })
-- a run path is kept once
with_value set_root Rpath i v s = Ok (record s { rpaths = if list_any (λ r. bytes_eq r v) s.rpaths then s.rpaths else s.rpaths ++ v ∷ [] })
with_value set_root LibraryPath i v s = Ok (record s { lib_search_path = s.lib_search_path ++ v ∷ [] })
with_value set_root FrameworkPath i v s = Ok (record s { framework_search_path = s.framework_search_path ++ v ∷ [] })
with_value set_root Root i v s = Ok (set_root v s)
with_value set_root Library i v s =
    if starts_with nat_eq v (codes ":") then Err (Unsupported i)
    else Ok (record s { inputs = s.inputs ++ record { kind = library; word = i; name = v } ∷ [] })
with_value set_root Framework i v s = Ok (record s { inputs = s.inputs ++ record { kind = framework; word = i; name = v } ∷ [] })
with_value set_root Arch i v s = if bytes_eq v (codes "arm64") then Ok s else Err (BadArch i)
with_value set_root Mllvm i v s =
    if bytes_eq v (codes "-enable-linkonceodr-outlining") then Ok s else Err (Unsupported i)
-- 16 bytes in 32 hexadecimal digits
with_value set_root Uuid i v s = ok_or (result_ok (decode_sized v 16)) (BadUuid i) >>= λ bytes. Ok (record s { uuid = Some bytes })
-- how many objects are made: 1 to 10,000
with_value set_root Generate i v s =
    ok_or (option_and_then (λ n. if n == 0 then None else Some n) (number_up_to 10000 v)) (BadNumber i)
    >>= λ n. Ok (record s { generate = Some n })

-- The three values of `-platform_version`, which is the word i: a platform, the lowest version of the system,
-- and the version of the SDK.
unfoldable pub with_platform : ℕ → List ℕ → List ℕ → List ℕ → Settings → Result Settings ArgsFault
with_platform i platform minimum sdk s =
    if bytes_eq platform (codes "macos") then (do
      lowest ← ok_or (version_of minimum) (BadVersion (i + 2))
      built ← ok_or (version_of sdk) (BadVersion (i + 3))
      Ok (record s { platform_version = Some (record { platform = platform; minimum_version = lowest; sdk_version = built }) }))
    else Err (BadPlatform (i + 1))
