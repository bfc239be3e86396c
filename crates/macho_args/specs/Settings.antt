-- The fields of `MachOArgs` in plain lists and numbers. Clauses compare these, and the meaning of a
-- command line is one of them. Texts are lists of bytes.
use Rattle.std.specs.Prelude.{ℕ, List, [], ◌∷◌, map, Bool, false, Option, None, Some, codes, unwrap_or, if◌then◌else◌}
use Rattle.std.specs.Option.{option_map}
use Rattle.std.specs.String.{string_bytes}
use Rattle.macho_args.specs.declared.fields.InputSpec.{InputSpec}
use Rattle.macho_args.specs.declared.fields.InputSpec.TheVariants.{File, Lib, Framework}
use Rattle.macho_args.specs.declared.fields.PlatformVersion.{PlatformVersion}
use Rattle.macho_args.specs.declared.fields.MachOArgs.{MachOArgs}
use Rattle.macho_args.specs.Version.{version_number}

-- what an input is asked for as: a file by its path, a library or a framework by its name
pub data InputKind : Type 0 where
  file library framework : InputKind

-- an input, with the index of the word in which its path or name stands
pub record Input : Type 0 where
  pub kind : InputKind
  pub word : ℕ
  pub name : List ℕ

-- a platform with the lowest version that the output runs on and the version of the SDK, both packed
pub record Platform : Type 0 where
  pub platform : List ℕ
  pub minimum_version : ℕ
  pub sdk_version : ℕ

-- one field for each field of `MachOArgs`; `map_lines` is `map`
pub record Settings : Type 0 where
  pub output : List ℕ
  pub inputs : List Input
  pub platform_version : Option Platform
  pub sysroot : Option (List ℕ)
  pub lib_search_path : List (List ℕ)
  pub framework_search_path : List (List ℕ)
  pub plugin_path : Option (List ℕ)
  pub dead_strip_dylibs : Bool
  pub headerpad_max_install_names : Bool
  pub entry : List ℕ
  pub dylib : Bool
  pub install_name : Option (List ℕ)
  pub rpaths : List (List ℕ)
  pub export_list_paths : List (ℕ × List ℕ)
  pub uuid : Option (List ℕ)
  pub map_lines : Bool
  pub generate : Option ℕ

-- an input without where its text lies in memory
abbrev pub input_of : InputSpec → Input
input_of (File word path) = record { kind = file; word = word; name = string_bytes path }
input_of (Lib word name) = record { kind = library; word = word; name = string_bytes name }
input_of (Framework word name) = record { kind = framework; word = word; name = string_bytes name }

-- a platform without where its name lies in memory
abbrev pub platform_of : PlatformVersion → Platform
platform_of version =
    record {
      platform = string_bytes version.platform;
      minimum_version = version_number version.minimum_version;
      sdk_version = version_number version.sdk_version;
    }

-- what the fields say
abbrev pub settings_of : MachOArgs → Settings
settings_of args =
    record {
      output = string_bytes args.output;
      inputs = map input_of args.inputs.items;
      platform_version = option_map platform_of args.platform_version;
      sysroot = option_map string_bytes args.sysroot;
      lib_search_path = map string_bytes args.lib_search_path.items;
      framework_search_path = map string_bytes args.framework_search_path.items;
      plugin_path = option_map string_bytes args.plugin_path;
      dead_strip_dylibs = args.dead_strip_dylibs;
      headerpad_max_install_names = args.headerpad_max_install_names;
      entry = string_bytes args.entry;
      dylib = args.dylib;
      install_name = option_map string_bytes args.install_name;
      rpaths = map string_bytes args.rpaths.items;
      export_list_paths = map (λ path. (path.0, string_bytes path.1)) args.export_list_paths.items;
      uuid = args.uuid;
      map_lines = args.map;
      generate = args.generate;
    }

-- before any word is read
abbrev pub fresh : Settings
fresh =
    record {
      output = codes "a.out";
      inputs = [];
      platform_version = None;
      sysroot = None;
      lib_search_path = [];
      framework_search_path = [];
      plugin_path = None;
      dead_strip_dylibs = false;
      headerpad_max_install_names = false;
      entry = codes "_main";
      dylib = false;
      install_name = None;
      rpaths = [];
      export_list_paths = [];
      uuid = None;
      map_lines = false;
      generate = None;
    }

-- the name under which a dynamic library is installed: the one given, else the output path
abbrev pub install_name_of : Settings → List ℕ
install_name_of settings = unwrap_or settings.install_name settings.output

-- the name of the entry function; a dynamic library has none
abbrev pub entry_of : Settings → Option (List ℕ)
entry_of settings = if settings.dylib then None else Some settings.entry

-- the flags, without their `-`, that are taken and ignored
abbrev pub ignored_flags : List (List ℕ)
ignored_flags = codes "export_dynamic" ∷ codes "O0" ∷ codes "O1" ∷ codes "O2" ∷ codes "O3" ∷ []
