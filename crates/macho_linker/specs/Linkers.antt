-- What a linker holds: the arguments that matter to it, and its inputs in order.
use Rattle.std.specs.Prelude.{◌≡◌, ℕ, List, not, [], ◌∷◌, ◌++◌}
use Rattle.std.specs.Option.{option_map}
use Rattle.macho_args.specs.Settings.{Settings, install_name_of}
use Rattle.macho_model.specs.Links.{Link, Input, Object, Dylib, Stub, StubReading}
use Rattle.macho_model.specs.LinkLaws.{with_input}
use Rattle.macho_promise.specs.Inputs.{IsStubInput}

-- what is linked by arguments, before an input is added
abbrev pub link_of : Settings → Link
link_of s = record {
  executable = not s.dylib;
  output = s.output;
  entry = s.entry;
  install_name = install_name_of s;
  rpaths = s.rpaths;
  versions = option_map (λ p. (p.minimum_version, p.sdk_version)) s.platform_version;
  dead_strip_dylibs = s.dead_strip_dylibs;
  headerpad = s.headerpad_max_install_names;
  inputs = [];
  export_lists = [];
}

-- a link with an export list more
abbrev pub with_export_list : Link → List ℕ → Link
with_export_list l text = record l { export_lists = l.export_lists ++ text ∷ [] }

-- the bytes of an input
abbrev pub bytes_of : Input → List ℕ
bytes_of (Object bytes) = bytes
bytes_of (Dylib bytes) = bytes
bytes_of (Stub text says) = text

-- The stub of a text was taken: it is the last input, with what it says.
pub record TakesStub (old new : Link) (text : List ℕ) : Type 0 where
  pub says : StubReading
  pub stub : IsStubInput text says
  pub added : new ≡ with_input old (Stub text says)
