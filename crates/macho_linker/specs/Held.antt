-- The link that a linker holds, by its fields, and what holds of it.
use Rattle.std.specs.Prelude.{◌≡◌, ◌<◌, ◌^◌, false, ℕ, Bool, List, length, All, Option}
use Rattle.macho_model.specs.Links.{Link, Input}
use Rattle.macho_model.specs.Faults.{bad_name}
use Rattle.macho_promise.specs.Inputs.{IsInput}

abbrev pub held_link : (executable dead_strip_dylibs headerpad : Bool) (output entry install_name : List ℕ) (rpaths : List (List ℕ))
    (versions : Option (ℕ × ℕ)) (inputs : List Input) (export_lists : List (List ℕ)) → Link
held_link executable dead_strip_dylibs headerpad output entry install_name rpaths versions inputs export_lists = record {
  executable = executable;
  output = output;
  entry = entry;
  install_name = install_name;
  rpaths = rpaths;
  versions = versions;
  dead_strip_dylibs = dead_strip_dylibs;
  headerpad = headerpad;
  inputs = inputs;
  export_lists = export_lists;
}

-- The inputs of a link are what their kinds say, as many as numbers of 32 bits tell; and its names can be written.
pub record IsHeld (l : Link) : Type 0 where
  pub inputs : All IsInput l.inputs
  pub few : length l.inputs < 2 ^ 32
  pub names : bad_name l ≡ false
