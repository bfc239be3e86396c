-- What the code's own steps over the imports of an image say.
use Rattle.std.specs.Prelude.{◌≡◌, ℕ, ◌-◌, ◌<◌, List, [], length, get_or}
use Rattle.macho_loader.specs.Lists.{Import}

-- stands for an import outside of a list
abbrev pub no_import : Import
no_import = record { library = 0; name = []; addend = 0 }

-- The import of a number has a name, and its library has one.
pub record IsEntry (imports : List Import) (libraries : List (List ℕ)) (number : ℕ) (library name : List ℕ) : Type 0 where
  pub among : number < length imports
  pub library_is : get_or libraries ((get_or imports number no_import).library - 1) [] ≡ library
  pub name_is : (get_or imports number no_import).name ≡ name
