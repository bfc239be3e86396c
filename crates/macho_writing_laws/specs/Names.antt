-- The names of imports and of libraries hold no NUL.
use Rattle.std.specs.Prelude.{ℕ, ◌≤◌, List, length, All}
use Rattle.macho_model.specs.Lists.{IsNumber}
use Rattle.macho_model.specs.Links.{Link, StubReading, Stub}
use Rattle.macho_model.specs.Needs.{imports_of, libraries_needed}
use Rattle.macho_promise.specs.Views.{IsPlain}
use Rattle.macho_placed_laws.specs.Agreement.{NamesAreWhole}
use Rattle.macho_linkedit.specs.Imports.{AreTellable}

-- The texts that a stub is read as are plain.
pub record IsPlainReading (says : StubReading) : Type 0 where
  pub install_name : IsPlain says.install_name
  pub names : All IsPlain says.names
  pub weak_names : All IsPlain says.weak_names

abbrev pub StubsArePlain : Link → Type 0
StubsArePlain l = (file : ℕ) (text : List ℕ) (says : StubReading) → IsNumber l.inputs file (Stub text says) → IsPlainReading says

-- then the names of imports are plain
abbrev pub ImportsArePlain : Type 0
ImportsArePlain = (l : Link) → StubsArePlain l → All IsPlain (imports_of l)

-- so a table can tell the imports, as there are few enough libraries
abbrev pub ImportsAreTellable : Type 0
ImportsAreTellable = (l : Link) → StubsArePlain l → length (libraries_needed l) ≤ 240 → AreTellable l

-- and load commands can tell the libraries
abbrev pub LibrariesAreWhole : Type 0
LibrariesAreWhole = (l : Link) → StubsArePlain l → NamesAreWhole l
