-- What a word on the chains of an image leads to, against what a link asks of it.
use Rattle.std.specs.Prelude.{◌≡◌, ℕ, ◌%◌, ◌^◌, Bool, true, false, List, [], get_or, Option, Some, None}
use Rattle.std.specs.FinMap.{empty}
use Rattle.macho_model.specs.declared.targets.Target.{Target}
use Rattle.macho_model.specs.declared.targets.Target.TheVariants as target
use Rattle.macho_model.specs.Links.{Link}
use Rattle.macho_model.specs.Needs.{imports_of, import_library}
use Rattle.macho_model.specs.Images.{libraries_of}
use Rattle.macho_model.specs.Chain.{OnChainOf}
use Rattle.macho_model.specs.Loader.{IsAccepted}
use Rattle.macho_model.specs.Placement.{Placed}
use Rattle.macho_model.specs.Stands.{IsAt}
use Rattle.macho_loader.specs.Lists.{Import, imports_of_image, SaysKind}
use Rattle.macho_loader.specs.declared.chain_list.FixupLine.{FixupLine}

-- A line is of an accepted image: it says what the word at its address says.
pub record IsLineOf (b : List ℕ) (line : FixupLine) : Type 0 where
  pub accepted : IsAccepted b
  pub says : SaysKind b line.address line.kind

-- what is found at an address: the line of the word on the chains there, and nothing exactly off the chains
abbrev pub IsLineAt : List ℕ → ℕ → Option FixupLine → Type 0
IsLineAt b a None = OnChainOf b a → ⊥
IsLineAt b a (Some line) = (line.address ≡ a) × IsLineOf b line

-- Lists are the imports of an image and the names of its libraries.
pub record AreImportsOf (b : List ℕ) (imports : List Import) (libraries : List (List ℕ)) : Type 0 where
  pub imports_are : imports ≡ imports_of_image b
  pub libraries_are : libraries ≡ libraries_of b

-- a target is a symbol of a library
abbrev pub is_import : Target → Bool
is_import (target.Import id) = true
is_import t = false

-- A target that is no symbol of a library has an address at slide 0, which is this one modulo 2 ^ 64.
pub record IsPlacedAt (l : Link) (p : Placed) (t : Target) (x : ℕ) : Type 0 where
  pub own : is_import t ≡ false
  pub place : ℕ
  pub at : IsAt l p 0 empty t place
  pub each : (y : ℕ) → IsAt l p 0 empty t y → y % 2 ^ 64 ≡ x

-- The import of a number has this name and is of the library of this name.
pub record IsImportNamed (l : Link) (id : ℕ) (library name : List ℕ) : Type 0 where
  pub name_is : get_or (imports_of l) id [] ≡ name
  pub library_is : import_library l name ≡ library
