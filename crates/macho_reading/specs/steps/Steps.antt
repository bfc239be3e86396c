-- A link on the way: its carried relocations are noted, its consumed sections are read.
use Rattle.std.specs.Prelude.{◌≡◌, ℕ, ◌++◌, true, List, Option}
use Rattle.macho_object.specs.Views.{FileBytes}
use Rattle.macho_model.specs.Links.{Link}
use Rattle.macho_model.specs.Uses.{Use, uses_of}
use Rattle.macho_model.specs.Faults.{entry_is_defined}
use Rattle.macho_export_lists.specs.Entries.{ListEntries}
use Rattle.macho_symbols.specs.Exported.{AreLists}
use Rattle.macho_promise.specs.Noted.{uses_of_carried, uses_of_initializers, uses_of_personalities}
use Rattle.macho_needs.specs.declared.needs.Needs.{Needs}
use Rattle.macho_needs.specs.Noted.{IsNoted}
use Rattle.macho_promise.specs.Views.{views_of}
use Rattle.macho_consumed.specs.Told.{EntriesKeepRules}
use Rattle.macho_reading.specs.declared.rows.Rows.{Rows}
use Rattle.macho_reading.specs.Read.{entry_of}
use Rattle.macho_reading.specs.steps.Rows.{AreRows, KeepRules}

-- the uses that stand before names of export lists
unfoldable pub uses_before_names : Link → List Use
uses_before_names l = uses_of_carried l ++ uses_of_initializers l ++ uses_of_personalities l

-- The link whose carried relocations are noted, whose objects these views are of, and whose entry and export lists are given.
pub record IsSurveyed (l : Link) (views : List (Option FileBytes)) (needs : Needs) (entry : Option (List ℕ))
    (list : Option ListEntries) : Type 0 where
  pub views_are : views ≡ views_of l
  pub noted : IsNoted l (uses_of_carried l) needs
  pub entry_is : entry ≡ entry_of l
  pub lists : AreLists l list

-- The same whose rows these are, and whose entry and export lists are given.
pub record IsHalfRead (l : Link) (needs : Needs) (rows : Rows) (entry : Option (List ℕ)) (list : Option ListEntries) : Type 0 where
  pub noted : IsNoted l (uses_of_carried l) needs
  pub are : AreRows l rows
  pub keep : EntriesKeepRules l
  pub entry_is : entry ≡ entry_of l
  pub lists : AreLists l list

-- All uses are noted, these are the rows, and of names and consumed sections nothing stands against the link.
pub record IsNotedWith (l : Link) (needs : Needs) (rows : Rows) : Type 0 where
  pub noted : IsNoted l (uses_of l) needs
  pub are : AreRows l rows
  pub keep : KeepRules l
  pub entry : entry_is_defined l ≡ true
