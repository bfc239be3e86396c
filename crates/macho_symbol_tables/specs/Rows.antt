-- What the symbol table of a link is made from.
use Rattle.std.specs.Prelude.{◌≡◌, false, List, Option, All}
use Rattle.macho_model.specs.declared.placed.Counts.{Counts}
use Rattle.macho_model.specs.Links.{Link}
use Rattle.macho_model.specs.Placement.{Placed}
use Rattle.macho_export_lists.specs.Entries.{ListEntries}
use Rattle.macho_symbols.specs.Exported.{AreLists}
use Rattle.macho_fields.specs.Looks.{Look}
use Rattle.macho_linkedit.specs.declared.listing.LinkedObject.{LinkedObject}
use Rattle.macho_linkedit.specs.declared.listing.TableSymbols.{TableSymbols}
use Rattle.macho_linkedit.specs.Listing.{AreObjects, AreListed}
use Rattle.macho_symbol_tables.specs.Placed.{IsToTable}

-- These are the objects of a placed link, the symbols of its table, and its export lists.
pub record AreToList (l : Link) (counts : Counts) (p : Placed) (look : Look) (objects : List LinkedObject) (listed : TableSymbols)
    (lists : Option ListEntries) : Type 0 where
  pub link : IsToTable l counts p look
  pub objects_are : AreObjects l objects
  pub kinds : All (λ o. o.file.is_dynamic ≡ false) objects
  pub listed_are : AreListed l listed
  pub lists_are : AreLists l lists
