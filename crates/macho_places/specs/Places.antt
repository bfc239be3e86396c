-- What is looked up of a placed link, and of which link it is.
use Rattle.std.specs.Prelude.{◌≡◌, ℕ, List, Option}
use Rattle.macho_model.specs.declared.placed.Counts.{Counts}
use Rattle.macho_model.specs.Links.{Link}
use Rattle.macho_model.specs.Needs.{imports_of}
use Rattle.macho_model.specs.Placement.{Placed}
use Rattle.macho_object.specs.Views.{FileBytes}
use Rattle.macho_promise.specs.Views.{views_of}
use Rattle.macho_promise.specs.Noted.{AreNeeds}
use Rattle.macho_layout_laws.specs.Laws.{IsWhollyPlaced}
use Rattle.macho_symbols.specs.Kept.{ResolvedRows, IsResolved, HasSymbol}
use Rattle.macho_needs.specs.declared.needs.Needs.{Needs}
use Rattle.macho_needs.specs.Noted.{needed_of}
use Rattle.macho_needs.specs.Tables.{Numbered}

-- By what is looked up: the placement, the rows of symbols, the count of imports that are noted, the tables of slots, stubs and
-- entries, and the views of the objects.
pub record Known : Type 0 where
  pub placed : Placed
  pub rows : ResolvedRows
  pub imports : ℕ
  pub tables : Numbered
  pub views : List (Option FileBytes)

-- A symbol is known: it is one of an object of a link whose symbols are resolved.
pub record IsKnown (rows : ResolvedRows) (file symbol : ℕ) : Type 0 where
  pub link : Link
  pub resolved : IsResolved link rows.noted rows
  pub there : HasSymbol rows file symbol

-- A placement, needs and views are those of a link.
pub record AreOfLink (l : Link) (counts : Counts) (p : Placed) (needs : Needs) (views : List (Option FileBytes)) : Type 0 where
  pub placed : IsWhollyPlaced l counts p
  pub noted : AreNeeds l (needed_of needs)
  pub resolved : IsResolved l (imports_of l) needs.resolved
  pub objects : views ≡ views_of l
