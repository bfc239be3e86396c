-- A link before a placement: what is read of it, and its plan.
use Rattle.std.specs.Prelude.{◌≡◌, ℕ, ◌<◌, ◌^◌, false, List, length, Option, All}
use Rattle.macho_model.specs.declared.placed.Counts.{Counts}
use Rattle.macho_model.specs.Links.{Link}
use Rattle.macho_model.specs.Needs.{libraries_needed}
use Rattle.macho_model.specs.Faults.{IsDuplicate}
use Rattle.macho_model.specs.Grammar.{ObjectsAreRead}
use Rattle.macho_object.specs.Views.{FileBytes}
use Rattle.macho_promise.specs.Sizes.{AreCounts}
use Rattle.macho_promise.specs.Views.{views_of, ViewsObject}
use Rattle.macho_promise_laws.specs.Names.{StubsArePlain}
use Rattle.macho_answer.specs.declared.fault.LinkError.{LinkError}
use Rattle.macho_answer.specs.Standing.{Stands}
use Rattle.macho_export_lists.specs.Entries.{ListEntries}
use Rattle.macho_symbols.specs.Exported.{AreLists}
use Rattle.macho_linkedit.specs.declared.exports.NamedExport.{NamedExport}
use Rattle.macho_linkedit.specs.declared.listing.LinkedObject.{LinkedObject}
use Rattle.macho_linkedit.specs.Listing.{AreObjects}
use Rattle.macho_linkedit.specs.Tries.{AreKept}
use Rattle.macho_symbol_tables.specs.Exports.{exports_told}
use Rattle.macho_refusal_laws.specs.ReadLink.{ReadLink}
use Rattle.macho_refusal_laws.specs.Read.{IsReadOf, AreKnown}
use Rattle.macho_sizing.specs.declared.asked.PlannedLink.{PlannedLink}
use Rattle.macho_sizing.specs.Sized.{IsPlannedOf}

-- no name has two strong definitions
abbrev pub IsSingle : Link → Type 0
IsSingle l = (name : List ℕ) (first second : ℕ) → IsDuplicate l name first second → ⊥

-- a refusal stands by the sizes of the link
abbrev pub StandsAlways : Link → LinkError → Type 0
StandsAlways l e = (counts : Counts) → AreCounts l counts → Stands l counts e

-- What was read is that of a link.
pub record IsToSize (l : Link) (views : List (Option FileBytes)) (objects : List LinkedObject) (lists : Option ListEntries)
    (read : ReadLink)
    (libraries : List (List ℕ)) : Type 0 where
  pub views_are : (views ≡ views_of l) × All ViewsObject views × (length views < 2 ^ 32)
  pub objects_are : AreObjects l objects × All (λ o. o.file.is_dynamic ≡ false) objects
  pub lists_are : AreLists l lists
  pub read_is : IsReadOf l read × AreKnown views read
  pub libraries_are : libraries ≡ libraries_needed l
  pub rules : ObjectsAreRead l × StubsArePlain l

-- Plan and sizes are those of a link, with the exported names that are kept of what was read.
pub record HasPlan (l : Link) (read : ReadLink) (planned : PlannedLink) : Type 0 where
  pub kept : List NamedExport
  pub exports : AreKept l (exports_told read.exports.items) kept
  pub plan : IsPlannedOf l kept planned
