-- What is read of a link before anything has an address, and when nothing of it stands against the link.
use Rattle.std.specs.Prelude.{◌≡◌, ℕ, if◌then◌else◌, true, List, [], Option, Some, None, All}
use Rattle.macho_object.specs.Views.{FileBytes}
use Rattle.macho_model.specs.ExportLists.{plain_entries}
use Rattle.macho_model.specs.Links.{Link}
use Rattle.macho_model.specs.Needs.{imports_of}
use Rattle.macho_model.specs.Faults.{entry_is_defined}
use Rattle.macho_export_lists.specs.Entries.{ListEntries}
use Rattle.macho_symbols.specs.Exported.{AreLists, AreExports}
use Rattle.macho_symbols.specs.Kept.{ResolvedRows, IsResolved}
use Rattle.macho_symbols.specs.Told.{AreDefined}
use Rattle.macho_promise.specs.Noted.{AreNeeds}
use Rattle.macho_promise.specs.Sound.{NamesAreFound, IsSound}
use Rattle.macho_needs.specs.Noted.{needed_of}
use Rattle.macho_promise.specs.Views.{views_of}
use Rattle.macho_relocation_scan.specs.Surveys.{AreOfInputs}
use Rattle.macho_consumed.specs.Rows.{initializer_rows, entry_rows}
use Rattle.macho_consumed.specs.Symbols.{HasPointer, HasPersonality}
use Rattle.macho_consumed.specs.Told.{InitializersKeepRules, EntriesKeepRules}
use Rattle.macho_reading.specs.declared.link.ReadLink.{ReadLink}

-- the name that an image is entered at: an executable alone has one
abbrev pub entry_of : Link → Option (List ℕ)
entry_of l = if l.executable then Some l.entry else None

-- These are the link's: views of its objects, its symbols with no import noted, the name of its entry and the entries of its export
-- lists.
pub record IsLinkOf (l : Link) (views : List (Option FileBytes)) (symbols : ResolvedRows) (entry : Option (List ℕ))
    (list : Option ListEntries) : Type 0 where
  pub views_are : views ≡ views_of l
  pub resolved : IsResolved l [] symbols
  pub entry_is : entry ≡ entry_of l
  pub lists : AreLists l list

-- Nothing that is read stands against the link.
pub record IsFit (l : Link) : Type 0 where
  -- each name that is used is defined, an executable's entry in a carried section, and each name of export lists
  pub names : NamesAreFound l
  pub entry : entry_is_defined l ≡ true
  pub listed : AreDefined l (plain_entries l.export_lists)
  -- consumed sections keep their rules
  pub initializers : InitializersKeepRules l
  pub entries : EntriesKeepRules l
  -- carried relocations are sound
  pub sound : IsSound l

-- THE reading of a link.
pub record IsReadOf (l : Link) (r : ReadLink) : Type 0 where
  -- imports, slots, stubs and import entries, numbered by first need
  pub needs : AreNeeds l (needed_of r.needs)
  pub resolved : IsResolved l (imports_of l) r.needs.resolved
  -- a row for each initializer and each unwind entry
  pub initializers : r.initializers.items ≡ initializer_rows l
  pub entries : r.entries.items ≡ entry_rows l
  pub exports : AreExports l (imports_of l) r.exports.items
  pub fit : IsFit l

-- What is read names files that are viewed, and symbols that are kept of them.
pub record AreKnown (views : List (Option FileBytes)) (r : ReadLink) : Type 0 where
  pub same : AreOfInputs views r.needs.resolved.files
  pub initializers : All (HasPointer r.needs.resolved) r.initializers.items
  pub entries : All (HasPersonality r.needs.resolved) r.entries.items
