-- What the sizes and the placement of a link are made from.
use Rattle.std.specs.Prelude.{◌≡◌, ◌^◌, ◌<◌, false, List, map, length, All}
use Rattle.macho_model.specs.Links.{Link}
use Rattle.macho_model.specs.Needs.{imports_of, libraries_needed}
use Rattle.macho_model.specs.Told.{ToldExport}
use Rattle.macho_promise.specs.Noted.{AreNeeds}
use Rattle.macho_promise.specs.Views.{views_of, ViewsObject}
use Rattle.macho_symbols.specs.Kept.{IsResolved}
use Rattle.macho_needs.specs.Noted.{needed_of}
use Rattle.macho_consumed.specs.Rows.{initializer_rows, entry_rows}
use Rattle.macho_consumed.specs.Symbols.{HasPersonality}
use Rattle.macho_consumed.specs.Told.{EntriesKeepRules}
use Rattle.macho_trie.specs.Sorting.{AreDistinct, HaveNoNul}
use Rattle.macho_linkedit.specs.Counting.{AreArguments}
use Rattle.macho_linkedit.specs.Listing.{AreObjects}
use Rattle.macho_linkedit.specs.Tries.{AreKept, names_in}
use Rattle.macho_sizing.specs.declared.asked.SizesOf.{SizesOf}

-- The inputs are those of a link, and so are the libraries that it needs.
pub record AreInputs (l : Link) (a : SizesOf) : Type 0 where
  pub views : a.views.now ≡ views_of l
  pub objects : AreObjects l a.objects.now
  pub libraries : map (λ n. n.items) a.libraries.now ≡ libraries_needed l

-- What was read of the objects is that of a link: needs, rows of consumed sections, exported names.
pub record IsRead (l : Link) (a : SizesOf) : Type 0 where
  pub needs : AreNeeds l (needed_of a.needs.now)
  pub resolved : IsResolved l (imports_of l) a.needs.now.resolved
  pub initializers : a.initializers.now ≡ initializer_rows l
  pub entries : (a.entries.now ≡ entry_rows l) × EntriesKeepRules l
  pub told : List ToldExport
  pub exports : AreKept l told a.exports.now

-- THE link whose sizes are asked for.
pub record AreOf (l : Link) (a : SizesOf) : Type 0 where
  pub arguments : AreArguments l a.arguments
  pub inputs : AreInputs l a
  pub read : IsRead l a

-- What a caller owes: views of objects that keep their rules, symbols of rows that are known, names that a trie takes; all
-- of some link.
pub record CanBeSized (a : SizesOf) : Type 0 where
  pub few : length a.views.now < 2 ^ 32
  pub rules : All ViewsObject a.views.now
  pub kinds : All (λ o. o.file.is_dynamic ≡ false) a.objects.now
  pub known : All (HasPersonality a.needs.now.resolved) a.entries.now
  pub names : AreDistinct (names_in a.exports.now) × HaveNoNul (names_in a.exports.now)
  pub link : Link
  pub of_link : AreOf link a
