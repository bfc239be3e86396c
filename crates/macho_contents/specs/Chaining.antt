-- The words of a placed link's fixups: what their writing rests on, and what is written.
use Rattle.std.specs.Prelude.{◌≡◌, ℕ, List, length}
use Rattle.macho_model.specs.declared.placed.Counts.{Counts}
use Rattle.macho_model.specs.declared.targets.Site.{Site}
use Rattle.macho_model.specs.Links.{Link}
use Rattle.macho_model.specs.ImportTable.{fixup_count}
use Rattle.macho_model.specs.Placement.{Placed}
use Rattle.macho_model.specs.Values.{BadRebase}
use Rattle.macho_fixups.specs.declared.run.Fixup.{Fixup}
use Rattle.macho_fixups.specs.Runs.{AreSegments}
use Rattle.macho_fixups.specs.Chains.{HaveRoom, ChainIsRun}
use Rattle.macho_promise.specs.FixupsSay.{fixup_segments}
use Rattle.macho_promise.specs.Asked.{fixups_asked}
use Rattle.macho_layout_laws.specs.Laws.{IsWhollyPlaced}
use Rattle.macho_linkedit.specs.Runs.{IsRunOf, PointersFit}
use Rattle.macho_image_laws.specs.Leads.{TargetsLead}
use Rattle.macho_image_laws.specs.Laws.{WordsAreWritten}

-- Chains may go through a placed link: its pointers stand where chains reach them, lead to what has a place, and have words.
pub record CanBeChained (l : Link) (counts : Counts) (p : Placed) : Type 0 where
  pub placed : IsWhollyPlaced l counts p
  pub leads : TargetsLead l
  pub pointers : PointersFit l p
  pub segments : AreSegments (fixup_segments p)
  -- no value of a slot or of a pointer is without a word
  pub encoded : (at : Site) → BadRebase l p at → ⊥

-- These are the fixups that the parts of the link ask for, and their segments lie in a file of n bytes.
pub record IsToChain (l : Link) (counts : Counts) (p : Placed) (asked : List Fixup) (n : ℕ) : Type 0 where
  pub can : CanBeChained l counts p
  pub asked_are : asked ≡ fixups_asked l p
  pub room : HaveRoom (fixup_segments p) asked n

-- THE words of a link are written over a file: the run is the link's, by rising addresses, and its chain goes through all of it.
pub record IsChained (l : Link) (p : Placed) (run : List Fixup) (before now : List ℕ) : Type 0 where
  pub run_is : IsRunOf l p run
  pub count : length run ≡ fixup_count l
  pub chain : ChainIsRun (fixup_segments p) run
  pub written : WordsAreWritten l p run before now
