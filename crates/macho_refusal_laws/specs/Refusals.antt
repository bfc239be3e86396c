-- What follows from a refusal that stands, and when none does.
use Rattle.std.specs.Prelude.{◌≡◌, ℕ, ◌+◌, ◌<◌, false, List}
use Rattle.macho_model.specs.declared.placed.Counts.{Counts}
use Rattle.macho_model.specs.Links.{Link}
use Rattle.macho_model.specs.Placement.{Placed}
use Rattle.macho_model.specs.Limits.{IsWritten32, LIMIT_32}
use Rattle.macho_model.specs.Faults.{IsDuplicate, NoneStands, bad_name}
use Rattle.macho_promise.specs.Sizes.{AreCounts}
use Rattle.macho_answer.specs.declared.fault.LinkError.{LinkError}
use Rattle.macho_answer.specs.Standing.{Stands}
use Rattle.macho_fields.specs.Faults.{NoneIsBad}
use Rattle.macho_model.specs.Grammar.{ObjectsAreRead}
use Rattle.macho_size_laws.specs.Limits.{LimitsHold}
use Rattle.macho_writing_laws.specs.Valid.{ObjectsAreBytes}
use Rattle.macho_reading.specs.Read.{IsFit}
use Rattle.macho_answer.specs.Linked.{IsRefused}

-- a refusal that stands for the sizes of a link is the refusal of the link: a valid link has none but want of memory
abbrev pub StandingIsTold : Type 0
StandingIsTold =
    (l : Link) (e : LinkError) → ObjectsAreRead l → ObjectsAreBytes l → bad_name l ≡ false
    → ((counts : Counts) → AreCounts l counts → Stands l counts e) → IsRefused l e

-- What each pass of a link looks for isn't there.
pub record IsClear (l : Link) (counts : Counts) (p : Placed) : Type 0 where
  pub single : (name : List ℕ) (first second : ℕ) → IsDuplicate l name first second → ⊥
  pub fit : IsFit l
  pub limits : LimitsHold l counts p
  pub written : (x : ℕ) → IsWritten32 l p x → x < p.base + LIMIT_32
  pub values : NoneIsBad l p
  pub name : bad_name l ≡ false

-- then no refusal stands
abbrev pub ClearIsUnrefused : Type 0
ClearIsUnrefused = (l : Link) (counts : Counts) (p : Placed) → IsClear l counts p → NoneStands l counts p
