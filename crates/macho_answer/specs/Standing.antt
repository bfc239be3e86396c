-- When a refusal of a link stands.
use Rattle.std.specs.Prelude.{IfSome, MatchOption}
use Rattle.macho_model.specs.declared.placed.Counts.{Counts}
use Rattle.macho_model.specs.Links.{Link}
use Rattle.macho_model.specs.Faults.{LinkFault, FaultStands, kept_placement}
use Rattle.macho_promise.specs.Promise.{IsKept}
use Rattle.macho_answer.specs.declared.fault.LinkError.{LinkError}
use Rattle.macho_answer.specs.declared.fault.LinkError.TheVariants.{OutOfMemory}
use Rattle.macho_answer.specs.Errors.{fault_of}

-- What a refusal says is so, and a placement that it keeps is placed as that of an answer is.
pub record IsStanding (l : Link) (counts : Counts) (f : LinkFault) : Type 0 where
  pub stands : FaultStands l counts f
  pub kept : IfSome (kept_placement f) (IsKept l)

-- THE refusal stands: what it says of the link and its counts is so; one that says nothing of the link never stands. Nothing is
-- claimed of want of memory.
abbrev pub Stands : Link → Counts → LinkError → Type 0
Stands l counts OutOfMemory = Unit {0}
Stands l counts e = MatchOption (fault_of e) ⊥ (IsStanding l counts)
